-- Words of the earlier form that a run doesn't begin at since a number might run over: the cases are those of today's images.
use Rattle.std.specs.Prelude.{ℕ, ◌+◌, ◌^◌, ◌<◌, ◌≤◌, List, length, slice_index}
use Rattle.ink_base.specs.declared.limits.TheConstants as limits
use Rattle.task_isa.specs.declared.program.Program.{Program}
use Rattle.fram_words.specs.Places.{Memory, Clock}
use Rattle.fram_words.specs.Header as header
use Rattle.thread_state.specs.Pages.{committed}
use Rattle.push_core.specs.Table.{greatest_tail}
use Rattle.never_cut.specs.Image.{taken_of, written_of}
use Rattle.never_cut.specs.Worn.{listed_into}
use Rattle.old_image.specs.Told.{old_next, old_published}

-- An image of the earlier form is worn, with so many readings listed for each source, where one of these holds.
pub data IsOldWorn (program : Program) (listed : List ℕ) (words : Memory) : Type 0 where
  -- a source has settled so many readings that those that are listed don't fit behind them
  ManyReadings : (i : ℕ) → i < length program.sources → limits.READINGS < old_next program words i + slice_index listed i → IsOldWorn program listed words
  -- the clock has gone half its way
  LateClock : 2 ^ 46 ≤ words Clock → IsOldWorn program listed words
  -- a stamp, and so the number of commits, has half of its range behind it
  ManyCommits : (t : ℕ) → t < length program.threads → 2 ^ 31 ≤ committed words t header.stamp → IsOldWorn program listed words
  -- a count of services that were served, trapped or expired
  ManyServices : (t w : ℕ) → t < length program.threads → header.served ≤ w → w ≤ header.expired → 2 ^ 31 ≤ committed words t w → IsOldWorn program listed words
  -- a count of items that were written to a pipe, or taken from it
  ManyWritten : (q : ℕ) → q < length program.pipes → 2 ^ 31 ≤ written_of program words q → IsOldWorn program listed words
  ManyTaken : (q : ℕ) → q < length program.pipes → 2 ^ 31 ≤ taken_of program words q → IsOldWorn program listed words
  -- a queue has no position left for each reading that is listed
  ManyPositions : (t : ℕ) → t < length program.threads → greatest_tail < old_published program words t + listed_into program listed t (length program.sources)
      → IsOldWorn program listed words

-- for some list of readings it isn't worn
abbrev pub IsFresh : Program → Memory → Type 0
IsFresh program words = (listed : List ℕ) × ¬ IsOldWorn program listed words
