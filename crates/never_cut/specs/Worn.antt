-- Words that a run doesn't begin at since a number might run over: the cases in which an image is worn.
use Rattle.std.specs.Prelude.{ℕ, zero, suc, ◌+◌, ◌^◌, ◌<◌, ◌≤◌, ◌==◌, if◌then◌else◌, List, length, slice_index}
use Rattle.ink_base.specs.declared.limits.TheConstants as limits
use Rattle.task_isa.specs.declared.program.Program.{Program}
use Rattle.fram_words.specs.Places.{Memory, Clock}
use Rattle.fram_words.specs.Header as header
use Rattle.thread_state.specs.Pages.{committed}
use Rattle.push_core.specs.Table.{greatest_tail}
use Rattle.push_core.specs.Queue.{published}
use Rattle.prog_check.specs.Lookup.{source_thread}
use Rattle.never_cut.specs.Image.{taken_of, written_of}
use Rattle.never_cut.specs.ReadOff.{told_queue, told_source}

-- how many readings are listed for the first so many sources of a thread
abbrev pub listed_into : Program → (listed : List ℕ) → (t count : ℕ) → ℕ
listed_into program listed t zero = 0
listed_into program listed t (suc i) = listed_into program listed t i + (if source_thread program i == t then slice_index listed i else 0)

-- An image is worn, with so many readings listed for each source, where one of these holds.
pub data IsWorn (program : Program) (listed : List ℕ) (words : Memory) : Type 0 where
  -- a source has settled so many readings that those that are listed don't fit behind them
  ManyReadings : (i : ℕ) → i < length program.sources → limits.READINGS < (told_source program words i).next + slice_index listed i → IsWorn program listed words
  -- the clock has gone half its way
  LateClock : 2 ^ 46 ≤ words Clock → IsWorn program listed words
  -- a stamp, and so the number of commits, has half of its range behind it
  ManyCommits : (t : ℕ) → t < length program.threads → 2 ^ 31 ≤ committed words t header.stamp → IsWorn program listed words
  -- a count of services that were served, trapped or expired
  ManyServices : (t w : ℕ) → t < length program.threads → header.served ≤ w → w ≤ header.expired → 2 ^ 31 ≤ committed words t w → IsWorn program listed words
  -- a count of items that were written to a pipe, or taken from it
  ManyWritten : (q : ℕ) → q < length program.pipes → 2 ^ 31 ≤ written_of program words q → IsWorn program listed words
  ManyTaken : (q : ℕ) → q < length program.pipes → 2 ^ 31 ≤ taken_of program words q → IsWorn program listed words
  -- a queue has no position left for each reading that is listed
  ManyPositions : (t : ℕ) → t < length program.threads → greatest_tail < published (told_queue program words t) + listed_into program listed t (length program.sources)
      → IsWorn program listed words
