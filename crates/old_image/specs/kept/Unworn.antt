-- What isn't worn: the parts whose numbers have room.
use Rattle.std.specs.Prelude.{ℕ, ◌+◌, ◌^◌, ◌<◌, ◌≤◌, List, length, slice_index}
use Rattle.ink_base.specs.declared.limits.TheConstants as limits
use Rattle.task_isa.specs.declared.program.Program.{Program}
use Rattle.fram_words.specs.Places.{Memory}
use Rattle.fram_words.specs.Header as header
use Rattle.thread_state.specs.Pages.{committed}
use Rattle.push_core.specs.Table.{greatest_tail}
use Rattle.never_cut.specs.Image.{taken_of, written_of}
use Rattle.never_cut.specs.Worn.{listed_into}
use Rattle.old_image.specs.Told.{old_next, old_published}

-- a source has numbers for the readings that are listed for it
abbrev pub IsUnwornSource : Program → (listed : List ℕ) → Memory → (i : ℕ) → Type 0
IsUnwornSource program listed words i = old_next program words i + slice_index listed i ≤ limits.READINGS

-- the stamp and the counts of a thread are below half their range, and its queue has positions for all readings that are listed
pub record IsUnwornThread (program : Program) (listed : List ℕ) (words : Memory) (t : ℕ) : Type 0 where
  pub stamp : committed words t header.stamp < 2 ^ 31
  pub served : committed words t header.served < 2 ^ 31
  pub trapped : committed words t header.trapped < 2 ^ 31
  pub expired : committed words t header.expired < 2 ^ 31
  pub positions : old_published program words t + listed_into program listed t (length program.sources) ≤ greatest_tail

-- the counts of a pipe's items are below half their range
pub record IsUnwornPipe (program : Program) (words : Memory) (q : ℕ) : Type 0 where
  pub written : written_of program words q < 2 ^ 31
  pub taken : taken_of program words q < 2 ^ 31
