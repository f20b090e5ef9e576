-- Images and states: what each tells of the other.
use Rattle.std.specs.Prelude.{◌≡◌, ℕ, ◌+◌, ◌<◌, List, length, slice_index}
use Rattle.task_isa.specs.declared.program.Program.{Program}
use Rattle.fram_words.specs.Places.{Memory, Ack, Src}
use Rattle.push_core.specs.Queue.{KeepsNumbers}
use Rattle.prog_check.specs.Accepted.{IsAccepted}
use Rattle.prog_check.specs.Lookup.{source_thread}
use Rattle.never_cut.specs.declared.model.Model.{Model}
use Rattle.never_cut.specs.State.{thread_of, source_of, queue_of, source_in}
use Rattle.never_cut.specs.Entries.{Readings, readings_of}
use Rattle.never_cut.specs.Stands.{Stands}
use Rattle.never_cut.specs.Sound.{IsSound}
use Rattle.never_cut.specs.Start.{CanStart}
use Rattle.never_cut.specs.Within.{Lasts}
use Rattle.never_cut.specs.Image.{IsImage}
use Rattle.never_cut.specs.Worn.{IsWorn}
use Rattle.never_cut.specs.ReadOff.{IsReadOff}

-- each source has the readings that are listed for it behind those that the state has settled
abbrev pub AreListed : Program → (listed : List ℕ) → Model → Readings → Type 0
AreListed program listed m readings = (i : ℕ) → i < length program.sources → length (readings_of readings i) ≡ (source_of m i).next + slice_index listed i

-- the sources keep their numbers in the words
abbrev pub KeepTheirNumbers : Program → Memory → Model → Type 0
KeepTheirNumbers program words m =
    (i : ℕ) → i < length program.sources →
    KeepsNumbers i (words (Src i)) (words (Ack i)) (queue_of (thread_of m (source_thread program i))) (source_in (source_of m i))

-- the words stand for the state, its sources keep their numbers in them, and a run can begin at it
pub record IsStanding (program : Program) (readings : Readings) (words : Memory) (m : Model) : Type 0 where
  pub stands : Stands words program m
  pub numbers : KeepTheirNumbers program words m
  pub start : CanStart program readings m

-- an image that isn't worn stands for the state that is read off it, and a run can begin at that state
abbrev pub EveryImageStands : Type 0
EveryImageStands =
    (program : Program) (readings : Readings) (listed : List ℕ) (words : Memory) (m : Model) → IsAccepted program → IsImage program words → ¬ IsWorn program listed words →
    IsReadOff program words m → AreListed program listed m readings → IsStanding program readings words m

-- words that stand for a sound state whose counts have their room, and in which the sources keep their numbers, are an image
abbrev pub EveryStateIsImage : Type 0
EveryStateIsImage =
    (program : Program) (readings : Readings) (words : Memory) (m : Model) → IsAccepted program → IsSound program readings m → Lasts 0 m →
    Stands words program m → KeepTheirNumbers program words m → IsImage program words
