-- What a fault of a replay tells.
use Rattle.std.specs.Prelude.{◌≡◌, ℕ, ◌<◌, List, length, take, slice_index_or}
use Rattle.ink_base.specs.declared.entry.Entry.{Entry}
use Rattle.ink_base.specs.declared.entry.Entry.TheVariants.{Scan}
use Rattle.task_isa.specs.declared.program.Program.{Program}
use Rattle.never_cut.specs.declared.model.Model.{Model}
use Rattle.never_cut.specs.declared.replay_fault.ReplayFault.{ReplayFault}
use Rattle.never_cut.specs.declared.replay_fault.ReplayFault.TheVariants.{Illegal, NoMemory}
use Rattle.never_cut.specs.declared.entered.Entered.{Entered}
use Rattle.never_cut.specs.declared.entered.Entered.TheVariants as answers
use Rattle.never_cut.specs.Entries.{Readings, Legal, effect}
use Rattle.never_cut.specs.Journal.{IsLegal, after}

-- entry number n isn't legal in its place, and those before it are
pub record IsFirstIllegal (program : Program) (readings : Readings) (first : Model) (entries : List Entry) (n : ℕ) : Type 0 where
  pub there : n < length entries
  pub before : IsLegal program readings first (take n entries)
  pub illegal : ¬ Legal program readings (after program readings first (take n entries)) (slice_index_or entries n Scan)

-- the entry that the fault names, if it names one, is the first illegal one
abbrev pub TellsIllegal : Program → Readings → Model → List Entry → ReplayFault → Type 0
TellsIllegal program readings first entries (Illegal n) = IsFirstIllegal program readings first entries n
TellsIllegal program readings first entries NoMemory = Unit {0}

-- what is told of an entry: it was legal, and its effect is made; or it isn't, and nothing changed
abbrev pub TellsEntry : Program → Readings → (old : Model) → Entry → (new : Model) → Entered → Type 0
TellsEntry program readings old e new answers.Made = Legal program readings old e × (new ≡ effect program readings old e)
TellsEntry program readings old e new answers.Illegal = (¬ Legal program readings old e) × (new ≡ old)
