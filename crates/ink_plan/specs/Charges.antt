-- How many accesses of the kernel a charge needs for a commit.
use Rattle.std.specs.Prelude.{◌≡◌, ℕ, ◌≤◌, List}
use Rattle.ink_base.specs.declared.entry.Entry.{Entry}
use Rattle.task_isa.specs.declared.program.Program.{Program}
use Rattle.kernel_core.specs.Answered.{HasAnswered}
use Rattle.kernel_core.specs.Board.{Setup, Move, moved_by, first_board}
use Rattle.kernel_core.specs.First.{IsSetup, StandsFirst}
use Rattle.kernel_core.specs.Moves.{AreMoves, ticks, turns, IsInRange}
use Rattle.kernel_core.specs.Record.{charge_of, journal_of}
use Rattle.kernel_core.specs.declared.charge_record.ChargeRecord.{ChargeRecord}
use Rattle.ink_plan.specs.declared.plan.EnergyPlan.{EnergyPlan}

-- with so many accesses of the kernel a charge has an answered scan: before the next scan and within the charge a commit follows, or looks at all threads
-- after which none has a pending event
abbrev pub Suffices : Setup → (least : ℕ) → (before : List Entry) → ChargeRecord → Type 0
Suffices s least before charge = least ≤ charge.kernel_steps → HasAnswered s before charge.entries 1

-- So the least of a plan suffices for each charge of its program, with any readings within the limits, from any words that stand for a state at which a run
-- can begin, and whatever order of turns and cuts is listed.
abbrev pub LeastSuffices : Program → EnergyPlan → Type 0
LeastSuffices program plan =
    (s : Setup) (words : List ℕ) (charges : ℕ) (moves : List Move) → s.program ≡ program → IsSetup s → StandsFirst s words → AreMoves s charges 0 moves →
    IsInRange s.first (ticks moves) (turns moves) → (n : ℕ) →
    let all = (moved_by s (first_board s words charges) moves).charges in Suffices s plan.least (journal_of all n) (charge_of all n)
