-- How many accesses a task's machine makes up to and with the store of its commit word, and what tells that number before the first of them.
use Rattle.std.specs.Prelude.{◌≡◌, ℕ, zero, suc, ◌<◌, Bool, true, false}
use Rattle.fram_words.specs.Places.{Memory, perform, answer}
use Rattle.task_isa.specs.declared.program.Program.{Program}
use Rattle.prog_check.specs.Accepted.{IsAccepted}
use Rattle.ink_layout.specs.declared.kernel_point.KernelPoint.TheVariants as points
use Rattle.ink_layout.specs.declared.pick.Pick.{Pick}
use Rattle.never_cut.specs.declared.model.Model.{Model}
use Rattle.never_cut.specs.Cost.{cost}
use Rattle.never_cut.specs.Entries.{Readings}
use Rattle.never_cut.specs.Ranges.{IsAnswerTo}
use Rattle.never_cut.specs.Within.{Lasts}
use Rattle.never_cut.specs.kept.Actors.{SamePrivate}
use Rattle.never_cut.specs.kept.Picked.{IsPicked}
use Rattle.never_cut.specs.kept.Steps.{Background}
use Rattle.task_run.specs.declared.phase.Phase.{Phase}
use Rattle.task_run.specs.declared.phase.Phase.TheVariants.{StoreAck, StoreEmpty, Over}
use Rattle.task_run.specs.declared.machine.TaskMachine.{TaskMachine}
use Rattle.task_run.specs.Machine.{want, take, point, begin}
use Rattle.task_run.specs.Knows.{Knows, CanGoOn}
use Rattle.task_run.specs.Reached.{task_loaded, IsServiceOf}

-- the words of a board, and the registers of the machine that makes accesses to them
pub record Alone : Type 0 where
  pub words : Memory
  pub machine : TaskMachine

-- after the machine's next access
abbrev pub next_alone : Program → Alone → Alone
next_alone program b =
    let access = want program b.machine in record { words = perform b.words access; machine = take program b.machine (answer b.words access) }

-- after so many accesses that the machine makes with nobody beside it
abbrev pub alone : Program → ℕ → Alone → Alone
alone program zero b = b
alone program (suc n) b = alone program n (next_alone program b)

-- the commit word was stored
abbrev pub is_committed : Phase → Bool
is_committed (StoreAck source count) = true
is_committed StoreEmpty = true
is_committed Over = true
is_committed _ = false

-- the phase that the machine is in after so many accesses on these words
abbrev pub phase_after : Program → Memory → TaskMachine → ℕ → Phase
phase_after program words r n = (alone program n (record { words = words; machine = r })).machine.phase

-- the commit word is stored by so many accesses, and by no fewer
pub record IsRemaining (program : Program) (words : Memory) (r : TaskMachine) (n : ℕ) : Type 0 where
  pub commits : is_committed (phase_after program words r n) ≡ true
  pub before : (k : ℕ) → k < n → is_committed (phase_after program words r k) ≡ false

-- each access up to the commit can be made, and the word that it finds taken
abbrev pub GoesOnAlone : Program → Memory → TaskMachine → Type 0
GoesOnAlone program words r =
    (n : ℕ) → let b = alone program n (record { words = words; machine = r }) in is_committed b.machine.phase ≡ false → CanGoOn program b.words b.machine

-- each word that is found up to the commit lies in the range of its place
abbrev pub FindsInRange : Program → Memory → TaskMachine → Type 0
FindsInRange program words r =
    (n : ℕ) → let b = alone program n (record { words = words; machine = r }) in is_committed b.machine.phase ≡ false →
    IsAnswerTo program (task_loaded b.machine) (want program b.machine) (answer b.words (want program b.machine))

-- On words that stand for a state, the service of a scan's pick makes as many accesses as the meaning of its task costs.
abbrev pub EveryPickCosts : Type 0
EveryPickCosts =
    (program : Program) (readings : Readings) (words : Memory) (m : Model) (pick : Pick) (stamp : ℕ) →
    Background program readings words m → IsPicked program words m pick → stamp ≡ m.commits →
    IsRemaining program words (begin pick stamp) (cost program m pick.thread.0)

-- Each access is one of those that remain: behind it one less is left.
abbrev pub EveryAccessCounts : Type 0
EveryAccessCounts =
    (program : Program) (words : Memory) (r : TaskMachine) (n : ℕ) →
    IsRemaining program words r (suc n) → IsRemaining program (perform words (want program r)) (take program r (answer words (want program r))) n

-- The last access that remains is the commit ..
abbrev pub EveryLastCommits : Type 0
EveryLastCommits = (program : Program) (words : Memory) (r : TaskMachine) → IsRemaining program words r 1 → point r ≡ points.Commit r.pick.thread

-- .. and no earlier one is.
abbrev pub EveryCommitIsLast : Type 0
EveryCommitIsLast = (program : Program) (words : Memory) (r : TaskMachine) (n : ℕ) → IsRemaining program words r n → point r ≡ points.Commit r.pick.thread → n ≡ 1

-- What sources and clock do meanwhile doesn't change what remains.
abbrev pub EveryCountOutlasts : Type 0
EveryCountOutlasts =
    (program : Program) (words new : Memory) (r : TaskMachine) (n : ℕ) → SamePrivate words new → IsRemaining program words r n → IsRemaining program new r n

-- On words that stand for a state, each access up to the commit can be made.
abbrev pub EveryServiceGoesOn : Type 0
EveryServiceGoesOn =
    (program : Program) (readings : Readings) (words : Memory) (m : Model) (r : TaskMachine) →
    Background program readings words m → Lasts 0 m → Knows program words m r → GoesOnAlone program words r

-- And so it can where each word that is found lies in its range, from any registers of a service on.
abbrev pub EveryRangeGoesOn : Type 0
EveryRangeGoesOn =
    (program : Program) (words : Memory) (r : TaskMachine) → IsAccepted program → IsServiceOf program r → FindsInRange program words r → GoesOnAlone program words r
