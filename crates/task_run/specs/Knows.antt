-- What a task's registers tell of the words and the state, and what each of its accesses keeps.
use Rattle.std.specs.Prelude.{◌≡◌, ◌≢◌, ℕ, ◌+◌, ◌%◌, ◌^◌, ◌<◌, false, length}
use Rattle.fram_words.specs.Places.{Memory, Ack, perform, answer}
use Rattle.thread_state.specs.Pages.{committed}
use Rattle.task_isa.specs.declared.program.Program.{Program}
use Rattle.ink_layout.specs.declared.pick.Pick.{Pick}
use Rattle.ink_layout.specs.Points.{entry_of_point}
use Rattle.never_cut.specs.declared.model.Model.{Model}
use Rattle.never_cut.specs.State.{thread_of}
use Rattle.never_cut.specs.Entries.{Readings, IsCalm}
use Rattle.never_cut.specs.Journal.{moved}
use Rattle.never_cut.specs.kept.Actors.{SamePrivate, Follows, IsFinishing}
use Rattle.never_cut.specs.kept.Picked.{IsPicked}
use Rattle.never_cut.specs.kept.Steps.{Background, IsKept}
use Rattle.never_cut.specs.Within.{Lasts}
use Rattle.task_run.specs.declared.phase.Phase.{Phase}
use Rattle.task_run.specs.declared.phase.Phase.TheVariants.{StoreCommit, StoreAck, StoreEmpty, Over}
use Rattle.task_run.specs.declared.machine.TaskMachine.{TaskMachine}
use Rattle.task_run.specs.Machine.{want, take, point, begin, is_over}
use Rattle.task_run.specs.Fits.{FitsTask, FitsWord}
use Rattle.task_run.specs.kept.Serving.{Serving}

-- from the commit to the release: an event of source i with this count is finished, and no other thread has a finished one
pub record Releasing (program : Program) (m : Model) (pick : Pick) (stamp i count : ℕ) : Type 0 where
  pub known : pick.thread.0 < length program.threads
  pub commits : stamp + 1 ≡ m.commits
  pub time : pick.time < 2 ^ 47
  pub position : pick.position ≡ (thread_of m pick.thread.0).released
  pub finishing : IsFinishing m pick.thread.0 i count
  pub others : (u : ℕ) → u < length program.threads → u ≢ pick.thread.0 → (thread_of m u).finished ≡ false

-- what the registers tell in a phase; once the pick is served, the stamp is one behind the commits, and no thread has a finished event
abbrev pub KnowsAt : Program → Memory → Model → TaskMachine → Phase → Type 0
KnowsAt program words m r (StoreAck source count) = Releasing program m r.pick r.stamp source.0 count
KnowsAt program words m r StoreEmpty = (i : ℕ) × (count : ℕ) × Releasing program m r.pick r.stamp i count × (words (Ack i) ≡ (count + 1) % 64)
KnowsAt program words m r Over = (r.stamp + 1 ≡ m.commits) × IsCalm program m
KnowsAt program words m r _ = Serving program words m r

-- what the registers know, by the phase that they are in
abbrev pub Knows : Program → Memory → Model → TaskMachine → Type 0
Knows program words m r = KnowsAt program words m r r.phase

-- each committed copy is as it was
abbrev pub SameCommitted : Memory → Memory → Type 0
SameCommitted old new = (t word : ℕ) → committed new t word ≡ committed old t word

-- the store of the commit word alone makes anything current
abbrev pub KeepsCopies : Phase → Memory → Memory → Type 0
KeepsCopies StoreCommit old new = Unit {0}
KeepsCopies _ old new = SameCommitted old new

-- One access: its entry is legal, the access allowed, the words stand for the state after it, and the registers after it tell of both.
pub record KeepsAll (program : Program) (readings : Readings) (words : Memory) (m : Model) (r : TaskMachine) : Type 0 where
  pub kept : IsKept program readings words m (want program r) (entry_of_point (point r))
  pub copies : KeepsCopies r.phase words (perform words (want program r))
  pub knows : Knows program (perform words (want program r)) (moved program readings m (entry_of_point (point r))) (take program r (answer words (want program r)))

-- Each access of a task on a board whose words stand for a state: at the store of the commit word the commit is legal, and the words stand for what it
-- makes of the state; at that of the empty slot so is the release; at every other access the state stays.
abbrev pub EveryTaskCommits : Type 0
EveryTaskCommits =
    (program : Program) (readings : Readings) (words : Memory) (m : Model) (r : TaskMachine) →
    Background program readings words m → Knows program words m r → is_over r.phase ≡ false → KeepsAll program readings words m r

-- what the registers tell outlasts the accesses of sources and clock
abbrev pub EveryTaskOutlasts : Type 0
EveryTaskOutlasts =
    (program : Program) (words new : Memory) (m next : Model) (r : TaskMachine) →
    SamePrivate words new → Follows m next → Knows program words m r → Knows program new next r

-- the pick of a scan tells what a task's first registers have to
abbrev pub EveryPickBegins : Type 0
EveryPickBegins =
    (program : Program) (readings : Readings) (words : Memory) (m : Model) (pick : Pick) (stamp : ℕ) →
    Background program readings words m → IsPicked program words m pick → stamp ≡ m.commits → Knows program words m (begin pick stamp)

-- the next access can be made, and the word that it finds taken
pub record CanGoOn (program : Program) (words : Memory) (r : TaskMachine) : Type 0 where
  pub wants : FitsTask program r
  pub takes : FitsWord program r.phase (answer words (want program r))

-- as long as the counts fit their words, the registers are in the ranges that the machine asks for
abbrev pub EveryTaskFits : Type 0
EveryTaskFits =
    (program : Program) (readings : Readings) (words : Memory) (m : Model) (r : TaskMachine) →
    Background program readings words m → Lasts 0 m → Knows program words m r → is_over r.phase ≡ false → CanGoOn program words r
