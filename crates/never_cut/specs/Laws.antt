-- What every legal journal keeps, told by its entries and the states before them.
use Rattle.std.specs.Prelude.{◌≡◌, ℕ, ◌+◌, ◌-◌, ◌<◌, ◌≤◌, ◌==◌, ◌&&◌, not, if◌then◌else◌, List, [], ◌∷◌, ◌++◌, length, slice_get, All, Option, Some, None}
use Rattle.std.specs.List.{flat_map, range_with_len}
use Rattle.std.specs.List.Sorted.{IsNonDecreasingBy}
use Rattle.ink_base.specs.declared.ids.ThreadId.{ThreadId}
use Rattle.ink_base.specs.declared.event.Event.{Event}
use Rattle.ink_base.specs.declared.output.Output.{Output}
use Rattle.ink_base.specs.declared.entry.Entry.{Entry}
use Rattle.ink_base.specs.declared.entry.Entry.TheVariants.{Push, Skip, Commit}
use Rattle.task_isa.specs.declared.program.Program.{Program}
use Rattle.task_isa.specs.Meaning.{task_of}
use Rattle.prog_check.specs.Lookup.{task_def, source_thread}
use Rattle.never_cut.specs.declared.model.Model.{Model}
use Rattle.never_cut.specs.State.{thread_of, source_of, is_running, unfinished}
use Rattle.never_cut.specs.Pending.{pending}
use Rattle.never_cut.specs.Commit.{commit, is_expired, is_of_queue, start_at, task_at}
use Rattle.never_cut.specs.Entries.{Readings, effect, next_event}
use Rattle.never_cut.specs.Journal.{after}

-- what the entries tell, each with the state before it, in order
abbrev pub gathered : {X : Type 0} → (Entry → Model → List X) → Program → Readings → Model → List Entry → List X
gathered told program readings first [] = []
gathered told program readings first (e ∷ entries) = told e first ++ gathered told program readings (effect program readings first e) entries

-- the next reading of source i, where the entry accepts it or passes it over
abbrev pub settled_by : ℕ → Entry → Model → List ℕ
settled_by i (Push j) m = if j.0 == i then (source_of m i).next ∷ [] else []
settled_by i (Skip j) m = if j.0 == i then (source_of m i).next ∷ [] else []
settled_by i _ m = []

-- the readings that are settled of each source are the first state's next one, the number after it and so on, up to the one below the next one then: each
-- once, and in order
abbrev pub ReadingsInOrder : Program → Readings → Model → List Entry → Type 0
ReadingsInOrder program readings first journal =
    (i : ℕ) → i < length program.sources →
    let start = (source_of first i).next in
    let end = (source_of (after program readings first journal) i).next in
    (start ≤ end) × (gathered (settled_by i) program readings first journal ≡ range_with_len start (end - start))

-- the event that the entry puts into the queue of thread t
abbrev pub queued_by : Program → Readings → ℕ → Entry → Model → List Event
queued_by program readings t (Push i) m = if source_thread program i.0 == t then next_event readings m i.0 ∷ [] else []
queued_by program readings t _ m = []

-- the event, where it is of a queue
abbrev pub of_queue : Option Event → List Event
of_queue None = []
of_queue (Some e) = if is_of_queue e then e ∷ [] else []

-- the queue event that a commit of thread t finishes: its pending event, where no chain of t runs on
abbrev pub finished_by : Program → ℕ → Entry → Model → List Event
finished_by program t (Commit u) m = if (u.0 == t) && not (is_running (thread_of (commit program t m) t)) then of_queue (pending program m t) else []
finished_by program t _ m = []

-- The unfinished events that the first state holds for a thread, and then those that were put into its queue, are, in order, those that its commits finished
-- and the unfinished ones that it holds.
abbrev pub EachEventOnce : Program → Readings → Model → List Entry → Type 0
EachEventOnce program readings first journal =
    (t : ℕ) → t < length program.threads →
    unfinished (thread_of first t) ++ gathered (queued_by program readings t) program readings first journal
    ≡ gathered (finished_by program t) program readings first journal ++ unfinished (thread_of (after program readings first journal) t)

-- the state with which the task of a service ends, where it begins with this one
abbrev pub state_at_end : Program → Model → ℕ → Event → ℕ → List ℕ → List ℕ
state_at_end program m t e time state =
    (task_of (task_def program (task_at program m t)).code (task_def program (task_at program m t)).limit (record (start_at program m t e time) { state = state })).state

-- what a commit of thread t makes of its state; an expired chain keeps it
abbrev pub state_after : Program → Model → ℕ → List ℕ → List ℕ
state_after program m t state =
    elim m.scan [
      | None ↦ state
      | Some scan ↦ elim (pending program m t) [ None ↦ state | Some e ↦ if is_expired program m t scan.time then state else state_at_end program m t e scan.time state ]
    ]

-- the commits of thread t alone change its state
abbrev pub state_by : Program → ℕ → Entry → Model → List ℕ → List ℕ
state_by program t (Commit u) m state = if u.0 == t then state_after program m t state else state
state_by program t _ m state = state

-- and so on over all entries
abbrev pub state_from : Program → Readings → ℕ → Model → List Entry → List ℕ → List ℕ
state_from program readings t m [] state = state
state_from program readings t m (e ∷ entries) state = state_from program readings t (effect program readings m e) entries (state_by program t e m state)

-- the state of each thread is what its own commits make, one after the other, of its first state
abbrev pub StatesByCommits : Program → Readings → Model → List Entry → Type 0
StatesByCommits program readings first journal =
    (t : ℕ) → t < length program.threads →
    (thread_of (after program readings first journal) t).state ≡ state_from program readings t first journal (thread_of first t).state

-- the thread of a commit
abbrev pub committing : Entry → List ThreadId
committing (Commit t) = t ∷ []
committing _ = []

-- the threads of the commits, in order
abbrev pub commits_in : List Entry → List ThreadId
commits_in journal = flat_map committing journal

-- the output's stamp is the number of one of these commits, counted on from so many earlier ones, and it is of the commit's thread
pub record IsStamped (earlier : ℕ) (commits : List ThreadId) (o : Output) : Type 0 where
  pub before : ℕ
  pub number : o.stamp ≡ earlier + before + 1
  pub own : slice_get commits before ≡ Some o.thread

-- each output that isn't the first state's has the number of a commit of its thread, and the numbers don't fall along the outputs
pub record StampsByCommits (program : Program) (readings : Readings) (first : Model) (journal : List Entry) : Type 0 where
  pub commits : first.commits + length (commits_in journal) ≡ (after program readings first journal).commits
  pub made : List Output
  pub outputs : (after program readings first journal).outputs ≡ first.outputs ++ made
  pub each : All (IsStamped first.commits (commits_in journal)) made
  pub ordered : IsNonDecreasingBy (λ (o : Output). o.stamp) (after program readings first journal).outputs
