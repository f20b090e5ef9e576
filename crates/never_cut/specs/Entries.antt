-- When an entry is legal, and what it makes of a state.
use Rattle.std.specs.Prelude.{◌≡◌, ℕ, ◌+◌, ◌^◌, ◌<◌, true, false, List, [], ◌∷◌, ◌++◌, length, slice_index_or, Some, None, IsSome}
use Rattle.ink_base.specs.declared.event.Event.{Event}
use Rattle.ink_base.specs.declared.entry.Entry.{Entry}
use Rattle.ink_base.specs.declared.entry.Entry.TheVariants.{Push, Refuse, Skip, Tick, Scan, Look, Commit, Release}
use Rattle.task_isa.specs.declared.program.Program.{Program}
use Rattle.push_core.specs.Queue as queues
use Rattle.push_core.specs.Queue.{HasPlace, IsFull, IsRefused, IsFinished}
use Rattle.prog_check.specs.Lookup.{thread_def, source_thread}
use Rattle.never_cut.specs.declared.model.Model.{Model}
use Rattle.never_cut.specs.declared.source_model.SourceModel.{SourceModel}
use Rattle.never_cut.specs.declared.scan_model.ScanModel.{ScanModel}
use Rattle.never_cut.specs.declared.thread_model.ThreadModel.{ThreadModel}
use Rattle.never_cut.specs.State.{thread_of, source_of, queue_of, with_queue, source_in, source_model, with_thread, with_source, is_looked}
use Rattle.never_cut.specs.Pending.{pending, later_event}
use Rattle.never_cut.specs.Commit.{commit}

-- the readings of each source
abbrev pub Readings : Type 0
Readings = List (List ℕ)

-- those of one source
abbrev pub readings_of : Readings → ℕ → List ℕ
readings_of readings i = slice_index_or readings i []

-- the event of a source's next reading
abbrev pub next_event : Readings → Model → ℕ → Event
next_event readings m i = queues.next_event i (readings_of readings i) (source_in (source_of m i))

-- the source's next reading is there
abbrev pub HasReading : Readings → Model → ℕ → Type 0
HasReading readings m i = queues.HasReading (readings_of readings i) (source_in (source_of m i))

-- the thread that a source feeds, and how many events its queue holds
abbrev pub fed_by : Program → Model → ℕ → ThreadModel
fed_by program m i = thread_of m (source_thread program i)

-- so many events it holds
abbrev pub held_for : Program → Model → ℕ → ℕ
held_for program m i = length (fed_by program m i).held

-- so many places it has
abbrev pub places_for : Program → ℕ → ℕ
places_for program i = (thread_def program (source_thread program i)).queue

-- a scan has passed a thread: it was looked at, has no running chain, no pipe item to read and no timer that is due
pub record IsPassed (program : Program) (m : Model) (scan : ScanModel) (t : ℕ) : Type 0 where
  pub looked : is_looked scan.looked t ≡ true
  pub idle : (thread_of m t).running ≡ None
  pub nothing : later_event program m t scan.time ≡ None

-- every thread of a higher priority was passed
abbrev pub ArePassed : Program → Model → ScanModel → ℕ → Type 0
ArePassed program m scan t =
    (u : ℕ) → u < length program.threads → (thread_def program t).priority < (thread_def program u).priority → IsPassed program m scan u

-- the scan hasn't looked at the thread, and the thread has no chain and no event
abbrev pub MayLook : Model → ScanModel → ℕ → Type 0
MayLook m scan t = (is_looked scan.looked t ≡ false) × ((thread_of m t).running ≡ None) × ((thread_of m t).held ≡ [])

-- what a scan must allow, where there is one
abbrev pub InScan : Model → (ScanModel → Type 0) → Type 0
InScan m P = elim m.scan [ None ↦ ⊥ | Some scan ↦ P scan ]

-- no thread has a finished event
abbrev pub IsCalm : Program → Model → Type 0
IsCalm program m = (t : ℕ) → t < length program.threads → (thread_of m t).finished ≡ false

-- what an entry asks of the state before it
abbrev pub Legal : Program → Readings → Model → Entry → Type 0
Legal program readings m (Push i) = (i.0 < length program.sources) × HasReading readings m i.0 × HasPlace (places_for program i.0) (queue_of (fed_by program m i.0))
Legal program readings m (Refuse i) = (i.0 < length program.sources) × HasReading readings m i.0 × IsFull (places_for program i.0) (queue_of (fed_by program m i.0))
Legal program readings m (Skip i) = (i.0 < length program.sources) × IsRefused (source_in (source_of m i.0))
Legal program readings m (Tick by) = m.clock + by < 2 ^ 47
Legal program readings m Scan = IsCalm program m
Legal program readings m (Look t) = (t.0 < length program.threads) × InScan m (λ scan. MayLook m scan t.0)
Legal program readings m (Commit t) =
    (t.0 < length program.threads) × InScan m (λ scan. ArePassed program m scan t.0) × IsSome (pending program m t.0)
Legal program readings m (Release t) = (t.0 < length program.threads) × IsFinished (queue_of (thread_of m t.0))

-- a thread whose queue has accepted the event
abbrev pub pushed : Event → ThreadModel → ThreadModel
pushed e x = with_queue (queues.with_event (queue_of x) e) x

-- a thread whose queue has released its first event
abbrev pub released : ThreadModel → ThreadModel
released x = with_queue (queues.without_first (queue_of x)) x

-- a source after a push, a refusal and a skip
abbrev pub with_accepted : SourceModel → SourceModel
with_accepted s = source_model (queues.with_accepted (source_in s))

-- it has met a full queue
abbrev pub with_refused : SourceModel → SourceModel
with_refused s = source_model (queues.with_refused (source_in s))

-- it has passed a reading
abbrev pub with_skipped : SourceModel → SourceModel
with_skipped s = source_model (queues.with_skipped (source_in s))

-- the scan has looked at one more thread
abbrev pub looked : Rattle.ink_base.specs.declared.ids.ThreadId.ThreadId → ScanModel → ScanModel
looked t scan = record scan { looked = scan.looked ++ t ∷ [] }

-- what an entry makes of the state
abbrev pub effect : Program → Readings → Model → Entry → Model
effect program readings m (Push i) =
    with_source (with_thread m (source_thread program i.0) (pushed (next_event readings m i.0) (fed_by program m i.0))) i.0 (with_accepted (source_of m i.0))
effect program readings m (Refuse i) = with_source m i.0 (with_refused (source_of m i.0))
effect program readings m (Skip i) = with_source m i.0 (with_skipped (source_of m i.0))
effect program readings m (Tick by) = record m { clock = m.clock + by }
effect program readings m Scan = record m { scan = Some (record { time = m.clock; looked = [] }) }
effect program readings m (Look t) = record m { scan = elim m.scan [ None ↦ None | Some scan ↦ Some (looked t scan) ] }
effect program readings m (Commit t) = commit program t.0 m
effect program readings m (Release t) = with_thread m t.0 (released (thread_of m t.0))
