-- The bounds of a state that few entries lead to, and the readings that a board can have.
use Rattle.std.specs.Prelude.{◌≡◌, ℕ, ◌+◌, ◌-◌, ◌*◌, ◌^◌, ◌<◌, ◌≤◌, Bool, true, false, length, slice_index, All, Some, None}
use Rattle.std.specs.Option.{ForSome}
use Rattle.ink_base.specs.declared.limits.TheConstants as limits
use Rattle.ink_base.specs.declared.event.Event.{Event}
use Rattle.ink_base.specs.declared.event.Origin.TheVariants as origins
use Rattle.task_isa.specs.declared.program.Program.{Program}
use Rattle.never_cut.specs.declared.model.Model.{Model}
use Rattle.never_cut.specs.declared.thread_model.ThreadModel.{ThreadModel}
use Rattle.never_cut.specs.declared.source_model.SourceModel.{SourceModel}
use Rattle.never_cut.specs.State.{thread_of, pipe_of, source_of}
use Rattle.never_cut.specs.Commit.{is_of_queue}
use Rattle.never_cut.specs.Entries.{Readings, readings_of}
use Rattle.never_cut.specs.Stands.{flag}

-- one list of readings for each source, none of them too long
pub record AreReadings (program : Program) (readings : Readings) : Type 0 where
  pub count : length readings ≡ length program.sources
  pub few : (i : ℕ) → length (readings_of readings i) ≤ limits.READINGS

-- no list of readings is too long, and each reading has 32 bits
pub record AreShort (readings : Readings) : Type 0 where
  pub few : (i : ℕ) → length (readings_of readings i) ≤ limits.READINGS
  pub values : (i k : ℕ) → slice_index (readings_of readings i) k < 2 ^ 32

-- as many of each part as the program declares
pub record HasParts (program : Program) (m : Model) : Type 0 where
  pub threads : length m.threads ≡ length program.threads
  pub pipes : length m.pipes ≡ length program.pipes
  pub timers : length m.timers ≡ length program.timers
  pub sources : length m.sources ≡ length program.sources

-- the deadline of a timer's event is below 2^47
abbrev pub IsTimely : Event → Type 0
IsTimely e = elim e.origin [ origins.Source source count ↦ Unit {0} | origins.Pipe pipe item ↦ Unit {0} | origins.Timer timer deadline ↦ deadline < 2 ^ 47 ]

-- no count of a thread is above n, its queue holds events of sources, and it runs a task of the program
pub record IsWithinThread (program : Program) (n : ℕ) (x : ThreadModel) : Type 0 where
  pub released : x.released ≤ n
  pub served : x.served ≤ n
  pub trapped : x.trapped ≤ n
  pub expired : x.expired ≤ n
  pub held : All (λ e. is_of_queue e ≡ true) x.held
  pub running : ForSome x.running (λ task. task.0 < length program.tasks)

-- no count of a source is above n
pub record IsWithinSource (n : ℕ) (s : SourceModel) : Type 0 where
  pub next : s.next ≤ n
  pub accepted : s.accepted ≤ n

-- no count is above n, and times are below 2^47
pub record IsWithin (program : Program) (n : ℕ) (m : Model) : Type 0 where
  pub parts : HasParts program m
  pub clock : m.clock < 2 ^ 47
  pub scan : ForSome m.scan (λ scan. scan.time < 2 ^ 47)
  pub commits : m.commits ≤ n
  pub threads : (t : ℕ) → IsWithinThread program n (thread_of m t)
  pub pipes : (q : ℕ) → (pipe_of m q).taken ≤ n
  pub sources : (i : ℕ) → IsWithinSource n (source_of m i)

-- there is room for another entry
abbrev pub HasRoom : Program → Model → Type 0
HasRoom program m = IsWithin program (2 ^ 32 - 2) m

-- a scan has begun
abbrev pub is_scanning : Model → Bool
is_scanning m = elim m.scan [ Some scan ↦ true | None ↦ false ]

-- A count that has room for so many entries: it stays below 2^32 - 1. Two entries raise it by one at most, since a scan begins before each commit.
abbrev pub HasRoomFor : (left : ℕ) → (scanning : Bool) → (count : ℕ) → Type 0
HasRoomFor left scanning count = 2 * count + flag scanning + left < 2 ^ 33 - 2

-- the counts of a thread have room for so many entries: of the events that were finished, and of the services that ended
pub record LastsThread (left : ℕ) (scanning : Bool) (x : ThreadModel) : Type 0 where
  pub ended : HasRoomFor left scanning (x.released + flag x.finished)
  pub served : HasRoomFor left scanning x.served
  pub trapped : HasRoomFor left scanning x.trapped
  pub expired : HasRoomFor left scanning x.expired

-- every count that commits raise has room for so many entries
pub record Lasts (left : ℕ) (m : Model) : Type 0 where
  pub commits : HasRoomFor left (is_scanning m) m.commits
  pub threads : (t : ℕ) → LastsThread left (is_scanning m) (thread_of m t)
  pub taken : (q : ℕ) → HasRoomFor left (is_scanning m) (pipe_of m q).taken
