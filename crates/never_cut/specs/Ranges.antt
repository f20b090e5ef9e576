-- Which words the accesses of the kernel may find: the ranges of loaded words, by place.
use Rattle.std.specs.Prelude.{◌≡◌, ◌≢◌, ℕ, ◌+◌, ◌-◌, ◌*◌, ◌%◌, ◌^◌, ◌<◌, ◌≤◌, Bool, true, false, length, Option, Some, None}
use Rattle.std.specs.Option.{ForSome}
use Rattle.ink_base.specs.declared.limits.TheConstants as limits
use Rattle.ink_base.specs.declared.event.Event.{Event}
use Rattle.ink_base.specs.declared.event.Origin.{Origin}
use Rattle.ink_base.specs.declared.event.Origin.TheVariants as origins
use Rattle.task_isa.specs.declared.program.Program.{Program}
use Rattle.task_isa.specs.Code.{decoded}
use Rattle.fram_words.specs.Places.{Place, Code, Commit, Page, Log, Ring, Tail, Slot, Ack, Clock, Src, Access, Load, Store, Exchange, Add}
use Rattle.fram_words.specs.Header as header
use Rattle.fram_words.specs.Held.{origin_word}
use Rattle.push_core.specs.Slots.{slot_in}
use Rattle.push_core.specs.Table.{greatest_tail, greatest_position}
use Rattle.push_core.specs.declared.slot.Slot as slot
use Rattle.push_core.specs.declared.slot.Slot.TheVariants as slots
use Rattle.prog_check.specs.Lookup.{thread_def, pipe_def, timer_def, task_def, instr_at, source_thread}
use Rattle.ink_layout.specs.Shape.{pages_of}
use Rattle.ink_layout.specs.declared.pick.Pick.{Pick}

-- the first number that no count and no stamp reaches
abbrev pub no_count : ℕ
no_count = 4294967295

-- an event of one of the thread's sources, of a pipe that it reads or of its own timer
abbrev pub IsOwnOrigin : Program → (t : ℕ) → Origin → Type 0
IsOwnOrigin program t (origins.Source source count) = (source.0 < length program.sources) × (source_thread program source.0 ≡ t) × (count < 64)
IsOwnOrigin program t (origins.Pipe pipe item) = (pipe.0 < length program.pipes) × ((pipe_def program pipe.0).reader.0 ≡ t) × (item < 2 ^ 32)
IsOwnOrigin program t (origins.Timer timer deadline) =
    (timer.0 < length program.timers) × ((timer_def program timer.0).thread.0 ≡ t) × (deadline < 2 ^ 48)

-- and its value has 32 bits
abbrev pub IsOwnEvent : Program → (t : ℕ) → Event → Type 0
IsOwnEvent program t e = IsOwnOrigin program t e.origin × (e.value < 2 ^ 32)

-- a task of the program, and of the thread
abbrev pub IsTaskOf : Program → (t task : ℕ) → Type 0
IsTaskOf program t task = (task < length program.tasks) × ((task_def program task).thread.0 ≡ t)

-- the position is one of the slot
abbrev pub IsPositionOf : Program → (t index p : ℕ) → Type 0
IsPositionOf program t index p = (p ≤ greatest_position) × (p % (thread_def program t).queue ≡ index)

-- a slot's word is read, its position is one of the slot, and its source one of the queue
abbrev pub IsSlotOf : Program → (t index : ℕ) → Option slot.Slot → Type 0
IsSlotOf program t n None = ⊥
IsSlotOf program t n (Some (slots.Empty p)) = IsPositionOf program t n p
IsSlotOf program t n (Some (slots.Full p source count value)) =
    IsPositionOf program t n p × (source.0 < length program.sources) × (source_thread program source.0 ≡ t)

-- What was loaded before the word: the time, a header word that says that a chain runs, and for a count of written items the taken count.
pub record Loaded : Type 0 where
  pub time : ℕ
  pub running : Bool
  pub taken : Option ℕ

-- before the first access
abbrev pub nothing_loaded : Loaded
nothing_loaded = record { time = 0; running = false; taken = None }

-- from the taken count to that count plus the places of the pipe
abbrev pub IsWrittenOf : Program → (q taken word : ℕ) → Type 0
IsWrittenOf program q taken word = (taken ≤ word) × (word ≤ taken + (pipe_def program q).places)

-- word w of thread t's block, in either copy: a header word, or behind the header one of the state
pub record IsHeaderWord (program : Program) (loaded : Loaded) (t w word : ℕ) : Type 0 where
  pub stamp : w ≡ header.stamp → word < no_count
  pub next : w ≡ header.next → word ≢ 0 → IsTaskOf program t (word - 1)
  pub first : w ≡ header.first → word ≤ loaded.time
  pub origin : w ≡ header.origin → loaded.running ≡ true → (o : Origin) × (word ≡ origin_word o) × IsOwnOrigin program t o
  pub value : w ≡ header.value → loaded.running ≡ true → word < 2 ^ 32
  pub finished : w ≡ header.finished → word ≤ greatest_tail
  pub totals : header.served ≤ w → w ≤ header.expired → word < no_count
  pub outputs : w ≡ header.outputs → word ≤ (thread_def program t).log
  pub written : header.written 0 ≤ w → w ≤ header.written 7 → ForSome loaded.taken (λ taken. IsWrittenOf program (w - header.written 0) taken word)
  pub taken : header.taken 0 ≤ w → w ≤ header.taken 7 → word < no_count
  pub due : (j : ℕ) → j < limits.TIMERS → w ≡ header.due j → word ≤ 2 ^ 48
  pub period : (j : ℕ) → j < limits.TIMERS → w ≡ header.period j → word < 2 ^ 32
  pub state : header.words ≤ w → word < 2 ^ 32

-- The word is in the range of its place. A code word is read as the program's instruction; no word of a log or of SRC is loaded by the kernel.
abbrev pub IsWordAt : Program → Loaded → Place → (word : ℕ) → Type 0
IsWordAt program loaded (Code x n) word = decoded word ≡ Some (instr_at (task_def program x) n)
IsWordAt program loaded (Commit t) word = word < 2 ^ pages_of (thread_def program t)
IsWordAt program loaded (Page t page copy k) word = IsHeaderWord program loaded t (8 * page + k) word
IsWordAt program loaded (Log t n) word = Unit {0}
IsWordAt program loaded (Ring q n) word = word < 2 ^ 32
IsWordAt program loaded (Tail t) word = word ≤ greatest_tail
IsWordAt program loaded (Slot t n) word = IsSlotOf program t n (slot_in word)
IsWordAt program loaded (Ack i) word = word < 64
IsWordAt program loaded Clock word = word < 2 ^ 47
IsWordAt program loaded (Src i) word = Unit {0}

-- The access may answer the word: a load or an exchange one of its place's range, a store or an addition any word.
abbrev pub IsAnswerTo : Program → Loaded → Access → (word : ℕ) → Type 0
IsAnswerTo program loaded (Load p) word = IsWordAt program loaded p word
IsAnswerTo program loaded (Exchange p expect new) word = IsWordAt program loaded p word
IsAnswerTo program loaded (Store p v) word = Unit {0}
IsAnswerTo program loaded (Add p n) word = Unit {0}

-- the words of an idle thread's timer that is picked: its deadline plus 1
abbrev pub IsDuePick : Pick → Origin → Type 0
IsDuePick pick (origins.Timer timer deadline) = (1 ≤ pick.due_word) × (pick.due_word ≤ 2 ^ 48)
IsDuePick pick _ = Unit {0}

-- A pick that a scan gives from words in their ranges: an event of a thread of the program, which a task of the thread serves where a chain runs.
pub record IsPickOf (program : Program) (pick : Pick) : Type 0 where
  pub known : pick.thread.0 < length program.threads
  pub event : IsOwnEvent program pick.thread.0 pick.event
  pub task : ForSome pick.running (λ task. IsTaskOf program pick.thread.0 task.0)
  pub first : pick.first ≤ pick.time
  pub time : pick.time < 2 ^ 47
  pub position : pick.position ≤ greatest_tail
  pub taken : pick.taken < 2 ^ 32
  pub due : pick.running ≡ None → IsDuePick pick pick.event.origin
