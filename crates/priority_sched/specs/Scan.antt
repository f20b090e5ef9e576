-- The access table of a scan: in each row one access, the row that follows, and what the access stands for.
use Rattle.std.specs.Prelude.{ℕ, ◌+◌, ◌-◌, ◌*◌, ◌/◌, ◌%◌, ◌^◌, ◌<◌, ◌≤◌, ◌==◌, Bool, length, if◌then◌else◌, Option, Some, None}
use Rattle.ink_base.specs.declared.limits.TheConstants as limits
use Rattle.ink_base.specs.declared.ids.ThreadId.{ThreadId}
use Rattle.ink_base.specs.declared.ids.TaskId.{TaskId}
use Rattle.ink_base.specs.declared.ids.PipeId.{PipeId}
use Rattle.ink_base.specs.declared.ids.TimerId.{TimerId}
use Rattle.ink_base.specs.declared.event.Event.{Event}
use Rattle.ink_base.specs.declared.event.Origin.TheVariants as origins
use Rattle.task_isa.specs.declared.program.Program.{Program}
use Rattle.fram_words.specs.Places.{Access, Load}
use Rattle.fram_words.specs.Places as places
use Rattle.fram_words.specs.Header as header
use Rattle.fram_words.specs.Held.{running_of, origin_of}
use Rattle.thread_state.specs.Pages.{place_in}
use Rattle.push_core.specs.Slots.{slot_in}
use Rattle.push_core.specs.declared.slot.Slot as slot
use Rattle.push_core.specs.declared.slot.Slot.TheVariants as slots
use Rattle.event_pipe.specs.Ring.{ring_index}
use Rattle.event_pipe.specs.Ring as ring
use Rattle.persist_timer.specs.Due as due
use Rattle.prog_check.specs.Lookup.{thread_def, pipe_def, timer_def}
use Rattle.ink_layout.specs.Slots.{slot_place}
use Rattle.ink_layout.specs.declared.kernel_point.KernelPoint.{KernelPoint}
use Rattle.ink_layout.specs.declared.kernel_point.KernelPoint.TheVariants as points
use Rattle.ink_layout.specs.declared.slot_at.SlotAt.{SlotAt}
use Rattle.never_cut.specs.Pending.{first_number}
use Rattle.priority_sched.specs.declared.chain.Chain.{Chain}
use Rattle.priority_sched.specs.declared.idle.Idle.{Idle}
use Rattle.priority_sched.specs.declared.idle.Waiting.{Waiting}
use Rattle.priority_sched.specs.declared.scan_at.ScanAt.{ScanAt}
use Rattle.priority_sched.specs.declared.scan_at.ScanAt.TheVariants.{Clock, Commit, Running, Finished, Origin, Value, First, Slot, Taken, Writer, Written, Item, Timer, Picked, Quiet}
use Rattle.priority_sched.specs.declared.scanned.Scanned.{Scanned}
use Rattle.priority_sched.specs.declared.scanned.Scanned.TheVariants as scanned
use Rattle.priority_sched.specs.declared.machine.ScanMachine.{ScanMachine}
use Rattle.priority_sched.specs.Order.{priority_of, next_below}
use Rattle.priority_sched.specs.Picks.{chain_pick, queue_pick, item_pick, timer_pick}

-- the registers of a scan that visits this thread, with the tick that it read
abbrev pub scan_at : ThreadId → ℕ → ScanAt → ScanMachine
scan_at thread time at = record { thread = thread; time = time; at = at }

-- the registers in which a scan begins
abbrev pub scan_begun : ScanMachine
scan_begun = scan_at (record { 0 = 0 }) 0 Clock

-- the thread that writes a pipe
abbrev pub writer_of : Program → (q : ℕ) → ℕ
writer_of program q = (pipe_def program q).writer.0

-- the access of each row, for thread t; a scan that is over has none to make
abbrev pub scan_wants : Program → (t : ℕ) → ScanAt → Access
scan_wants program t Clock = Load places.Clock
scan_wants program t Commit = Load (places.Commit t)
scan_wants program t (Running c) = Load (place_in t c header.next)
scan_wants program t (Finished c running) = Load (place_in t c header.finished)
scan_wants program t (Origin chain) = Load (place_in t chain.commit_word header.origin)
scan_wants program t (Value chain o) = Load (place_in t chain.commit_word header.value)
scan_wants program t (First chain e) = Load (place_in t chain.commit_word header.first)
scan_wants program t (Slot c p) = Load (slot_place program t p)
scan_wants program t (Taken idle pipe) = Load (place_in t idle.commit_word (header.taken pipe.0))
scan_wants program t (Writer w) = Load (places.Commit (writer_of program w.pipe.0))
scan_wants program t (Written w c) = Load (place_in (writer_of program w.pipe.0) c (header.written w.pipe.0))
scan_wants program t (Item w) = Load (places.Ring w.pipe.0 (ring_index (pipe_def program w.pipe.0).places w.taken))
scan_wants program t (Timer idle timer) = Load (place_in t idle.commit_word (header.due timer.0))
scan_wants program t (Picked pick) = Load places.Clock
scan_wants program t Quiet = Load places.Clock

-- the event of a slot that holds one of the position
abbrev pub event_at : (p : ℕ) → Option slot.Slot → Option Event
event_at p (Some (slots.Full q source count value)) = if q == p then Some (record { origin = origins.Source source count; value = value }) else None
event_at p (Some (slots.Empty q)) = None
event_at p None = None

-- the first row of the next thread, or the end
abbrev pub scan_next : ThreadId → (time : ℕ) → Option ThreadId → ScanMachine
scan_next thread time (Some next) = scan_at next time Commit
scan_next thread time None = scan_at thread time Quiet

-- after the thread has no pending event: the thread of the greatest priority below its own
abbrev pub scan_passed : Program → ThreadId → (time : ℕ) → ScanMachine
scan_passed program thread time = scan_next thread time (next_below program (priority_of program thread.0))

-- thread t reads the pipe
abbrev pub is_reader : Program → (t q : ℕ) → Bool
is_reader program t q = (pipe_def program q).reader.0 == t

-- the timer is one of thread t
abbrev pub is_owner : Program → (t j : ℕ) → Bool
is_owner program t j = (timer_def program j).thread.0 == t

-- the first pipe that thread t reads, from a number on
abbrev pub next_pipe : Program → (t from : ℕ) → Option ℕ
next_pipe program t from = first_number (is_reader program t) from (length program.pipes - from)

-- the first timer of thread t, from a number on
abbrev pub next_timer : Program → (t from : ℕ) → Option ℕ
next_timer program t from = first_number (is_owner program t) from (length program.timers - from)

-- the row of a timer; where there is none the thread is passed
abbrev pub at_timer : Program → ThreadId → (time : ℕ) → Idle → Option ℕ → ScanMachine
at_timer program thread time idle (Some j) = scan_at thread time (Timer idle (record { 0 = j }))
at_timer program thread time idle None = scan_passed program thread time

-- the row of a pipe; where there is none that of the thread's first timer
abbrev pub at_pipe : Program → ThreadId → (time : ℕ) → Idle → Option ℕ → ScanMachine
at_pipe program thread time idle (Some q) = scan_at thread time (Taken idle (record { 0 = q }))
at_pipe program thread time idle None = at_timer program thread time idle (next_timer program thread.0 0)

-- after the number of finished events
abbrev pub after_finished : ThreadId → (time c p : ℕ) → Option TaskId → ScanMachine
after_finished thread time c p None = scan_at thread time (Slot c p)
after_finished thread time c p (Some task) = scan_at thread time (Origin (record { commit_word = c; running = task; position = p }))

-- after the value of a running chain's event
abbrev pub after_value : ThreadId → (time : ℕ) → Chain → Event → (expires : Option ℕ) → ScanMachine
after_value thread time chain e None = scan_at thread time (Picked (chain_pick thread time chain 0 e))
after_value thread time chain e (Some ticks) = scan_at thread time (First chain e)

-- after the look at a slot: its event is picked, or the thread's pipes and timers follow
abbrev pub after_look : Program → ThreadId → (time c p : ℕ) → Option Event → ScanMachine
after_look program thread time c p (Some e) = scan_at thread time (Picked (queue_pick thread time c p e))
after_look program thread time c p None = at_pipe program thread time (record { commit_word = c; position = p }) (next_pipe program thread.0 0)

-- after the number of taken items
abbrev pub after_taken : Idle → PipeId → (taken : ℕ) → ScanAt
after_taken idle pipe taken = Writer (record { idle = idle; pipe = pipe; taken = taken })

-- after the commit word of the pipe's writer
abbrev pub after_writer : Waiting → (c : ℕ) → ScanAt
after_writer w c = Written w c

-- after the number of written items: where one isn't taken it is loaded, else the next pipe follows
abbrev pub after_written : Program → ThreadId → (time : ℕ) → Waiting → (written : ℕ) → ScanMachine
after_written program thread time w written =
    if ring.has_item written w.taken then scan_at thread time (Item w)
    else at_pipe program thread time w.idle (next_pipe program thread.0 (w.pipe.0 + 1))

-- after the word of a timer: where it is due it is picked, else the next timer follows
abbrev pub after_timer : Program → ThreadId → (time : ℕ) → Idle → TimerId → (word : ℕ) → ScanMachine
after_timer program thread time idle timer word =
    if due.is_due word time then scan_at thread time (Picked (timer_pick thread time idle timer word))
    else at_timer program thread time idle (next_timer program thread.0 (timer.0 + 1))

-- the registers after the access found this word
abbrev pub scan_takes : Program → ThreadId → (time : ℕ) → ScanAt → (word : ℕ) → ScanMachine
scan_takes program thread time Clock word = scan_next thread word (next_below program (limits.PRIORITY + 1))
scan_takes program thread time Commit word = scan_at thread time (Running word)
scan_takes program thread time (Running c) word = scan_at thread time (Finished c (running_of word))
scan_takes program thread time (Finished c running) word = after_finished thread time c word running
scan_takes program thread time (Origin chain) word = scan_at thread time (Value chain (origin_of word))
scan_takes program thread time (Value chain o) word = after_value thread time chain (record { origin = o; value = word }) (thread_def program thread.0).expires
scan_takes program thread time (First chain e) word = scan_at thread time (Picked (chain_pick thread time chain word e))
scan_takes program thread time (Slot c p) word = after_look program thread time c p (event_at p (slot_in word))
scan_takes program thread time (Taken idle pipe) word = scan_at thread time (after_taken idle pipe word)
scan_takes program thread time (Writer w) word = scan_at thread time (after_writer w word)
scan_takes program thread time (Written w c) word = after_written program thread time w word
scan_takes program thread time (Item w) word = scan_at thread time (Picked (item_pick thread time w word))
scan_takes program thread time (Timer idle timer) word = after_timer program thread time idle timer word
scan_takes program thread time (Picked pick) word = scan_at thread time (Picked pick)
scan_takes program thread time Quiet word = scan_at thread time Quiet

-- a look finds no event
abbrev pub look_point : ThreadId → Option Event → KernelPoint
look_point thread None = points.Look thread
look_point thread (Some e) = points.Nothing

-- what the access stands for
abbrev pub scan_point : ThreadId → ScanAt → (word : ℕ) → KernelPoint
scan_point thread Clock word = points.Scan
scan_point thread (Slot c p) word = look_point thread (event_at p (slot_in word))
scan_point thread at word = points.Nothing

-- what a scan found, once it is over
abbrev pub scan_result : ScanAt → Option Scanned
scan_result (Picked pick) = Some (scanned.Pick pick)
scan_result Quiet = Some scanned.Quiet
scan_result at = None

-- the event that the access looks for
abbrev pub scan_slot : ThreadId → ScanAt → Option SlotAt
scan_slot thread (Slot c p) = Some (record { thread = thread; position = p })
scan_slot thread at = None

-- The word is one that the access may find: a chain goes on with a task of the program, a position is below 2 ^ 20, values and counts are below
-- 2 ^ 32, no more items were written than taken and places, and a timer's word is at most 2 ^ 48.
abbrev pub IsScanWord : Program → ScanAt → (word : ℕ) → Type 0
IsScanWord program (Running c) word = word ≤ length program.tasks
IsScanWord program (Finished c running) word = word < 2 ^ 20
IsScanWord program (Value chain o) word = word < 2 ^ 32
IsScanWord program (Taken idle pipe) word = word < 2 ^ 32
IsScanWord program (Written w c) word = (w.taken ≤ word) × (word ≤ w.taken + (pipe_def program w.pipe.0).places)
IsScanWord program (Item w) word = word < 2 ^ 32
IsScanWord program (Timer idle timer) word = word ≤ 2 ^ 48
IsScanWord program at word = Unit {0}

-- a pipe of the program, of which fewer than 2 ^ 32 items were taken
abbrev pub IsWaiting : Program → Waiting → Type 0
IsWaiting program w = (w.pipe.0 < length program.pipes) × (w.taken < 2 ^ 32)

-- pipe and timer at hand are of the program
abbrev pub IsScanRow : Program → ScanAt → Type 0
IsScanRow program (Taken idle pipe) = pipe.0 < length program.pipes
IsScanRow program (Writer w) = IsWaiting program w
IsScanRow program (Written w c) = IsWaiting program w
IsScanRow program (Item w) = IsWaiting program w
IsScanRow program (Timer idle timer) = timer.0 < length program.timers
IsScanRow program at = Unit {0}

-- registers that a scan of the program can come to
pub record IsScan (program : Program) (scan : ScanMachine) : Type 0 where
  pub known : scan.thread.0 < length program.threads
  pub row : IsScanRow program scan.at
