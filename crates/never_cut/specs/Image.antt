-- Words that a run can begin at: seven checks, in the order in which they are made. Each is told of one place after the other, the one that a reader names
-- where the check fails there.
use Rattle.std.specs.Prelude.{◌≡◌, ◌≢◌, ◌⊎◌, ℕ, ◌+◌, ◌-◌, ◌*◌, ◌%◌, ◌^◌, ◌<◌, ◌≤◌, ◌==◌, true, false, List, [], ◌∷◌, length, take}
use Rattle.ink_base.specs.declared.limits.TheConstants as limits
use Rattle.ink_base.specs.declared.event.Event.{Event}
use Rattle.ink_base.specs.declared.event.Origin.{Origin}
use Rattle.ink_base.specs.declared.event.Origin.TheVariants as origins
use Rattle.task_isa.specs.declared.program.Program.{Program}
use Rattle.task_isa.specs.Code.{word_of_instr}
use Rattle.fram_words.specs.Places.{Memory, Code, Commit, Log, Ring, Tail, Slot, Ack, Clock, Src}
use Rattle.fram_words.specs.Header as header
use Rattle.fram_words.specs.Held.{origin_word, origin_of, output_of, src_of}
use Rattle.thread_state.specs.Pages.{committed}
use Rattle.push_core.specs.Slots.{empty_word}
use Rattle.push_core.specs.Queue.{published, event_at, event_source, event_count, IsFinishing}
use Rattle.prog_check.specs.Lookup.{thread_def, pipe_def, task_def, instr_at, source_thread}
use Rattle.ink_layout.specs.Shape.{pages_of}
use Rattle.never_cut.specs.Stands.{flag, writes_pipe, reads_pipe, owns_timer}
use Rattle.never_cut.specs.Ranges.{IsOwnOrigin, IsTaskOf}
use Rattle.never_cut.specs.ReadOff.{told_queue, told_finished, told_held, told_released, told_source}

-- 1. Code. At each code word: it is the program's.
abbrev pub IsCodeWord : Program → Memory → (x n : ℕ) → Type 0
IsCodeWord program words x n = words (Code x n) ≡ word_of_instr (instr_at (task_def program x) n)

-- 2. Commit words. At each: no bit at or above the number of the thread's pages.
abbrev pub IsCommitWord : Program → Memory → (t : ℕ) → Type 0
IsCommitWord program words t = words (Commit t) < 2 ^ pages_of (thread_def program t)

-- the event that a running chain may have: of a source of the thread, of a pipe that it reads, the item that was taken last, or of a timer of its own
abbrev pub IsTakenLast : Memory → (t : ℕ) → Origin → Type 0
IsTakenLast words t (origins.Source source count) = Unit {0}
IsTakenLast words t (origins.Pipe pipe item) = item + 1 ≡ committed words t (header.taken pipe.0)
IsTakenLast words t (origins.Timer timer deadline) = Unit {0}

-- it is the thread's own, and the last that was taken where it is of a pipe
abbrev pub IsChainOrigin : Program → Memory → (t : ℕ) → Origin → Type 0
IsChainOrigin program words t o = IsOwnOrigin program t o × IsTakenLast words t o

-- the value of such an event: 32 bits, and for a timer the low ones of its deadline
abbrev pub IsChainValue : Origin → (value : ℕ) → Type 0
IsChainValue (origins.Source source count) value = value < 2 ^ 32
IsChainValue (origins.Pipe pipe item) value = value < 2 ^ 32
IsChainValue (origins.Timer timer deadline) value = value ≡ deadline % 2 ^ 32

-- a chain of the thread runs
abbrev pub HasChain : Memory → (t : ℕ) → Type 0
HasChain words t = committed words t header.next ≢ 0

-- 3. Blocks. At word w of a thread's committed copy: the next task is the thread's, the chain began by now, its event is one that it may have, the outputs fit
-- the log, counts of pipes and words of timers that aren't the thread's are 0, timers and state numbers fit their bits, and what isn't used is 0.
pub record IsBlockWord (program : Program) (words : Memory) (t w : ℕ) : Type 0 where
  pub next : w ≡ header.next → HasChain words t → IsTaskOf program t (committed words t header.next - 1)
  pub first : w ≡ header.first → committed words t header.first ≤ words Clock
  pub origin : w ≡ header.origin → HasChain words t → (o : Origin) × (committed words t header.origin ≡ origin_word o) × IsChainOrigin program words t o
  pub value : w ≡ header.value → HasChain words t → IsChainValue (origin_of (committed words t header.origin)) (committed words t header.value)
  pub outputs : w ≡ header.outputs → committed words t header.outputs ≤ (thread_def program t).log
  pub written : (q : ℕ) → q < limits.PIPES → w ≡ header.written q → writes_pipe program t q ≡ false → committed words t (header.written q) ≡ 0
  pub taken : (q : ℕ) → q < limits.PIPES → w ≡ header.taken q → reads_pipe program t q ≡ false → committed words t (header.taken q) ≡ 0
  pub due : (j : ℕ) → j < limits.TIMERS → w ≡ header.due j → committed words t (header.due j) ≤ 2 ^ 48
  pub period : (j : ℕ) → j < limits.TIMERS → w ≡ header.period j → committed words t (header.period j) < 2 ^ 32
  pub foreign_due : (j : ℕ) → j < limits.TIMERS → w ≡ header.due j → owns_timer program t j ≡ false → committed words t (header.due j) ≡ 0
  pub foreign_period : (j : ℕ) → j < limits.TIMERS → w ≡ header.period j → owns_timer program t j ≡ false → committed words t (header.period j) ≡ 0
  pub unused : header.due 8 ≤ w → w < header.words → committed words t w ≡ 0
  pub state : header.words ≤ w → committed words t w < 2 ^ 32
  pub rest : header.state (thread_def program t).state ≤ w → committed words t w ≡ 0

-- the counts of a pipe in the blocks of its reader and its writer
abbrev pub taken_of : Program → Memory → (q : ℕ) → ℕ
taken_of program words q = committed words (pipe_def program q).reader.0 (header.taken q)

-- and of those that were written
abbrev pub written_of : Program → Memory → (q : ℕ) → ℕ
written_of program words q = committed words (pipe_def program q).writer.0 (header.written q)

-- 4. Pipes. At the writer's count: no fewer items than were taken, and no more behind those than the pipe has places.
pub record IsPipeCount (program : Program) (words : Memory) (q : ℕ) : Type 0 where
  pub ordered : taken_of program words q ≤ written_of program words q
  pub room : written_of program words q ≤ taken_of program words q + (pipe_def program q).places

-- And at the ring word of each item that wasn't taken: it has 32 bits.
abbrev pub IsItemWord : Program → Memory → (q n : ℕ) → Type 0
IsItemWord program words q n =
    taken_of program words q ≤ n → n < written_of program words q → words (Ring q (n % (pipe_def program q).places)) < 2 ^ 32

-- the stamp of an output's word
abbrev pub stamp_at : Memory → (t n : ℕ) → ℕ
stamp_at words t n = (output_of (record { 0 = t }) (words (Log t n))).stamp

-- 5. Logs. At each word that has an output: its stamp is from 1 to the thread's own, isn't less than the one before it, and stands in no earlier thread's log.
pub record IsLogWord (program : Program) (words : Memory) (t n : ℕ) : Type 0 where
  pub least : 1 ≤ stamp_at words t n
  pub most : stamp_at words t n ≤ committed words t header.stamp
  pub ordered : (k : ℕ) → k + 1 ≡ n → stamp_at words t k ≤ stamp_at words t n
  pub own : (u k : ℕ) → u < t → k < committed words u header.outputs → stamp_at words u k ≢ stamp_at words t n

-- 6. Queues. At the slot of position r + k, from the position r of the first held event on: behind the held events it has the empty word of its position.
pub record IsSlotWord (program : Program) (words : Memory) (t k : ℕ) : Type 0 where
  pub empty : length (told_held program words t) ≤ k →
      words (Slot t ((told_released program words t + k) % (thread_def program t).queue)) ≡ empty_word (told_released program words t + k)
  pub fits : length (told_held program words t) ≤ k → told_released program words t + k < 2 ^ 21

-- At TAIL: it is the number of published events, or one behind.
abbrev pub IsTailWord : Program → Memory → (t : ℕ) → Type 0
IsTailWord program words t = (words (Tail t) ≡ published (told_queue program words t)) ⊎ (words (Tail t) + 1 ≡ published (told_queue program words t))

-- At its number of finished events: no earlier thread has a finished event beside this one's.
abbrev pub IsOnlyFinished : Program → Memory → (t : ℕ) → Type 0
IsOnlyFinished program words t = told_finished program words t ≡ true → (u : ℕ) → u < t → told_finished program words u ≡ false

-- At its next task: a thread with a finished event is idle.
abbrev pub IsIdleFinished : Program → Memory → (t : ℕ) → Type 0
IsIdleFinished program words t = told_finished program words t ≡ true → committed words t header.next ≡ 0

-- the event of a source is the first of these; of another event nothing is asked
abbrev pub IsServedFirst : List Event → Origin → (value : ℕ) → Type 0
IsServedFirst held (origins.Source source count) value =
    (0 < length held) × (event_at held 0 ≡ record { origin = origins.Source source count; value = value })
IsServedFirst held (origins.Pipe pipe item) value = Unit {0}
IsServedFirst held (origins.Timer timer deadline) value = Unit {0}

-- At the origin of its event: a running chain of a source's event has the first held one.
abbrev pub IsFirstServed : Program → Memory → (t : ℕ) → Type 0
IsFirstServed program words t =
    HasChain words t → IsServedFirst (told_held program words t) (origin_of (committed words t header.origin)) (committed words t header.value)

-- 7. Sources. At SRC: no more readings are accepted than settled.
abbrev pub IsSrcWord : Memory → (i : ℕ) → Type 0
IsSrcWord words i = (src_of (words (Src i))).accepted ≤ (src_of (words (Src i))).next

-- how many of these events are of source i
abbrev pub own_events : (i : ℕ) → List Event → ℕ
own_events i [] = 0
own_events i (e ∷ held) = flag (event_source e == i) + own_events i held

-- the events that the queue of a source holds
abbrev pub held_for : Program → Memory → (i : ℕ) → List Event
held_for program words i = told_held program words (source_thread program i)

-- At the slot of the j-th held event, where it is of the source: no more events of it are held than it has accepted, and its count is what is left of the
-- accepted number, and one more for each of them before it, modulo 64.
abbrev pub IsCountWord : Program → Memory → (i j : ℕ) → Type 0
IsCountWord program words i j =
    event_source (event_at (held_for program words i) j) ≡ i →
    (own_events i (held_for program words i) ≤ (told_source program words i).accepted)
    × (event_count (event_at (held_for program words i) j)
    ≡ ((told_source program words i).accepted - own_events i (held_for program words i) + own_events i (take j (held_for program words i))) % 64)

-- At ACK: it is the accepted number without those that are held, modulo 64, or one more where the first of them is finished.
abbrev pub IsAckWord : Program → Memory → (i : ℕ) → Type 0
IsAckWord program words i =
    let gone : ℕ = (told_source program words i).accepted - own_events i (held_for program words i) in
    (words (Ack i) ≡ gone % 64) ⊎ (IsFinishing i (gone % 64) (told_queue program words (source_thread program i)) × (words (Ack i) ≡ (gone + 1) % 64))

-- the checks of a pipe, of a thread's queue and of a source
pub record IsPipeRight (program : Program) (words : Memory) (q : ℕ) : Type 0 where
  pub counts : IsPipeCount program words q
  pub items : (n : ℕ) → IsItemWord program words q n

-- all that is checked of a thread's queue
pub record IsQueueRight (program : Program) (words : Memory) (t : ℕ) : Type 0 where
  pub slots : (k : ℕ) → k < (thread_def program t).queue → IsSlotWord program words t k
  pub tail : IsTailWord program words t
  pub only : IsOnlyFinished program words t
  pub idle : IsIdleFinished program words t
  pub served : IsFirstServed program words t

-- all that is checked of a source
pub record IsSourceRight (program : Program) (words : Memory) (i : ℕ) : Type 0 where
  pub src : IsSrcWord words i
  pub counts : (j : ℕ) → j < length (held_for program words i) → IsCountWord program words i j
  pub ack : IsAckWord program words i

-- The words of an image of the program: the seven checks hold at every place.
pub record IsImage (program : Program) (words : Memory) : Type 0 where
  pub code : (x n : ℕ) → x < length program.tasks → n < length (task_def program x).code → IsCodeWord program words x n
  pub commit_words : (t : ℕ) → t < length program.threads → IsCommitWord program words t
  pub blocks : (t w : ℕ) → t < length program.threads → w < 8 * pages_of (thread_def program t) → IsBlockWord program words t w
  pub pipes : (q : ℕ) → q < length program.pipes → IsPipeRight program words q
  pub logs : (t n : ℕ) → t < length program.threads → n < committed words t header.outputs → IsLogWord program words t n
  pub queues : (t : ℕ) → t < length program.threads → IsQueueRight program words t
  pub sources : (i : ℕ) → i < length program.sources → IsSourceRight program words i
