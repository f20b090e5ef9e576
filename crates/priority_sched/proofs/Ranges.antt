-- The ranges of a scan's registers and of the words that it finds.
use Rattle.priority_sched.proofs.Common.{◌≡◌, ℕ, ◌+◌, ◌*◌, ◌^◌, ◌<◌, ◌≤◌, length, Option, Some, None, arith, refl, ap, ◌∙◌, slice_index, ForSome, TaskId, Event, Program, Memory, Ring, answer, next_word, due_word, ring_index, place_in, pipe_def, Model, thread_of, queue_of, pipe_of, timer_of, Readings, IsCalm, published, IsSound, IsSoundPipe, Lasts, Background, running_word, Chain, Waiting, ScanAt, Clock, Commit, Running, Finished, Origin, Value, First, Slot, Taken, Writer, Written, Item, Timer, Picked, Quiet, ScanMachine, scan_wants, writer_of, IsScanWord, IsScanRow, IsWaiting, KnowsChain, HasOrigin, KnowsWaiting, KnowsTimer, ScanKnows, ScanHolds, IsInRange}
use Rattle.fram_words.specs.Header as header
use Rattle.priority_sched.proofs.Scans.{calm_word}
use Rattle.priority_sched.proofs.Chains.{sound_chain, event_served, served_bits, value_word}
use Rattle.priority_sched.proofs.Items.{taken_is, written_is, item_is}
use Rattle.priority_sched.proofs.Timers.{timer_is}

-- a chain goes on with a task of the program
next_in_range : (program : Program) (readings : Readings) (m : Model) (t : ℕ) (running : Option TaskId) → IsSound program readings m → t < length program.threads →
    (thread_of m t).running ≡ running → next_word running ≤ length program.tasks
next_in_range program readings m t None sound known is = omega arith
next_in_range program readings m t (Some task) sound known is =
    let chain = sound_chain program readings m t task sound known is in let lt : task.0 < length program.tasks = chain.known in omega arith

-- the value of a chain's event has 32 bits
value_in_range : (program : Program) (readings : Readings) (words : Memory) (m : Model) (t time : ℕ) (chain : Chain) (e : Event) → Background program readings words m →
    Lasts 0 m → t < length program.threads → KnowsChain program words m t time chain → (thread_of m t).event ≡ Some e →
    words (place_in t chain.commit_word header.value) < 2 ^ 32
value_in_range program readings words m t time chain e b few known k is =
    let served = event_served program readings m t chain.running e b.sound known k.running is in
    let bits = served_bits program readings m t e.origin e.value b.accepted b.sound few known served in
    let small : e.value < 2 ^ 32 = bits.1 in
    let at : words (place_in t chain.commit_word header.value) ≡ e.value = value_word program readings words m t time chain e b known k is in
    omega arith

-- a timer's word is at most 2 ^ 48
due_in_range : (due : Option ℕ) → ForSome due (λ tick. tick < 2 ^ 48) → due_word due ≤ 2 ^ 48
due_in_range None low = omega arith
due_in_range (Some tick) low = let lt : tick < 2 ^ 48 = low tick refl in omega arith

-- fewer than 2 ^ 32 items were taken
taken_in_range : (program : Program) (readings : Readings) (m : Model) (q : ℕ) → IsSound program readings m → Lasts 0 m → q < length program.pipes →
    (pipe_of m q).taken < 2 ^ 32
taken_in_range program readings m q sound few known =
    let low = few.taken q in omega arith

word_in_range : (program : Program) (readings : Readings) (words : Memory) (m : Model) (t time : ℕ) (at : ScanAt) → Background program readings words m →
    Lasts 0 m → t < length program.threads → IsCalm program m → ScanKnows program words m t time at → IsScanWord program at (answer words (scan_wants program t at))
word_in_range program readings words m t time (Running c) b few known calm h =
    let at : words (place_in t c header.next) ≡ next_word (thread_of m t).running = ap (λ k. words (place_in t k header.next)) h.1 ∙ running_word program words m t known b.private in
    let low : next_word (thread_of m t).running ≤ length program.tasks = next_in_range program readings m t (thread_of m t).running b.sound known refl in
    omega arith
word_in_range program readings words m t time (Finished c running) b few known calm h =
    let small : published (queue_of (thread_of m t)) < 2 ^ 20 = b.shared.small t known in
    let at : words (place_in t c header.finished) ≡ (thread_of m t).released = calm_word program readings words m t c b known calm h.1 in omega arith
word_in_range program readings words m t time (Value chain o) b few known calm h =
    let at : HasOrigin m t o = h.1 in value_in_range program readings words m t time chain at.0 b few known h.0 at.1
word_in_range program readings words m t time (Taken idle pipe) b few known calm h =
    let at : words (place_in t idle.commit_word (header.taken pipe.0)) ≡ (pipe_of m pipe.0).taken = taken_is program words m t time idle pipe.0 b.accepted known b.private h in
    let low : (pipe_of m pipe.0).taken < 2 ^ 32 = taken_in_range program readings m pipe.0 b.sound few h.known in omega arith
word_in_range program readings words m t time (Written w c) b few known calm h =
    let k : KnowsWaiting program words m t time w = h.0 in
    let pipe : IsSoundPipe program m w.pipe.0 = b.sound.pipes w.pipe.0 k.pipe.known in
    let room : length (pipe_of m w.pipe.0).items ≤ (pipe_def program w.pipe.0).places = pipe.room in
    let at : words (place_in (writer_of program w.pipe.0) c (header.written w.pipe.0)) ≡ w.taken + length (pipe_of m w.pipe.0).items =
    written_is program words m t time w c b.accepted b.private k h.1 in
    (omega arith, omega arith)
word_in_range program readings words m t time (Item w) b few known calm h =
    let k : KnowsWaiting program words m t time w = h.0 in
    let pipe : IsSoundPipe program m w.pipe.0 = b.sound.pipes w.pipe.0 k.pipe.known in
    let low : slice_index (pipe_of m w.pipe.0).items 0 < 2 ^ 32 = pipe.values 0 in
    let at : words (Ring w.pipe.0 (ring_index (pipe_def program w.pipe.0).places w.taken)) ≡ slice_index (pipe_of m w.pipe.0).items 0 =
    item_is program words m t time w b.private k h.1 in omega arith
word_in_range program readings words m t time (Timer idle timer) b few known calm h =
    let k : KnowsTimer program words m t time idle timer.0 = h in
    let sound = b.sound.timers timer.0 k.known in
    let low : due_word (timer_of m timer.0).due ≤ 2 ^ 48 = due_in_range (timer_of m timer.0).due sound.due in
    let at : words (place_in t idle.commit_word (header.due timer.0)) ≡ due_word (timer_of m timer.0).due =
    timer_is program words m t time idle timer.0 b.accepted known b.private k in omega arith
word_in_range program readings words m t time _ b few known calm h = tt

-- a pipe that is waited for is of the program
waiting_in_range : (program : Program) (readings : Readings) (words : Memory) (m : Model) (t time : ℕ) (w : Waiting) → IsSound program readings m → Lasts 0 m →
    KnowsWaiting program words m t time w → IsWaiting program w
waiting_in_range program readings words m t time w sound few k = (
  k.pipe.known,
  (let low : (pipe_of m w.pipe.0).taken < 2 ^ 32 = taken_in_range program readings m w.pipe.0 sound few k.pipe.known in
      let is : w.taken ≡ (pipe_of m w.pipe.0).taken = k.taken in let lt : w.taken < 2 ^ 32 = omega arith in lt),
)

row_in_range : (program : Program) (readings : Readings) (words : Memory) (m : Model) (t time : ℕ) (at : ScanAt) → IsSound program readings m → Lasts 0 m →
    ScanKnows program words m t time at → IsScanRow program at
row_in_range program readings words m t time (Taken idle pipe) sound few h = h.known
row_in_range program readings words m t time (Writer w) sound few h = waiting_in_range program readings words m t time w sound few h
row_in_range program readings words m t time (Written w c) sound few h = waiting_in_range program readings words m t time w sound few h.0
row_in_range program readings words m t time (Item w) sound few h = waiting_in_range program readings words m t time w sound few h.0
row_in_range program readings words m t time (Timer idle timer) sound few h = h.known
row_in_range program readings words m t time _ sound few h = tt

pub scan_in_range : (program : Program) (readings : Readings) (words : Memory) (m : Model) (scan : ScanMachine) → Background program readings words m →
    Lasts 0 m → ScanHolds program words m scan → IsInRange program words scan
scan_in_range program readings words m scan b few h = record {
  row = record { known = h.known; row = row_in_range program readings words m scan.thread.0 scan.time scan.at b.sound few h.knows };
  word = word_in_range program readings words m scan.thread.0 scan.time scan.at b few h.known h.calm h.knows;
}
