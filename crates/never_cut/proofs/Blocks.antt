-- What the words of a committed copy say.
use Rattle.never_cut.proofs.Common.{◌≡◌, ℕ, zero, suc, ◌+◌, ◌-◌, ◌<◌, ◌≤◌, List, [], ◌∷◌, length, take, replicate, Some, arith, refl, ◌∙◌, ◌==◌, ◌&&◌, if◌then◌else◌, nat_lt, slice_index, lt-ltb, eq-eqb, get_or_append_left, get_or-append_right, get_or-replicate, Event, Program, Memory, next_word, origin_word, due_word, committed, IsAccepted, pipe_def, timer_def, Model, thread_of, pipe_of, timer_of, outputs_of, Saved, saved, flag, StandsPrivate}
use Rattle.ink_base.specs.declared.limits.TheConstants as limits
use Rattle.never_cut.specs.Stands.{thread_words}
use Rattle.fram_words.specs.Header as header

-- what holds of each number below 8 holds of a number below 8
pub below_eight : (P : ℕ → Type 0) → P 0 → P 1 → P 2 → P 3 → P 4 → P 5 → P 6 → P 7 → (q : ℕ) → q < 8 → P q
below_eight P a b c d e f g h zero lt = a
below_eight P a b c d e f g h (suc zero) lt = b
below_eight P a b c d e f g h (suc (suc zero)) lt = c
below_eight P a b c d e f g h (suc (suc (suc zero))) lt = d
below_eight P a b c d e f g h (suc (suc (suc (suc zero)))) lt = e
below_eight P a b c d e f g h (suc (suc (suc (suc (suc zero))))) lt = f
below_eight P a b c d e f g h (suc (suc (suc (suc (suc (suc zero)))))) lt = g
below_eight P a b c d e f g h (suc (suc (suc (suc (suc (suc (suc zero))))))) lt = h
below_eight P a b c d e f g h (suc (suc (suc (suc (suc (suc (suc (suc q)))))))) lt = absurd (omega arith)

pub written_at : (y : Saved) (stamp origin value q : ℕ) → q < limits.PIPES → slice_index (thread_words y stamp origin value) (header.written q) ≡ y.written q
unfolding thread_words
written_at y stamp origin value q lt =
    below_eight (λ k. slice_index (thread_words y stamp origin value) (header.written k) ≡ y.written k) refl refl refl refl refl refl refl refl q lt

pub taken_at : (y : Saved) (stamp origin value q : ℕ) → q < limits.PIPES → slice_index (thread_words y stamp origin value) (header.taken q) ≡ y.taken q
unfolding thread_words
taken_at y stamp origin value q lt =
    below_eight (λ k. slice_index (thread_words y stamp origin value) (header.taken k) ≡ y.taken k) refl refl refl refl refl refl refl refl q lt

pub due_at : (y : Saved) (stamp origin value j : ℕ) → j < limits.TIMERS → slice_index (thread_words y stamp origin value) (header.due j) ≡ y.due j
unfolding thread_words
due_at y stamp origin value j lt =
    below_eight (λ k. slice_index (thread_words y stamp origin value) (header.due k) ≡ y.due k) refl refl refl refl refl refl refl refl j lt

pub period_at : (y : Saved) (stamp origin value j : ℕ) → j < limits.TIMERS → slice_index (thread_words y stamp origin value) (header.period j) ≡ y.period j
unfolding thread_words
period_at y stamp origin value j lt =
    below_eight (λ k. slice_index (thread_words y stamp origin value) (header.period k) ≡ y.period k) refl refl refl refl refl refl refl refl j lt

-- the words before the state
abbrev pub header_list : Saved → (stamp origin value : ℕ) → List ℕ
header_list y s o v =
    s ∷ next_word y.running ∷ y.first ∷ o ∷ v ∷ y.ended ∷ y.served ∷ y.trapped ∷ y.expired ∷ length y.outputs
    ∷ y.written 0 ∷ y.written 1 ∷ y.written 2 ∷ y.written 3 ∷ y.written 4 ∷ y.written 5 ∷ y.written 6 ∷ y.written 7
    ∷ y.taken 0 ∷ y.taken 1 ∷ y.taken 2 ∷ y.taken 3 ∷ y.taken 4 ∷ y.taken 5 ∷ y.taken 6 ∷ y.taken 7
    ∷ y.due 0 ∷ y.period 0 ∷ y.due 1 ∷ y.period 1 ∷ y.due 2 ∷ y.period 2 ∷ y.due 3 ∷ y.period 3
    ∷ y.due 4 ∷ y.period 4 ∷ y.due 5 ∷ y.period 5 ∷ y.due 6 ∷ y.period 6 ∷ y.due 7 ∷ y.period 7
    ∷ 0 ∷ 0 ∷ 0 ∷ 0 ∷ 0 ∷ 0 ∷ []

-- behind the header stands the state
pub state_at : (y : Saved) (stamp origin value w : ℕ) → header.words ≤ w → slice_index (thread_words y stamp origin value) w ≡ slice_index y.state (w - header.words)
unfolding thread_words
state_at y stamp origin value w le = get_or-append_right (header_list y stamp origin value) y.state 48 w 0 refl le

-- the last words of the header are 0
pub unused_at : (y : Saved) (stamp origin value w : ℕ) → header.due 8 ≤ w → w < header.words → slice_index (thread_words y stamp origin value) w ≡ 0
unfolding thread_words
unused_at y stamp origin value w le lt =
    let zero_word : w - 42 < 6 = omega arith in
    get_or_append_left (header_list y stamp origin value) y.state 0 w lt
    ∙ (get_or-append_right (take 42 (header_list y stamp origin value)) (replicate 6 0) 42 w 0 refl le ∙ get_or-replicate 6 (w - 42) 0 0 zero_word)

-- the stamp of its last commit
pub stamp_word : (program : Program) (words : Memory) (m : Model) (t : ℕ) (known : t < length program.threads) (h : StandsPrivate words program m) →
    committed words t header.stamp ≡ (h.threads t known).stamp
unfolding thread_words
stamp_word program words m t known h = let x = h.threads t known in x.block header.stamp

-- the time of a chain's first commit
pub first_word : (program : Program) (words : Memory) (m : Model) (t : ℕ) → t < length program.threads → StandsPrivate words program m →
    committed words t header.first ≡ (thread_of m t).first
unfolding thread_words
first_word program words m t known h = let x = h.threads t known in x.block header.first

-- the event of a running chain
pub event_words : (program : Program) (words : Memory) (m : Model) (t : ℕ) (e : Event) → t < length program.threads → StandsPrivate words program m →
    (thread_of m t).event ≡ Some e → (committed words t header.origin ≡ origin_word e.origin) × (committed words t header.value ≡ e.value)
unfolding thread_words
event_words program words m t e known h is = let x = h.threads t known in let told = x.event e is in (x.block header.origin ∙ told.0, x.block header.value ∙ told.1)

-- a number in the block of the thread that it belongs to
chosen : (n count owner t value : ℕ) → n < count → owner ≡ t → (if nat_lt n count && (owner == t) then value else 0) ≡ value
chosen n count owner t value within own = rw (lt-ltb n count within, eq-eqb owner t own) refl

-- how many items a thread has taken from a pipe that it reads
pub taken_count : (program : Program) (words : Memory) (m : Model) (t q : ℕ) → IsAccepted program → t < length program.threads → StandsPrivate words program m →
    q < length program.pipes → (pipe_def program q).reader.0 ≡ t → committed words t (header.taken q) ≡ (pipe_of m q).taken
taken_count program words m t q accepted known h within own =
    let x = h.threads t known in
    let few : length program.pipes ≤ limits.PIPES = accepted.counts.pipes in
    x.block (header.taken q) ∙ (taken_at (saved program m t) x.stamp x.origin x.value q (omega arith)
    ∙ chosen q (length program.pipes) (pipe_def program q).reader.0 t (pipe_of m q).taken within own)

-- and how many its writer has written
pub written_count : (program : Program) (words : Memory) (m : Model) (q : ℕ) → IsAccepted program → StandsPrivate words program m → q < length program.pipes →
    committed words (pipe_def program q).writer.0 (header.written q) ≡ (pipe_of m q).taken + length (pipe_of m q).items
written_count program words m q accepted h within =
    let pipe = accepted.pipes q within in
    let x = h.threads (pipe_def program q).writer.0 pipe.writer in
    let few : length program.pipes ≤ limits.PIPES = accepted.counts.pipes in
    x.block (header.written q) ∙ (written_at (saved program m (pipe_def program q).writer.0) x.stamp x.origin x.value q (omega arith)
    ∙ chosen q (length program.pipes) (pipe_def program q).writer.0 (pipe_def program q).writer.0 ((pipe_of m q).taken + length (pipe_of m q).items) within refl)

-- the word of a timer
pub timer_count : (program : Program) (words : Memory) (m : Model) (t j : ℕ) → IsAccepted program → t < length program.threads → StandsPrivate words program m →
    j < length program.timers → (timer_def program j).thread.0 ≡ t → committed words t (header.due j) ≡ due_word (timer_of m j).due
timer_count program words m t j accepted known h within own =
    let x = h.threads t known in
    let few : length program.timers ≤ limits.TIMERS = accepted.counts.timers in
    x.block (header.due j) ∙ (due_at (saved program m t) x.stamp x.origin x.value j (omega arith)
    ∙ chosen j (length program.timers) (timer_def program j).thread.0 t (due_word (timer_of m j).due) within own)

-- and its period
pub period_count : (program : Program) (words : Memory) (m : Model) (t j : ℕ) → IsAccepted program → t < length program.threads → StandsPrivate words program m →
    j < length program.timers → (timer_def program j).thread.0 ≡ t → committed words t (header.period j) ≡ (timer_of m j).period
period_count program words m t j accepted known h within own =
    let x = h.threads t known in
    let few : length program.timers ≤ limits.TIMERS = accepted.counts.timers in
    x.block (header.period j) ∙ (period_at (saved program m t) x.stamp x.origin x.value j (omega arith)
    ∙ chosen j (length program.timers) (timer_def program j).thread.0 t ((timer_of m j).period) within own)

-- the task that a chain goes on with
pub running_word : (program : Program) (words : Memory) (m : Model) (t : ℕ) → t < length program.threads → StandsPrivate words program m →
    committed words t header.next ≡ next_word (thread_of m t).running
unfolding thread_words
running_word program words m t known h = let x = h.threads t known in x.block header.next

-- the number of finished events, released or not
pub finished_word : (program : Program) (words : Memory) (m : Model) (t : ℕ) → t < length program.threads → StandsPrivate words program m →
    committed words t header.finished ≡ (thread_of m t).released + flag (thread_of m t).finished
unfolding thread_words
finished_word program words m t known h = let x = h.threads t known in x.block header.finished

-- the numbers of its services, and of its outputs
pub served_word : (program : Program) (words : Memory) (m : Model) (t : ℕ) → t < length program.threads → StandsPrivate words program m →
    committed words t header.served ≡ (thread_of m t).served
unfolding thread_words
served_word program words m t known h = let x = h.threads t known in x.block header.served

pub trapped_word : (program : Program) (words : Memory) (m : Model) (t : ℕ) → t < length program.threads → StandsPrivate words program m →
    committed words t header.trapped ≡ (thread_of m t).trapped
unfolding thread_words
trapped_word program words m t known h = let x = h.threads t known in x.block header.trapped

pub expired_word : (program : Program) (words : Memory) (m : Model) (t : ℕ) → t < length program.threads → StandsPrivate words program m →
    committed words t header.expired ≡ (thread_of m t).expired
unfolding thread_words
expired_word program words m t known h = let x = h.threads t known in x.block header.expired

pub outputs_word : (program : Program) (words : Memory) (m : Model) (t : ℕ) → t < length program.threads → StandsPrivate words program m →
    committed words t header.outputs ≡ length (outputs_of m t)
unfolding thread_words
outputs_word program words m t known h = let x = h.threads t known in x.block header.outputs
