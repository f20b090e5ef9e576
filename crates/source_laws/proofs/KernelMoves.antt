-- The kernel's changes keep the invariant: an event is finished, acknowledged and released; and so does a cut.
use Rattle.source_laws.proofs.Common.{◌≡◌, ◌⊎◌, inl, inr, ℕ, suc, ◌+◌, ◌%◌, ◌<◌, ◌≤◌, length, drop, refl, sym, ap, ◌∙◌, subst, arith, length-drop, one-add, get_or-drop, cases_eq, first_row, greatest_tail, Row, Becomes, empty_word, Queue, Source, published, event_at, no_event, IsQueued, unsettled_into, IsFinishing, without_first, with_finished, queued_numbers, finishing_some, finishing_source, queue_same, queue_finish, queue_release, unsettled_least, Place, Tail, Ack, Src, IsShared, places_for, Board, Model, QueueBecomes, State, near, QueueKept, EventsKept, IsWithin, Kept, SourceKept}
use Rattle.fram_words.specs.Places as places
use Rattle.source_laws.proofs.Nears.{near_is, source_as, other_finish, own_acked, any_release}
use Rattle.source_laws.proofs.Frames.{queue_part, events_part, slots_become}

-- the events of one queue, which has published no more, where no source has settled fewer
events_as : (board : Board) (old new : ℕ → Source) (queue : ℕ → Queue) (t n : ℕ) (q : Queue) → queue t ≡ q → published q ≡ n → n + unsettled_into board.queue_of board.readings old t board.shape.sources ≤ greatest_tail
    → ((j : ℕ) → new j ≡ old j) → ((k : ℕ) → k < length q.held → IsQueued board.shape.sources board.queue_of t (event_at q.held k)) → EventsKept board queue new t
events_as board old new queue t n q is number fits same events = record {
  events = subst (λ (z : Queue). (k : ℕ) → k < length z.held → IsQueued board.shape.sources board.queue_of t (event_at z.held k)) (sym is) events;
  positions = omega (arith, ap published is, number, fits, unsettled_least board.queue_of board.readings old new t board.shape.sources (λ j. omega (arith, ap (λ (z : Source). z.next) (same j))));
}

-- the first event of queue t is finished, by a commit
pub kept_finish : (board : Board) (x y : State) (t0 : ℕ) → ((p : Place) → IsShared p → y.word p ≡ x.word p) → QueueBecomes t0 (with_finished (x.model.queue t0)) x.model y.model → y.row ≡ x.row → Kept board x → Kept board y
kept_finish board x y t0 word model rows h = record {
  queues = λ t. elim (cases_eq t t0) [
    | inl same ↦ subst (QueueKept board y) (sym same)
        (queue_same (queue_finish (h.queues t0)) (λ n. word (places.Slot t0 n) tt) (word (Tail t0) tt) model.queue.here)
    | inr other ↦ queue_part board x y t (λ n. word (places.Slot t n) tt) (word (Tail t) tt) (model.queue.elsewhere t other) (h.queues t)
  ];
  events = λ t. elim (cases_eq t t0) [
    | inl same ↦ subst (EventsKept board y.model.queue y.model.source) (sym same)
        (events_as board x.model.source y.model.source y.model.queue t0 (published (x.model.queue t0)) (with_finished (x.model.queue t0)) model.queue.here refl (h.events t0).positions source (h.events t0).events)
    | inr other ↦ events_part board x y t (model.queue.elsewhere t other) (λ j. omega (arith, ap (λ (z : Source). z.next) (source j))) (h.events t)
  ];
  sources = λ j. elim (cases_eq (board.queue_of j) t0) [
    | inl here ↦ source_as (other_finish (h.sources j)) (near_is board y j (word (Tail (board.queue_of j)) tt) (word (Src j) tt) (word (Ack j) tt) (queue_here (board.queue_of j) here) (source j)) (row j)
    | inr other ↦ source_as (h.sources j) (near_is board y j (word (Tail (board.queue_of j)) tt) (word (Src j) tt) (word (Ack j) tt) (model.queue.elsewhere (board.queue_of j) other) (source j)) (row j)
  ];
}
  where
    source : (j : ℕ) → y.model.source j ≡ x.model.source j
    source j = ap (λ (f : ℕ → Source). f j) model.source

    row : (j : ℕ) → y.row j ≡ x.row j
    row j = ap (λ (f : ℕ → Row). f j) rows

    queue_here : (t : ℕ) → t ≡ t0 → y.model.queue t ≡ with_finished (x.model.queue t)
    queue_here t same = subst (λ (u : ℕ). y.model.queue u ≡ with_finished (x.model.queue u)) (sym same) model.queue.here

-- the kernel acknowledges the finished event of queue t0
pub kept_ack : (board : Board) (x y : State) (t0 own count : ℕ) → IsWithin board → IsFinishing own count (x.model.queue t0)
    → Becomes (Ack own) ((count + 1) % 64) x.word y.word → y.model ≡ x.model → y.row ≡ x.row → Kept board x → Kept board y
kept_ack board x y t0 own count w f word model rows h = record {
  queues = λ t. queue_part board x y t (λ n. word.elsewhere (places.Slot t n) (λ e. cc)) (tail t) (queue t) (h.queues t);
  events = λ t. events_part board x y t (queue t) (λ j. omega (arith, ap (λ (z : Source). z.next) (source j))) (h.events t);
  sources = λ j. elim (cases_eq j own) [
    | inl same ↦
        source_as (own_acked (h.sources j) (y.word (Ack j)) count (finishing j same) (omega (arith, (h.queues (board.queue_of j)).room, w.no_more (board.queue_of j))) (acked j same))
        (near_is board y j (tail (board.queue_of j)) (src j) refl (queue (board.queue_of j)) (source j)) (row j)
    | inr other ↦
        source_as (h.sources j) (near_is board y j (tail (board.queue_of j)) (src j) (word.elsewhere (Ack j) (λ e. other (let same : j ≡ own = cc in same))) (queue (board.queue_of j)) (source j)) (row j)
  ];
}
  where
    queue : (t : ℕ) → y.model.queue t ≡ x.model.queue t
    queue t = ap (λ (m : Model). m.queue t) model

    source : (j : ℕ) → y.model.source j ≡ x.model.source j
    source j = ap (λ (m : Model). m.source j) model

    row : (j : ℕ) → y.row j ≡ x.row j
    row j = ap (λ (f : ℕ → Row). f j) rows

    tail : (t : ℕ) → y.word (Tail t) ≡ x.word (Tail t)
    tail t = word.elsewhere (Tail t) (λ f. cc)

    src : (j : ℕ) → y.word (Src j) ≡ x.word (Src j)
    src j = word.elsewhere (Src j) (λ f. cc)

    at_queue : (j : ℕ) → j ≡ own → board.queue_of j ≡ t0
    at_queue j same =
        ap board.queue_of (same ∙ sym (finishing_source f))
        ∙ (queued_numbers board.shape.sources board.queue_of t0 (event_at (x.model.queue t0).held 0) ((h.events t0).events 0 (finishing_some f))).queue

    finishing : (j : ℕ) → j ≡ own → IsFinishing j count (x.model.queue (board.queue_of j))
    finishing j same = subst (λ (z : ℕ × ℕ). IsFinishing z.0 count (x.model.queue z.1)) (sym (λ k. (same k, at_queue j same k))) f

    acked : (j : ℕ) → j ≡ own → y.word (Ack j) ≡ (count + 1) % 64
    acked j same = ap (λ (k : ℕ). y.word (Ack k)) same ∙ word.here

-- the kernel releases it, once it is acknowledged
pub kept_release : (board : Board) (x y : State) (t0 own count : ℕ) → IsFinishing own count (x.model.queue t0) → x.word (Ack own) ≡ (count + 1) % 64
    → Becomes (places.Slot t0 ((x.model.queue t0).released % board.places t0)) (empty_word ((x.model.queue t0).released + board.places t0)) x.word y.word
    → QueueBecomes t0 (without_first (x.model.queue t0)) x.model y.model → y.row ≡ x.row → Kept board x → Kept board y
kept_release board x y t0 own count f acked word model rows h = record {
  queues = λ t. elim (cases_eq t t0) [
    | inl same ↦ subst (QueueKept board y) (sym same)
        (queue_same (queue_release (h.queues t0) (finishing_some f) (slots_become x y word)) (λ n. refl) (tail t0) model.queue.here)
    | inr other ↦ queue_part board x y t (λ n. word.elsewhere (places.Slot t n) (λ f. other (let same : t ≡ t0 = cc in same))) (tail t) (model.queue.elsewhere t other) (h.queues t)
  ];
  events = λ t. elim (cases_eq t t0) [
    | inl same ↦ subst (EventsKept board y.model.queue y.model.source) (sym same)
        (events_as board x.model.source y.model.source y.model.queue t0 (published q) (without_first q) model.queue.here
        (let n : q.released + 1 + length (drop 1 q.held) ≡ published q = omega (arith, finishing_some f, length-drop 1 q.held) in n) (h.events t0).positions source
        (λ k lt. subst (IsQueued board.shape.sources board.queue_of t0) (sym (get_or-drop 1 q.held k no_event ∙ ap (event_at q.held) (one-add k))) ((h.events t0).events (suc k) (omega (arith, lt, length-drop 1 q.held)))))
    | inr other ↦ events_part board x y t (model.queue.elsewhere t other) (λ j. omega (arith, ap (λ (z : Source). z.next) (source j))) (h.events t)
  ];
  sources = λ j. elim (cases_eq (board.queue_of j) t0) [
    | inl here ↦ source_as (release_here j here) (near_is board y j (tail (board.queue_of j)) (src j) (ack j) (queue_here (board.queue_of j) here) (source j)) (row j)
    | inr other ↦ source_as (h.sources j) (near_is board y j (tail (board.queue_of j)) (src j) (ack j) (model.queue.elsewhere (board.queue_of j) other) (source j)) (row j)
  ];
}
  where
    q : Queue
    q = x.model.queue t0

    source : (j : ℕ) → y.model.source j ≡ x.model.source j
    source j = ap (λ (f : ℕ → Source). f j) model.source

    row : (j : ℕ) → y.row j ≡ x.row j
    row j = ap (λ (f : ℕ → Row). f j) rows

    tail : (t : ℕ) → y.word (Tail t) ≡ x.word (Tail t)
    tail t = word.elsewhere (Tail t) (λ f. cc)

    src : (j : ℕ) → y.word (Src j) ≡ x.word (Src j)
    src j = word.elsewhere (Src j) (λ f. cc)

    ack : (j : ℕ) → y.word (Ack j) ≡ x.word (Ack j)
    ack j = word.elsewhere (Ack j) (λ f. cc)

    queue_here : (t : ℕ) → t ≡ t0 → y.model.queue t ≡ without_first (x.model.queue t)
    queue_here t same = subst (λ (u : ℕ). y.model.queue u ≡ without_first (x.model.queue u)) (sym same) model.queue.here

    release_here : (j : ℕ) → board.queue_of j ≡ t0 → SourceKept j (places_for board j) (length (board.readings j)) (record (near board x j) { queue = without_first (x.model.queue (board.queue_of j)) }) (x.row j)
    release_here j here =
        any_release (h.sources j) own count (subst (IsFinishing own count) (sym (ap x.model.queue here)) f) (λ same. ap (λ (k : ℕ). x.word (Ack k)) (sym same) ∙ acked)

-- a step that touches no word of a queue or a source; a cut also sends each source to its first row
pub kept_apart : (board : Board) (x y : State) → ((p : Place) → IsShared p → y.word p ≡ x.word p) → y.model ≡ x.model → ((i : ℕ) → (y.row i ≡ x.row i) ⊎ (y.row i ≡ first_row)) → Kept board x → Kept board y
kept_apart board x y word model rows h = record {
  queues = λ t. queue_part board x y t (λ n. word (places.Slot t n) tt) (word (Tail t) tt) (queue t) (h.queues t);
  events = λ t. events_part board x y t (queue t) (λ j. omega (arith, ap (λ (z : Source). z.next) (source j))) (h.events t);
  sources = λ j. elim (rows j) [
    | inl same ↦ source_as (h.sources j) (near_same j) same
    | inr first ↦ source_as (record { stands = (h.sources j).stands; ordered = (h.sources j).ordered; knows = (refl, refl) }) (near_same j) first
  ];
}
  where
    queue : (t : ℕ) → y.model.queue t ≡ x.model.queue t
    queue t = ap (λ (m : Model). m.queue t) model

    source : (j : ℕ) → y.model.source j ≡ x.model.source j
    source j = ap (λ (m : Model). m.source j) model

    near_same : (j : ℕ) → near board y j ≡ near board x j
    near_same j = near_is board y j (word (Tail (board.queue_of j)) tt) (word (Src j) tt) (word (Ack j) tt) (queue (board.queue_of j)) (source j)
