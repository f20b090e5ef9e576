-- A source's changes of a word keep the invariant: the tail moves, and an event is published.
use Rattle.source_laws.proofs.Common.{◌≡◌, inl, inr, ℕ, suc, ◌+◌, ◌%◌, ◌<◌, ◌≤◌, [], ◌∷◌, ◌++◌, length, refl, sym, ap, subst, arith, length-append, cases_eq, cases_lt, get_or_append_left, get_or_push, src_word, Row, Becomes, Event, Queue, Source, published, event_at, no_event, next_event, event_word, IsQueued, StandsQueue, with_event, with_accepted, queue_same, queue_push, unsettled_one, Tail, Ack, Src, places_for, Board, Model, BothBecome, Knows, State, near, slots_of, QueueKept, EventsKept, IsWithin, Kept, SourcePart}
use Rattle.fram_words.specs.Places as places
use Rattle.source_laws.proofs.Sources.{source_push_own}
use Rattle.source_laws.proofs.Nears.{near_is, source_as, other_tail, other_push}
use Rattle.source_laws.proofs.Frames.{queue_part, events_part, slots_become}

-- the tail of the queue of source i moves
pub kept_tail : (board : Board) (x y : State) (i tail : ℕ) (row : Row) → Becomes (Tail (board.queue_of i)) tail x.word y.word → y.model ≡ x.model → Becomes i row x.row y.row
    → x.word (Tail (board.queue_of i)) ≤ tail
    → StandsQueue (places_for board i) (slots_of x (board.queue_of i)) tail (x.model.queue (board.queue_of i))
    → Knows i (places_for board i) (length (board.readings i)) (record (near board x i) { tail = tail }) row
    → Kept board x → Kept board y
kept_tail board x y i tail row word model rows up stands knows h = record {
  queues = λ t. elim (cases_eq t (board.queue_of i)) [
    | inl same ↦ subst (QueueKept board y) (sym same)
        (queue_same stands (λ n. word.elsewhere (places.Slot (board.queue_of i) n) (λ e. cc)) word.here (queue (board.queue_of i)))
    | inr other ↦ queue_part board x y t (λ n. word.elsewhere (places.Slot t n) (λ e. cc)) (tail_other t other) (queue t) (h.queues t)
  ];
  events = λ t. events_part board x y t (queue t) (λ j. omega (arith, ap (λ (z : Source). z.next) (source j))) (h.events t);
  sources = λ j. elim (cases_eq j i) [
    | inl same ↦ subst (SourcePart board y) (sym same)
        (source_as {n = record (near board x i) { tail = tail }} (record { stands = (h.sources i).stands; ordered = (h.sources i).ordered; knows = knows })
        (near_is board y i word.here (word.elsewhere (Src i) (λ e. cc)) (word.elsewhere (Ack i) (λ e. cc)) (queue (board.queue_of i)) (source i)) rows.here)
    | inr other ↦ source_as (other_tail (h.sources j) (y.word (Tail (board.queue_of j))) (tail_up (board.queue_of j)))
        (near_is board y j refl (word.elsewhere (Src j) (λ e. cc)) (word.elsewhere (Ack j) (λ e. cc)) (queue (board.queue_of j)) (source j)) (rows.elsewhere j other)
  ];
}
  where
    queue : (t : ℕ) → y.model.queue t ≡ x.model.queue t
    queue t = ap (λ (m : Model). m.queue t) model

    source : (j : ℕ) → y.model.source j ≡ x.model.source j
    source j = ap (λ (m : Model). m.source j) model

    tail_other : (t : ℕ) → (t ≡ board.queue_of i → ⊥) → y.word (Tail t) ≡ x.word (Tail t)
    tail_other t other = word.elsewhere (Tail t) (λ e. other (let same : t ≡ board.queue_of i = cc in same))

    tail_up : (t : ℕ) → x.word (Tail t) ≤ y.word (Tail t)
    tail_up t = elim (cases_eq t (board.queue_of i)) [
      | inl same ↦ subst (λ (u : ℕ). x.word (Tail u) ≤ y.word (Tail u)) (sym same) (omega (arith, up, word.here))
      | inr other ↦ omega (arith, tail_other t other)
    ]

-- source i publishes its next reading at the tail
pub kept_push : (board : Board) (x y : State) (i : ℕ) (row : Row) → i < board.shape.sources → IsWithin board
    → length (x.model.queue (board.queue_of i)).held < places_for board i
    → x.word (Tail (board.queue_of i)) ≡ published (x.model.queue (board.queue_of i))
    → (x.model.source i).next < length (board.readings i)
    → x.word (Src i) ≡ src_word (x.model.source i).accepted (x.model.source i).next
    → Becomes (places.Slot (board.queue_of i) (published (x.model.queue (board.queue_of i)) % places_for board i)) (event_word (published (x.model.queue (board.queue_of i))) (next_event i (board.readings i) (x.model.source i))) x.word y.word
    → BothBecome (board.queue_of i) (with_event (x.model.queue (board.queue_of i)) (next_event i (board.readings i) (x.model.source i))) i (with_accepted (x.model.source i)) x.model y.model
    → Becomes i row x.row y.row
    → Knows i (places_for board i) (length (board.readings i)) (record (near board x i) { queue = with_event (x.model.queue (board.queue_of i)) (next_event i (board.readings i) (x.model.source i)); source = with_accepted (x.model.source i) }) row
    → Kept board x → Kept board y
kept_push board x y i row within w room at left ready word both rows knows h = record {
  queues = λ t. elim (cases_eq t t0) [
    | inl same ↦ subst (QueueKept board y) (sym same)
        (queue_same (queue_push (h.queues t0) e room at (slots_become x y word)) (λ n. refl) (tail t0) both.queue.here)
    | inr other ↦ queue_part board x y t (λ n. word.elsewhere (places.Slot t n) (λ f. other (let same : t ≡ t0 = cc in same))) (tail t) (both.queue.elsewhere t other) (h.queues t)
  ];
  events = λ t. elim (cases_eq t t0) [
    | inl same ↦ subst (EventsKept board y.model.queue y.model.source) (sym same) pushed_events
    | inr other ↦ events_part board x y t (both.queue.elsewhere t other) settled (h.events t)
  ];
  sources = λ j. elim (cases_eq j i) [
    | inl same ↦ subst (SourcePart board y) (sym same)
        (source_as {n = record (near board x i) { queue = with_event q e; source = with_accepted s }}
        (record { stands = source_push_own (h.sources i).stands e ready refl refl; ordered = record { accepted = omega (arith, (h.sources i).ordered.accepted); next = let more : (x.model.source i).next + 1 ≤ length (board.readings i) = omega (arith, left) in more }; knows = knows })
        (near_is board y i (tail t0) (src i) (ack i) both.queue.here both.source.here) rows.here)
    | inr other ↦ elim (cases_eq (board.queue_of j) t0) [
      | inl here ↦ source_as (other_push (h.sources j) e (λ f. other (sym f))) (near_is board y j (tail (board.queue_of j)) (src j) (ack j) (queue_here (board.queue_of j) here) (both.source.elsewhere j other)) (rows.elsewhere j other)
      | inr away ↦ source_as (h.sources j) (near_is board y j (tail (board.queue_of j)) (src j) (ack j) (both.queue.elsewhere (board.queue_of j) away) (both.source.elsewhere j other)) (rows.elsewhere j other)
    ]
  ];
}
  where
    t0 : ℕ
    t0 = board.queue_of i

    q : Queue
    q = x.model.queue (board.queue_of i)

    s : Source
    s = x.model.source i

    e : Event
    e = next_event i (board.readings i) (x.model.source i)

    tail : (t : ℕ) → y.word (Tail t) ≡ x.word (Tail t)
    tail t = word.elsewhere (Tail t) (λ f. cc)

    src : (j : ℕ) → y.word (Src j) ≡ x.word (Src j)
    src j = word.elsewhere (Src j) (λ f. cc)

    ack : (j : ℕ) → y.word (Ack j) ≡ x.word (Ack j)
    ack j = word.elsewhere (Ack j) (λ f. cc)

    queue_here : (t : ℕ) → t ≡ board.queue_of i → y.model.queue t ≡ with_event (x.model.queue t) (next_event i (board.readings i) (x.model.source i))
    queue_here t same = subst (λ (u : ℕ). y.model.queue u ≡ with_event (x.model.queue u) (next_event i (board.readings i) (x.model.source i))) (sym same) both.queue.here

    settled : (j : ℕ) → (x.model.source j).next ≤ (y.model.source j).next
    settled j = elim (cases_eq j i) [
      | inl same ↦ subst (λ (k : ℕ). (x.model.source k).next ≤ (y.model.source k).next) (sym same) (omega (arith, ap (λ (z : Source). z.next) both.source.here))
      | inr other ↦ omega (arith, ap (λ (z : Source). z.next) (both.source.elsewhere j other))
    ]

    pushed_events : EventsKept board y.model.queue y.model.source (board.queue_of i)
    pushed_events =
        let len : length (q.held ++ e ∷ []) ≡ suc (length q.held) = omega (arith, length-append q.held (e ∷ [])) in
        let new : IsQueued board.shape.sources board.queue_of t0 e = (within, refl, omega arith, w.values i s.next) in
        let less = unsettled_one board.queue_of board.readings x.model.source y.model.source t0 board.shape.sources i within refl (ap (λ (z : Source). z.next) both.source.here) left settled in
        record {
          events = subst (λ (z : Queue). (k : ℕ) → k < length z.held → IsQueued board.shape.sources board.queue_of t0 (event_at z.held k)) (sym both.queue.here) (λ k lt.
              elim (cases_lt k (length q.held)) [
                | inl before ↦ subst (IsQueued board.shape.sources board.queue_of t0) (sym (get_or_append_left q.held (e ∷ []) no_event k before)) ((h.events t0).events k before)
                | inr last ↦ subst (IsQueued board.shape.sources board.queue_of t0) (sym (get_or_push q.held e no_event k (let same : length q.held ≡ k = omega arith in same))) new
              ]);
          positions = omega (arith, ap published both.queue.here, len, less, (h.events t0).positions);
        }
