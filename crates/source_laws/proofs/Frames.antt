-- The parts of what is kept that a step leaves alone.
use Rattle.source_laws.proofs.Common.{◌≡◌, inl, inr, ℕ, ◌<◌, ◌≤◌, length, sym, ap, subst, arith, cases_eq, Becomes, Tail, Ack, Src, Queue, Source, published, event_at, IsQueued, Stored, queue_same, unsettled_least, places_for, Board, SourceBecomes, Row, Knows, State, near, QueueKept, slots_of, EventsKept, IsOrdered, IsWithin, Kept, SourcePart}
use Rattle.fram_words.specs.Places as places
use Rattle.source_laws.proofs.Sources.{source_store}
use Rattle.source_laws.proofs.Nears.{near_is, source_as}
use Rattle.source_laws.proofs.Counts.{positions_fit, event_fits}
use Rattle.source_laws.proofs.Own.{Own}

module _ (board : Board) (x y : State) where
  pub queue_part : (t : ℕ) → ((n : ℕ) → y.word (places.Slot t n) ≡ x.word (places.Slot t n)) → y.word (Tail t) ≡ x.word (Tail t) → y.model.queue t ≡ x.model.queue t → QueueKept board x t → QueueKept board y t
  queue_part t slots tail queue h = queue_same h slots tail queue

  pub events_part : (t : ℕ) → y.model.queue t ≡ x.model.queue t → ((j : ℕ) → (x.model.source j).next ≤ (y.model.source j).next) → EventsKept board x.model.queue x.model.source t → EventsKept board y.model.queue y.model.source t
  events_part t queue more h = record {
    events = subst (λ (q : Queue). (k : ℕ) → k < length q.held → IsQueued board.shape.sources board.queue_of t (event_at q.held k)) (sym queue) h.events;
    positions = omega (arith, h.positions, ap published queue, unsettled_least board.queue_of board.readings x.model.source y.model.source t board.shape.sources more);
  }

-- what is known of one source
pub own_of : (board : Board) (x : State) (i : ℕ) → IsWithin board → i < board.shape.sources → Kept board x
    → Own i (places_for board i) (length (board.readings i)) (slots_of x (board.queue_of i)) (near board x i)
own_of board x i w lt h =
    record {
      queue = h.queues (board.queue_of i);
      source = (h.sources i).stands;
      ordered = (h.sources i).ordered;
      fits = event_fits board x.model.queue x.model.source (board.queue_of i) w (h.events (board.queue_of i));
      positions = omega (arith, positions_fit board x.model.queue x.model.source (board.queue_of i) w (h.events (board.queue_of i)));
      some = w.places i lt;
      small = w.no_more (board.queue_of i);
      few = w.readings i;
      known = omega (arith, w.sources);
    }

-- a step of source i that leaves its queue, and what it has accepted, alone
pub kept_own : (board : Board) (x y : State) (i src : ℕ) (s : Source) (row : Row) → Becomes (Src i) src x.word y.word → SourceBecomes i s x.model y.model → Becomes i row x.row y.row
    → s.accepted ≡ (x.model.source i).accepted → (x.model.source i).next ≤ s.next → IsOrdered (length (board.readings i)) s → Stored src s
    → Knows i (places_for board i) (length (board.readings i)) (record (near board x i) { src = src; source = s }) row
    → Kept board x → Kept board y
kept_own board x y i src s row word model rows accepted more ordered stored knows h = record {
  queues = λ t. queue_part board x y t (λ n. word.elsewhere (places.Slot t n) (λ e. cc)) (word.elsewhere (Tail t) (λ e. cc)) (queue t) (h.queues t);
  events = λ t. events_part board x y t (queue t) (λ j. elim (cases_eq j i) [
    | inl same ↦ subst (λ (k : ℕ). (x.model.source k).next ≤ (y.model.source k).next) (sym same) (omega (arith, more, ap (λ (z : Source). z.next) model.source.here))
    | inr other ↦ omega (arith, ap (λ (z : Source). z.next) (model.source.elsewhere j other))
  ]) (h.events t);
  sources = λ j. elim (cases_eq j i) [
    | inl same ↦ subst (SourcePart board y) (sym same)
        (source_as {n = record (near board x i) { src = src; source = s }} (record { stands = source_store (h.sources i).stands src s accepted stored; ordered = ordered; knows = knows })
        (near_is board y i (tail i) word.here (ack i) (queue (board.queue_of i)) model.source.here) rows.here)
    | inr other ↦ source_as (h.sources j) (near_is board y j (tail j) (word.elsewhere (Src j) (λ e. other (let same : j ≡ i = cc in same))) (ack j) (queue (board.queue_of j)) (model.source.elsewhere j other)) (rows.elsewhere j other)
  ];
}
  where
    queue : (t : ℕ) → y.model.queue t ≡ x.model.queue t
    queue t = ap (λ (f : ℕ → Queue). f t) model.queue

    tail : (j : ℕ) → y.word (Tail (board.queue_of j)) ≡ x.word (Tail (board.queue_of j))
    tail j = word.elsewhere (Tail (board.queue_of j)) (λ e. cc)

    ack : (j : ℕ) → y.word (Ack j) ≡ x.word (Ack j)
    ack j = word.elsewhere (Ack j) (λ e. cc)

-- the slots of one queue
pub slots_become : (x y : State) {t n v : ℕ} → Becomes (places.Slot t n) v x.word y.word → Becomes n v (slots_of x t) (slots_of y t)
slots_become x y {t} {n} b = record { here = b.here; elsewhere = λ m other. b.elsewhere (places.Slot t m) (λ f. other (let same : m ≡ n = cc in same)) }
