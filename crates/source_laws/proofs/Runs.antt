-- The invariant holds from any words that stand on, as the first image's, and the words then stand for the never-cut kernel.
use Rattle.source_laws.proofs.Common.{◌≡◌, ◌⊎◌, inl, inr, ℕ, zero, suc, ◌+◌, ◌/◌, ◌%◌, ◌^◌, ◌<◌, ◌≤◌, length, refl, sym, ap, ◌∙◌, subst, arith, mod-eq_of_lt, Queue, open_queue, published, event_at, StandsSource, KeepsNumbers, number_source, number_count, queue_same, unsettled_bound, Board, Near, State, near, slots_of, IsOrdered, IsWithin, Kept, IsFirst, IsStart, IsRun}
use Rattle.ink_base.specs.declared.limits.TheConstants as limits
use Rattle.fram_words.specs.Places as places
use Rattle.source_laws.proofs.Sources.{stored_as, own_count, ack_behind, last_one}
use Rattle.source_laws.proofs.Own.{Own}
use Rattle.source_laws.proofs.Frames.{own_of}
use Rattle.source_laws.proofs.Nears.{near_is, source_as}
use Rattle.source_laws.proofs.Steps.{kept_step}

-- the first image stands, and nothing is settled
pub start_first : (board : Board) (x : State) → IsWithin board → IsFirst board x → IsStart board x
start_first board x w h = record {
  queues = λ t. queue_same {places = board.places t} {slot = slots_of x t} {tail = 0} {q = open_queue}
      (record {
        room = omega arith;
        full_slots = λ k lt. absurd (omega arith);
        empty_slots = λ s above below. let lt : s < board.places t = omega arith in ap (λ n. x.word (places.Slot t n)) (mod-eq_of_lt lt) ∙ h.slots t s lt;
        tail_near = inl (omega arith);
      }) (λ n. refl) (h.tails t) (h.queues t);
  events = λ t. record {
    events = λ k lt. absurd (let n = ap (λ (q : Queue). length q.held) (h.queues t) in omega arith);
    positions = omega (arith, ap published (h.queues t), unsettled_bound board.queue_of board.readings x.model.source t board.shape.sources limits.READINGS w.readings, w.sources);
  };
  stands = λ i. subst (λ (n : Near). KeepsNumbers i n.src n.ack n.queue n.source) (sym (near_is board x i (h.tails (board.queue_of i)) (h.srcs i) (h.acks i) (h.queues (board.queue_of i)) (h.sources i)))
      (record { gone = 0; numbered = refl; ack_is = inl (omega arith); stored = (0, 0, omega arith, inl (refl, refl)) });
  ordered = λ i. subst (IsOrdered (length (board.readings i))) (sym (h.sources i)) (record { accepted = omega arith; next = omega arith });
  rows = h.rows;
}

-- what stands is kept while each source is at its first row
pub kept_start : (board : Board) (x : State) → IsStart board x → Kept board x
kept_start board x h = record {
  queues = h.queues;
  events = h.events;
  sources = λ i. source_as (record { stands = h.stands i; ordered = h.ordered i; knows = (refl, refl) }) (λ k. near board x i) (h.rows i);
}

-- at each moment of each run
pub kept_run : (board : Board) (at : ℕ → State) → IsWithin board → IsRun board at → (n : ℕ) → Kept board (at n)
kept_run board at w run zero = kept_start board (at zero) run.first
kept_run board at w run (suc n) = kept_step board (at n) (at (suc n)) w (kept_run board at w run n) (run.steps n)

-- SRC, ACK and the queue tell the numbers of a source
told : {i places readings : ℕ} {slot : ℕ → ℕ} {n : Near} → Own i places readings slot n → StandsSource i n.src n.ack n.queue.held n.source
told {i} {places} {readings} {slot} {n} o = record {
  one_more = λ seen. elim is [
    | inl same ↦ absurd (elim seen [
      | inl held ↦ own_count o.source (n.src % 2 ^ 32) held.0 few held.1 (number_source i (n.src % 2 ^ 32) (event_at n.queue.held held.0) held.2)
          (number_count i (n.src % 2 ^ 32) (event_at n.queue.held held.0) held.2) same.0
      | inr acked ↦ ack_behind o.source (n.src % 2 ^ 32) few acked same.0
    ])
    | inr more ↦ more
  ];
  as_many = λ unseen. elim is [
    | inl same ↦ same
    | inr more ↦ absurd (unseen (last_one o.source (n.src % 2 ^ 32) (omega (arith, o.known)) more.0))
  ];
}
  where
    few : length n.queue.held ≤ limits.QUEUE_PLACES
    few = omega (arith, o.queue.room, o.small)

    is : ((n.source.accepted ≡ n.src % 2 ^ 32) × (n.source.next ≡ n.src / 2 ^ 32)) ⊎ ((n.source.accepted ≡ n.src % 2 ^ 32 + 1) × (n.source.next ≡ n.src / 2 ^ 32 + 1))
    is = stored_as o.source (n.src % 2 ^ 32) (n.src / 2 ^ 32) (omega arith) (omega (arith, o.ordered.accepted, o.ordered.next, o.few)) (omega arith)

-- what the words of a source tell of it
pub tells : (board : Board) (x : State) (i : ℕ) → IsWithin board → i < board.shape.sources → Kept board x →
    StandsSource i (x.word (places.Src i)) (x.word (places.Ack i)) (x.model.queue (board.queue_of i)).held (x.model.source i)
tells board x i w lt h = told (own_of board x i w lt h)
