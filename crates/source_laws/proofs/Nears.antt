-- The part of a source through the steps of the others.
use Rattle.source_laws.proofs.Common.{◌≡◌, inl, inr, ℕ, ◌+◌, ◌%◌, ◌≤◌, length, sym, ◌∙◌, subst, cases_eq, Row, Tail, Ack, Src, Event, Queue, Source, event_source, IsFinishing, KeepsNumbers, with_event, without_first, with_finished, finishing_some, finishing_source, Board, Near, State, near, SourceKept}
use Rattle.ink_base.specs.declared.limits.TheConstants as limits
use Rattle.source_laws.proofs.Sources.{source_push_other, source_finish, source_ack, source_release_own, source_release_other}
use Rattle.source_laws.proofs.Drifts.{changed, Drifts, knows_drift, drift_tail, drift_push, drift_finish, drift_ack, drift_release}

-- what is near the source after a step, by its parts
pub near_is : (board : Board) (y : State) (j : ℕ) {tail src ack : ℕ} {q : Queue} {s : Source} → y.word (Tail (board.queue_of j)) ≡ tail → y.word (Src j) ≡ src → y.word (Ack j) ≡ ack → y.model.queue (board.queue_of j) ≡ q → y.model.source j ≡ s
    → near board y j ≡ record { tail = tail; src = src; ack = ack; queue = q; source = s }
near_is board y j a b c d e = λ k. record { tail = a k; src = b k; ack = c k; queue = d k; source = e k }

-- the part at an equal view and row
pub source_as : {i places readings : ℕ} {n m : Near} {row now : Row} → SourceKept i places readings n row → m ≡ n → now ≡ row → SourceKept i places readings m now
source_as {i} {places} {readings} h same at = subst (λ (z : Near × Row). SourceKept i places readings z.0 z.1) (sym (λ k. (same k, at k))) h

module _ {i places readings : ℕ} {n : Near} {row : Row} (h : SourceKept i places readings n row) where
  -- the others' change drifts, and the words stand after it
  drifted : (tail ack : ℕ) (q : Queue) → KeepsNumbers i n.src ack q n.source → Drifts i places n tail ack q → SourceKept i places readings (changed n tail ack q) row
  drifted tail ack q stands d = record { stands = stands; ordered = h.ordered; knows = knows_drift d readings row.accepted row.next row.stage h.knows }

  pub other_tail : (tail : ℕ) → n.tail ≤ tail → SourceKept i places readings (record n { tail = tail }) row
  other_tail tail up = drifted tail n.ack n.queue h.stands (drift_tail i places n tail up)

  pub other_push : (e : Event) → (event_source e ≡ i → ⊥) → SourceKept i places readings (record n { queue = with_event n.queue e }) row
  other_push e other = drifted n.tail n.ack (with_event n.queue e) (source_push_other h.stands e other) (drift_push i places n e)

  pub other_finish : SourceKept i places readings (record n { queue = with_finished n.queue }) row
  other_finish = drifted n.tail n.ack (with_finished n.queue) (source_finish h.stands) (drift_finish i places n)

  pub own_acked : (ack count : ℕ) → IsFinishing i count n.queue → length n.queue.held ≤ limits.QUEUE_PLACES → ack ≡ (count + 1) % 64 → SourceKept i places readings (record n { ack = ack }) row
  own_acked ack count f room is = drifted n.tail ack n.queue (source_ack h.stands ack count f is) (drift_ack i places n ack count f room is h.stands)

  pub any_release : (own count : ℕ) → IsFinishing own count n.queue → (own ≡ i → n.ack ≡ (count + 1) % 64) → SourceKept i places readings (record n { queue = without_first n.queue }) row
  any_release own count f acked = drifted n.tail n.ack (without_first n.queue) stands (drift_release i places n own count f acked)
    where
      stands : KeepsNumbers i n.src n.ack (without_first n.queue) n.source
      stands = elim (cases_eq own i) [
        | inl mine ↦ source_release_own h.stands count (subst (λ (k : ℕ). IsFinishing k count n.queue) mine f) (acked mine)
        | inr other ↦ source_release_other h.stands (finishing_some f) (λ e. other (sym (finishing_source f) ∙ e))
      ]
