-- A source's row fits what its machine's contract asks, and so does the word that its access finds.
use Rattle.source_laws.proofs.Common.{inl, inr, ℕ, ◌/◌, ◌%◌, ◌^◌, ◌<◌, ◌≤◌, Bool, length, arith, greatest_tail, IsPort, FitsStage, IsRowFor, IsAnswer, row_at, Stage, LoadSrc, LoadSlots, LoadAck, LoadTail, LoadSlot, Publish, MoveTail, HelpTail, StoreSkip, StoreAccepted, published, Board, Near, port_of, found, KnowsAt, Boots, State, IsWithin, Kept}
use Rattle.source_laws.proofs.Sources.{stored_as}
use Rattle.source_laws.proofs.Own.{Own}
use Rattle.source_laws.proofs.Frames.{own_of}

-- the numbers of a row, and those of its stage
RowFits : (places readings a k : ℕ) → Stage → Type 0
RowFits places readings a k stage = (a ≤ k) × (k ≤ readings) × FitsStage places readings k stage

module _ {i places readings : ℕ} {slot : ℕ → ℕ} {v : Near} (o : Own i places readings slot v) (bound : published v.queue ≤ greatest_tail) where
  boots_fit : (a k n : ℕ) (seen : Bool) → Boots i places v a k n seen → (a ≤ k) × (k ≤ readings)
  boots_fit a k n seen b = elim (stored_as o.source a k b.small (omega (arith, o.ordered.accepted, o.ordered.next, o.few)) b.word) [
    | inl same ↦ (omega (arith, same, o.ordered.accepted), omega (arith, same, o.ordered.next))
    | inr late ↦ (omega (arith, late, o.ordered.accepted), omega (arith, late, o.ordered.next))
  ]

  tail_fits : v.tail ≤ greatest_tail
  tail_fits = omega (arith, o.queue.tail_near, bound)

  fits : (a k : ℕ) (stage : Stage) → KnowsAt i places readings v a k stage → RowFits places readings a k stage
  unfolding RowFits
  fits a k LoadSrc h = (omega arith, omega arith, tt)
  fits a k (LoadSlots n seen) h = let b = boots_fit a k n seen h.0 in (b.0, b.1, h.1)
  fits a k (LoadAck seen) h = let b = boots_fit a k places seen h in (b.0, b.1, tt)
  fits a k LoadTail h = (omega (arith, h.accepted, h.next, o.ordered.accepted), omega (arith, h.next, o.ordered.next), tt)
  fits a k (LoadSlot p) h = (omega (arith, h.0.accepted, h.0.next, o.ordered.accepted), omega (arith, h.1), (h.1, omega (arith, h.2, tail_fits)))
  fits a k (Publish p) h = (omega (arith, h.0.accepted, h.0.next, o.ordered.accepted), omega (arith, h.1), (h.1, omega (arith, h.2, tail_fits)))
  fits a k (MoveTail p) h = (omega (arith, h.0.accepted, h.0.next, o.ordered.accepted), omega (arith, h.0.next, o.ordered.next), (omega (arith, h.0.next, o.ordered.next), omega (arith, h.1, bound)))
  fits a k (HelpTail p) h = (omega (arith, h.0.accepted, h.0.next, o.ordered.accepted), omega (arith, h.1), (h.1, omega (arith, h.2, bound)))
  fits a k StoreSkip h = (omega (arith, h.0.accepted, h.0.next, o.ordered.accepted), omega (arith, h.2), h.2)
  fits a k StoreAccepted h = (omega (arith, h.accepted, h.next, o.ordered.accepted), omega (arith, h.next, o.ordered.next), omega (arith, h.next, o.ordered.next))

  src_fits : (v.src % 2 ^ 32 ≤ readings) × (v.src / 2 ^ 32 ≤ readings)
  src_fits = elim (stored_as o.source (v.src % 2 ^ 32) (v.src / 2 ^ 32) (omega arith) (omega (arith, o.ordered.accepted, o.ordered.next, o.few)) (omega arith)) [
    | inl same ↦ (omega (arith, same, o.ordered.accepted, o.ordered.next), omega (arith, same, o.ordered.next))
    | inr late ↦ (omega (arith, late, o.ordered.accepted, o.ordered.next), omega (arith, late, o.ordered.next))
  ]

module _ (board : Board) (x : State) (i : ℕ) (w : IsWithin board) (lt : i < board.shape.sources) (h : Kept board x) where
  bound_of : published (x.model.queue (board.queue_of i)) ≤ greatest_tail
  bound_of = omega (arith, (h.events (board.queue_of i)).positions)

  -- the row of a source is one that its machine can come to
  pub row_fits : IsPort (port_of board i) → IsRowFor (port_of board i) (length (board.readings i)) (x.row i)
  unfolding RowFits
  row_fits port =
      let f = fits (own_of board x i w lt h) bound_of (x.row i).accepted (x.row i).next (x.row i).stage (h.sources i).knows in
      record { place = port; accepted = omega (arith, f.0); next = f.1; stage = f.2 }

  answer_at : (a k : ℕ) (stage : Stage) → IsAnswer (length (board.readings i)) stage (found board x.word i (row_at a k stage))
  answer_at a k LoadSrc = src_fits (own_of board x i w lt h) bound_of
  answer_at a k LoadTail = tail_fits (own_of board x i w lt h) bound_of
  answer_at a k _ = tt

  -- the word that its access finds is one that it may find
  pub answer_fits : IsAnswer (length (board.readings i)) (x.row i).stage (found board x.word i (x.row i))
  answer_fits = answer_at (x.row i).accepted (x.row i).next (x.row i).stage
