-- Every step keeps the invariant, and the entries that it adds are legal.
use Rattle.source_laws.proofs.Common.{◌≡◌, inl, ℕ, ◌+◌, ◌<◌, ◌==◌, cond, Bool, true, false, [], ◌∷◌, length, refl, sym, ap, ◌∙◌, subst, arith, MatchBool, length-append, eqb-true, ltb-true, eqb-false, Becomes, Makes, empty_word, slot_in, published, event_word, StandsQueue, next_event, with_refused, with_skipped, queue_tail, Tail, Src, places_for, Board, Model, Row, Stage, LoadSrc, LoadSlots, LoadAck, LoadTail, LoadSlot, Publish, MoveTail, HelpTail, StoreSkip, StoreAccepted, IsLeft, is_full_at, after_slot, row_at, src_word, event_of, entry_of, access, take, entry, found, slot_place, Knows, State, near, slots_of, IsWithin, Kept, MayAdd, Adds, SourceStep, Step}
use Rattle.push_core.specs.declared.point.Point.TheVariants as points
use Rattle.source_laws.specs.Steps as steps
use Rattle.source_laws.proofs.Own.{own_src, own_slots, own_ack, own_tail, own_slot, own_refuse, own_won, own_lost}
use Rattle.source_laws.proofs.Frames.{own_of, kept_own}
use Rattle.source_laws.proofs.SourceMoves.{kept_tail, kept_push}
use Rattle.source_laws.proofs.KernelMoves.{kept_finish, kept_ack, kept_release, kept_apart}

-- a table that stays
unchanged : {K V : Type 0} (k : K) (old new : K → V) → new ≡ old → Becomes k (old k) old new
unchanged k old new same = record { here = ap (λ f. f k) same; elsewhere = λ j _. ap (λ f. f j) same }

module _ (board : Board) (x y : State) (i : ℕ) (w : IsWithin board) (lt : i < board.shape.sources) (h : Kept board x) where
  -- what source i knows in a row
  abbrev At : Row → Type 0
  At row = Knows i (places_for board i) (length (board.readings i)) (near board x i) row

  -- a step that changes the source's registers alone
  still : (row : Row) → y.word ≡ x.word → y.model ≡ x.model → Becomes i row x.row y.row → At row → Kept board y
  still row word model rows knows =
      kept_own board x y i (x.word (Src i)) (x.model.source i) row (unchanged (Src i) x.word y.word word)
      (record { queue = ap (λ (m : Model). m.queue) model; source = unchanged i x.model.source y.model.source (ap (λ (m : Model). m.source) model) })
      rows refl (omega arith) (h.sources i).ordered (h.sources i).stands.stored knows h

  -- the tail's exchange from p to the next position, p being published
  moved : (p : ℕ) (row : Row) → MatchBool (x.word (Tail (board.queue_of i)) == p) (Becomes (Tail (board.queue_of i)) (p + 1) x.word y.word) (y.word ≡ x.word) → y.model ≡ x.model → Becomes i row x.row y.row
      → p < published (x.model.queue (board.queue_of i)) → ((tail : ℕ) → Knows i (places_for board i) (length (board.readings i)) (record (near board x i) { tail = tail }) row) → Kept board y
  moved p row word model rows before knows = by_test (x.word (Tail (board.queue_of i)) == p) refl word
    where
      by_test : (b : Bool) → (x.word (Tail (board.queue_of i)) == p) ≡ b → MatchBool b (Becomes (Tail (board.queue_of i)) (p + 1) x.word y.word) (y.word ≡ x.word) → Kept board y
      by_test true e word =
          let at : x.word (Tail (board.queue_of i)) ≡ p = eqb-true _ _ e in
          let stands : StandsQueue (places_for board i) (slots_of x (board.queue_of i)) (p + 1) (x.model.queue (board.queue_of i)) =
          subst (λ (n : ℕ). StandsQueue (places_for board i) (slots_of x (board.queue_of i)) (n + 1) (x.model.queue (board.queue_of i))) at (queue_tail (h.queues (board.queue_of i)) (omega arith)) in
          kept_tail board x y i (p + 1) row word model rows (omega arith) stands (knows (p + 1)) h
      by_test false e word = still row word model rows (knows (x.word (Tail (board.queue_of i))))

  -- the load of the tail's slot
  looked : (a k p : ℕ) → At (row_at a k (LoadSlot p)) → y.word ≡ x.word
      → Becomes i (row_at a k (after_slot (places_for board i) p (slot_in (x.word (slot_place board i p))))) x.row y.row
      → Adds board (entry board i (row_at a k (LoadSlot p)) (x.word (slot_place board i p))) x.model y.model
      → MayAdd board (entry board i (row_at a k (LoadSlot p)) (x.word (slot_place board i p))) x.model × Kept board y
  looked a k p knows word rows model = by_test (is_full_at (places_for board i) p (slot_in (x.word (slot_place board i p)))) refl model
    where
      by_test : (b : Bool) → is_full_at (places_for board i) p (slot_in (x.word (slot_place board i p))) ≡ b → Adds board (entry_of i (cond b points.Refused points.Nothing)) x.model y.model → MayAdd board (entry_of i (cond b points.Refused points.Nothing)) x.model × Kept board y
      by_test true e model =
          let found = own_refuse (own_of board x i w lt h) a k p knows e in (
            (omega (arith, knows.0.next, knows.1), found.1),
            kept_own board x y i (x.word (Src i)) (with_refused (x.model.source i)) (row_at a k StoreSkip) (unchanged (Src i) x.word y.word word) model
                (subst (λ (r : Stage). Becomes i (row_at a k r) x.row y.row) found.0 rows) refl (omega arith) (record { accepted = (h.sources i).ordered.accepted; next = (h.sources i).ordered.next }) (h.sources i).stands.stored
                (record { word = knows.0.word; accepted = knows.0.accepted; next = knows.0.next }, refl, knows.1) h,
          )
      by_test false e model = (tt, still _ word model rows (own_slot (own_of board x i w lt h) a k p knows e))

  -- the exchange that publishes
  published_by : (a k p : ℕ) → At (row_at a k (Publish p))
      → MatchBool (x.word (slot_place board i p) == empty_word p) (Becomes (slot_place board i p) (event_word p (event_of board i a k)) x.word y.word) (y.word ≡ x.word)
      → Becomes i (take board i (row_at a k (Publish p)) (x.word (slot_place board i p))) x.row y.row
      → Adds board (entry board i (row_at a k (Publish p)) (x.word (slot_place board i p))) x.model y.model
      → MayAdd board (entry board i (row_at a k (Publish p)) (x.word (slot_place board i p))) x.model × Kept board y
  published_by a k p knows word rows model = by_test (x.word (slot_place board i p) == empty_word p) refl word rows model
    where
      by_test : (b : Bool) → (x.word (slot_place board i p) == empty_word p) ≡ b → MatchBool b (Becomes (slot_place board i p) (event_word p (event_of board i a k)) x.word y.word) (y.word ≡ x.word)
          → Becomes i (row_at a k (cond b (MoveTail p) (HelpTail p))) x.row y.row
          → Adds board (entry_of i (cond b points.Pushed points.Nothing)) x.model y.model → MayAdd board (entry_of i (cond b points.Pushed points.Nothing)) x.model × Kept board y
      by_test true e word rows model =
          let won = own_won (own_of board x i w lt h) p knows.2 (eqb-true _ _ e) in
          let left : (x.model.source i).next < length (board.readings i) = omega (arith, knows.0.next, knows.1) in
          let now = subst (λ (z : ℕ × ℕ × ℕ). Becomes (slot_place board i z.0) (event_word z.0 (event_of board i z.1 z.2)) x.word y.word) (sym (λ j. (won.0 j, knows.0.accepted j, knows.0.next j))) word in
          let ready = knows.0.word ∙ sym (λ j. src_word (knows.0.accepted j) (knows.0.next j)) in (
            (left, won.1),
            kept_push board x y i (row_at a k (MoveTail p)) lt w won.1 (won.2 ∙ sym won.0) left ready now model rows
                (record { word = knows.0.word; accepted = ap (λ n. n + 1) knows.0.accepted; next = ap (λ n. n + 1) knows.0.next }, omega (arith, won.0, length-append (x.model.queue (board.queue_of i)).held (next_event i (board.readings i) (x.model.source i) ∷ []))) h,
          )
      by_test false e word rows model = (tt, still (row_at a k (HelpTail p)) word model rows (knows.0, knows.1, own_lost (own_of board x i w lt h) p knows.2 knows.3 (eqb-false _ _ e)))

  step_at : (a k : ℕ) (stage : Stage) → At (row_at a k stage) → IsLeft (length (board.readings i)) (row_at a k stage) → Makes (access board i (row_at a k stage)) x.word y.word
      → Becomes i (take board i (row_at a k stage) (found board x.word i (row_at a k stage))) x.row y.row → Adds board (entry board i (row_at a k stage) (found board x.word i (row_at a k stage))) x.model y.model
      → MayAdd board (entry board i (row_at a k stage) (found board x.word i (row_at a k stage))) x.model × Kept board y
  step_at a k LoadSrc knows left word rows model = (tt, still _ word model rows (own_src (own_of board x i w lt h)))
  step_at a k (LoadSlots n seen) knows left word rows model = (tt, still _ word model rows (own_slots (own_of board x i w lt h) a k n seen knows))
  step_at a k (LoadAck seen) knows left word rows model = (tt, still _ word model rows (own_ack (own_of board x i w lt h) a k seen knows))
  step_at a k LoadTail knows left word rows model = (tt, still _ word model rows (own_tail (own_of board x i w lt h) a k (ltb-true _ _ left) knows))
  step_at a k (LoadSlot p) knows left word rows model = looked a k p knows word rows model
  step_at a k (Publish p) knows left word rows model = published_by a k p knows word rows model
  step_at a k (MoveTail p) knows left word rows model = (tt, moved p (row_at a k StoreAccepted) word model rows knows.1 (λ tail. knows.0))
  step_at a k (HelpTail p) knows left word rows model = (tt, moved p (row_at a k LoadTail) word model rows knows.2 (λ tail. knows.0))
  step_at a k StoreSkip knows left word rows model = (
    knows.1,
    kept_own board x y i (src_word a (k + 1)) (with_skipped (x.model.source i)) (row_at a (k + 1) LoadTail) word model rows refl (omega arith)
        (record { accepted = omega (arith, (h.sources i).ordered.accepted); next = omega (arith, knows.0.next, knows.2) })
        (a, k + 1, refl, inl (knows.0.accepted, (let e : (x.model.source i).next + 1 ≡ k + 1 = omega (arith, knows.0.next) in e)))
        (record { word = refl; accepted = knows.0.accepted; next = omega (arith, knows.0.next) }) h,
  )
  step_at a k StoreAccepted knows left word rows model = (
    tt,
    kept_own board x y i (src_word (a + 1) (k + 1)) (x.model.source i) (row_at (a + 1) (k + 1) LoadTail) word
        (record { queue = ap (λ (m : Model). m.queue) model; source = unchanged i x.model.source y.model.source (ap (λ (m : Model). m.source) model) }) rows refl (omega arith) (h.sources i).ordered
        (a + 1, k + 1, refl, inl (omega (arith, knows.accepted), omega (arith, knows.next))) (record { word = refl; accepted = omega (arith, knows.accepted); next = omega (arith, knows.next) }) h,
  )

-- each access of a source adds a legal entry or none, and keeps the invariant
pub source_step : (board : Board) (x y : State) (i : ℕ) → IsWithin board → i < board.shape.sources → Kept board x → SourceStep board i x y → MayAdd board (entry board i (x.row i) (found board x.word i (x.row i))) x.model × Kept board y
source_step board x y i w lt h s = step_at board x y i w lt h (x.row i).accepted (x.row i).next (x.row i).stage (h.sources i).knows s.left s.word s.row s.model

-- and so does every other step
pub kept_step : (board : Board) (x y : State) → IsWithin board → Kept board x → Step board x y → Kept board y
kept_step board x y w h (steps.Source i lt s) = (source_step board x y i w lt h s).1
kept_step board x y w h (steps.Commit t legal word model row) = kept_finish board x y t word model row h
kept_step board x y w h (steps.Acknowledge t own count f word model row) = kept_ack board x y t own count w f word model row h
kept_step board x y w h (steps.Empties t own count f acked word model row) = kept_release board x y t own count f acked word model row h
kept_step board x y w h (steps.Apart word model rows) = kept_apart board x y word model rows h
