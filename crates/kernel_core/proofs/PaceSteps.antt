-- What each step makes of a source's pace: its own accesses, those of the other sources, and those of the kernel and the clock.
use Rattle.kernel_core.proofs.Common.{◌≡◌, inl, inr, ℕ, ◌+◌, ◌%◌, ◌<◌, ◌≤◌, ◌==◌, ◌&&◌, ◌||◌, cond, nat_lt, Bool, true, false, [], ◌∷◌, length, Option, Some, None, refl, sym, ap, ◌∙◌, subst, arith, eq-eqb, ne_eqb, length-append, cases_eq, Becomes, Tail, Memory, place_of, Queue, without_first, event_word, empty_word, slot_in, Point, Row, Stage, LoadSrc, LoadSlots, LoadAck, LoadTail, LoadSlot, Publish, MoveTail, HelpTail, StoreSkip, StoreAccepted, point_of, is_full_at, State, Adds, Step, Kept, places_for, access_at, event_of, port_of, slot_place}
use Rattle.std.proofs.Common.{eqb-true, length-drop}
use Rattle.std.specs.Bool.{MatchBool}
use Rattle.std.proofs.lemmas.Bool.{eqb-false}
use Rattle.fram_words.specs.Accesses.{Makes}
use Rattle.fram_words.specs.Places as places
use Rattle.push_core.proofs.Events.{finishing_some}
use Rattle.push_core.specs.Queue.{published, with_event, next_event}
use Rattle.push_core.specs.Table.{after_slot, shows_own, take_at}
use Rattle.push_core.specs.declared.point.Point.TheVariants as points
use Rattle.push_core.specs.declared.slot.Slot.{Slot}
use Rattle.push_core.specs.declared.slot.Slot.TheVariants.{Empty, Full}
use Rattle.source_laws.specs.Model.{Board, Model}
use Rattle.source_laws.specs.Rows.{entry_of}
use Rattle.source_laws.specs.Stands.{near}
use Rattle.source_laws.specs.Steps as steps
use Rattle.source_laws.specs.kept.Knows.{KnowsAt}
use Rattle.kernel_core.specs.kept.Paces.{spent, reach, IsPaced}
use Rattle.kernel_core.proofs.SourcePaces.{row_moves}

-- how many readings the access settles
abbrev pub settled_at : Point → ℕ
settled_at points.Pushed = 1
settled_at points.Skipped = 1
settled_at _ = 0

-- how many events it pushes into queue t
abbrev pub pushed_at : Board → (t i : ℕ) → Point → ℕ
pushed_at board t i points.Pushed = cond (board.queue_of i == t) 1 0
pushed_at board t i _ = 0

module _ (board : Board) (x y : State) where
  -- the tail of a queue, and how many events it has accepted
  abbrev tail_rises : ℕ → Type 0
  tail_rises t = x.word (Tail t) ≤ y.word (Tail t)

  tail_same : (t : ℕ) → y.word (Tail t) ≡ x.word (Tail t) → tail_rises t
  tail_same t e = omega arith

  events_same : (t : ℕ) → y.model ≡ x.model → published (y.model.queue t) ≡ published (x.model.queue t)
  events_same t same = ap (λ (m : Model). published (m.queue t)) same

  -- the exchange of a queue's tail raises it
  exchange_rises : (u p t : ℕ) → MatchBool (x.word (Tail u) == p) (Becomes (Tail u) (p + 1) x.word y.word) (y.word ≡ x.word) → tail_rises t
  exchange_rises u p t word = by_test (x.word (Tail u) == p) refl word
    where
      by_test : (b : Bool) → (x.word (Tail u) == p) ≡ b → MatchBool b (Becomes (Tail u) (p + 1) x.word y.word) (y.word ≡ x.word) → tail_rises t
      by_test true e word = elim (cases_eq t u) [
        | inl same ↦ subst tail_rises (sym same) (let at = eqb-true _ _ e in let here = word.here in omega arith)
        | inr other ↦ tail_same t (word.elsewhere (Tail t) (λ e. other (let same : t ≡ u = cc in same)))
      ]
      by_test false e word = tail_same t (ap (λ w. w (Tail t)) word)

  -- and afterwards it is past the position, where an event stands there
  exchange_past : (u p : ℕ) → p ≤ x.word (Tail u) → MatchBool (x.word (Tail u) == p) (Becomes (Tail u) (p + 1) x.word y.word) (y.word ≡ x.word) → p + 1 ≤ y.word (Tail u)
  exchange_past u p low word = by_test (x.word (Tail u) == p) refl word
    where
      by_test : (b : Bool) → (x.word (Tail u) == p) ≡ b → MatchBool b (Becomes (Tail u) (p + 1) x.word y.word) (y.word ≡ x.word) → p + 1 ≤ y.word (Tail u)
      by_test true e word = let here = word.here in omega arith
      by_test false e word = let ne = eqb-false _ _ e in let same = ap (λ w. w (Tail u)) word in omega arith

  -- a source's access raises the tails
  pub source_tails : (i a k t : ℕ) (stage : Stage) → Makes (access_at board i a k stage) x.word y.word → tail_rises t
  source_tails i a k t LoadSrc word = tail_same t (ap (λ w. w (Tail t)) word)
  source_tails i a k t (LoadSlots n seen) word = tail_same t (ap (λ w. w (Tail t)) word)
  source_tails i a k t (LoadAck seen) word = tail_same t (ap (λ w. w (Tail t)) word)
  source_tails i a k t LoadTail word = tail_same t (ap (λ w. w (Tail t)) word)
  source_tails i a k t (LoadSlot p) word = tail_same t (ap (λ w. w (Tail t)) word)
  source_tails i a k t (Publish p) word = by_test (x.word (slot_place board i p) == empty_word p) word
    where
      by_test : (b : Bool) → MatchBool b (Becomes (slot_place board i p) (event_word p (event_of board i a k)) x.word y.word) (y.word ≡ x.word) → tail_rises t
      by_test true word = tail_same t (word.elsewhere (Tail t) (λ e. cc))
      by_test false word = tail_same t (ap (λ w. w (Tail t)) word)
  source_tails i a k t (MoveTail p) word = exchange_rises (board.queue_of i) p t word
  source_tails i a k t (HelpTail p) word = exchange_rises (board.queue_of i) p t word
  source_tails i a k t StoreSkip word = tail_same t (word.elsewhere (Tail t) (λ e. cc))
  source_tails i a k t StoreAccepted word = tail_same t (word.elsewhere (Tail t) (λ e. cc))

  -- and pushes its event into its own queue
  pub source_events : (i t : ℕ) (p : Point) → Adds board (entry_of i p) x.model y.model → published (y.model.queue t) ≡ published (x.model.queue t) + pushed_at board t i p
  source_events i t points.Nothing model = let same = events_same t model in omega arith
  source_events i t points.Pushed model = elim (cases_eq (board.queue_of i) t) [
    | inl same ↦
        let pushed = eq-eqb (board.queue_of i) t same in
        let event = next_event i (board.readings i) (x.model.source i) in
        let is : y.model.queue t ≡ with_event (x.model.queue t) (next_event i (board.readings i) (x.model.source i)) =
        subst (λ (u : ℕ). y.model.queue u ≡ with_event (x.model.queue u) (next_event i (board.readings i) (x.model.source i))) same model.queue.here in
        let more = length-append (x.model.queue t).held (event ∷ []) in
        let all : published (y.model.queue t) ≡ published (with_event (x.model.queue t) (next_event i (board.readings i) (x.model.source i))) = ap published is in
        rw pushed (omega arith)
    | inr other ↦
        let pushed = ne_eqb (board.queue_of i) t other in
        let all : published (y.model.queue t) ≡ published (x.model.queue t) = ap published (model.queue.elsewhere t (λ e. other (sym e))) in
        rw pushed (omega arith)
  ]
  source_events i t points.Refused model = let same : published (y.model.queue t) ≡ published (x.model.queue t) = ap (λ (f : ℕ → Queue). published (f t)) model.queue in omega arith
  source_events i t points.Skipped model = let same : published (y.model.queue t) ≡ published (x.model.queue t) = ap (λ (f : ℕ → Queue). published (f t)) model.queue in omega arith

  -- each step raises the tails
  pub step_tails : Step board x y → (t : ℕ) → tail_rises t
  step_tails (steps.Source i lt s) t = source_tails i (x.row i).accepted (x.row i).next t (x.row i).stage s.word
  step_tails (steps.Commit u legal word model row) t = tail_same t (word (Tail t) tt)
  step_tails (steps.Acknowledge u i count f word model row) t = tail_same t (word.elsewhere (Tail t) (λ e. cc))
  step_tails (steps.Empties u i count f acked word model row) t = tail_same t (word.elsewhere (Tail t) (λ e. cc))
  step_tails (steps.Apart word model rows) t = tail_same t (word (Tail t) tt)

  -- only a source's step pushes, and that one leads to another row
  pub step_events : Step board x y → y.row ≡ x.row → (t : ℕ) → published (y.model.queue t) ≡ published (x.model.queue t)
  step_events (steps.Source i lt s) same t = absurd (row_moves (port_of board i) (length (board.readings i)) (x.row i).accepted (x.row i).next (x.row i).stage (x.word (place_of (access_at board i (x.row i).accepted (x.row i).next (x.row i).stage)))
      (ap (λ (r : Row). r.stage) (sym s.row.here ∙ ap (λ rows. rows i) same)))
  step_events (steps.Commit u legal word model row) same t = elim (cases_eq t u) [
    | inl is ↦ subst (λ v. published (y.model.queue v) ≡ published (x.model.queue v)) (sym is) (ap published model.queue.here)
    | inr other ↦ ap published (model.queue.elsewhere t other)
  ]
  step_events (steps.Acknowledge u i count f word model row) same t = events_same t model
  step_events (steps.Empties u i count f acked word model row) same t = elim (cases_eq t u) [
    | inl is ↦ subst (λ v. published (y.model.queue v) ≡ published (x.model.queue v)) (sym is)
        (let some = finishing_some f in let fewer = length-drop 1 (x.model.queue u).held in ap published model.queue.here ∙ (let left : published (without_first (x.model.queue u)) ≡ published (x.model.queue u) = omega arith in left))
    | inr other ↦ ap published (model.queue.elsewhere t other)
  ]
  step_events (steps.Apart word model rows) same t = events_same t model

  module _ (i : ℕ) (h : Kept board x) (made settled others : ℕ) where
    -- source i is so far before its access, and so far after it
    abbrev Before : Stage → Type 0
    Before stage = IsPaced (places_for board i) made settled others (x.word (Tail (board.queue_of i))) (published (x.model.queue (board.queue_of i))) stage

    abbrev After : (more : ℕ) → Stage → Type 0
    After more stage = IsPaced (places_for board i) (made + 1) (settled + more) others (y.word (Tail (board.queue_of i))) (published (y.model.queue (board.queue_of i))) stage

    abbrev KnowsNow : (a k : ℕ) → Stage → Type 0
    KnowsNow a k stage = KnowsAt i (places_for board i) (length (board.readings i)) (near board x i) a k stage

    -- an access that adds no entry of the source's own
    next_row : (now next : Stage) → published (y.model.queue (board.queue_of i)) ≤ published (x.model.queue (board.queue_of i)) → spent (places_for board i) now + 1 ≤ spent (places_for board i) next →
        reach (x.word (Tail (board.queue_of i))) now ≤ reach (y.word (Tail (board.queue_of i))) next → Before now → After 0 next
    next_row now next few more further p = record { helped = p.helped; accesses = omega (arith, p.accesses); tails = omega (arith, p.tails) }

    -- an access that loads
    loaded : (now next : Stage) → y.word ≡ x.word → y.model ≡ x.model → spent (places_for board i) now + 1 ≤ spent (places_for board i) next →
        reach (x.word (Tail (board.queue_of i))) now ≤ reach (x.word (Tail (board.queue_of i))) next → Before now → After 0 next
    loaded now next word model more further p =
        let events = events_same (board.queue_of i) model in
        next_row now next (omega arith) more
        (subst (λ (w : Memory). reach (x.word (Tail (board.queue_of i))) now ≤ reach (w (Tail (board.queue_of i))) next) (sym word) further) p

    -- an access that settles a reading
    settles : (now next : Stage) (more : ℕ) → published (y.model.queue (board.queue_of i)) ≤ published (x.model.queue (board.queue_of i)) + more → spent (places_for board i) now + 1 ≤ spent (places_for board i) next + 5 →
        reach (x.word (Tail (board.queue_of i))) now + more ≤ reach (y.word (Tail (board.queue_of i))) next → Before now → After 1 next
    settles now next more few dear further p = record { helped = p.helped; accesses = omega (arith, p.accesses); tails = omega (arith, p.tails) }

    -- the tail is at a position with an event, or behind it
    tail_behind : (p : ℕ) → p < published (x.model.queue (board.queue_of i)) → p ≤ x.word (Tail (board.queue_of i))
    tail_behind p lt = let near = (h.queues (board.queue_of i)).tail_near in omega (arith, near)

    slot_pace : (a k p : ℕ) (o : Option Slot) → p ≤ x.word (Tail (board.queue_of i)) → y.word ≡ x.word → published (y.model.queue (board.queue_of i)) ≤ published (x.model.queue (board.queue_of i)) →
        Before (LoadSlot p) → After 0 (after_slot (places_for board i) p o)
    slot_pace a k p o low word few b = by_slot o
      where
        tail : x.word (Tail (board.queue_of i)) ≡ y.word (Tail (board.queue_of i))
        tail = ap (λ w. w (Tail (board.queue_of i))) (sym word)

        by_slot : (o : Option Slot) → After 0 (after_slot (places_for board i) p o)
        by_slot None = next_row (LoadSlot p) (HelpTail p) few (omega arith) (omega arith) b
        by_slot (Some (Empty q)) = by_test (q == p)
          where
            by_test : (t : Bool) → After 0 (cond t (Publish p) (HelpTail p))
            by_test true = next_row (LoadSlot p) (Publish p) few (omega arith) (omega arith) b
            by_test false = next_row (LoadSlot p) (HelpTail p) few (omega arith) (omega arith) b
        by_slot (Some (Full q j c v)) = by_test (q + places_for board i == p)
          where
            by_test : (t : Bool) → After 0 (cond t StoreSkip (HelpTail p))
            by_test true = next_row (LoadSlot p) StoreSkip few (omega arith) (omega (arith, tail)) b
            by_test false = next_row (LoadSlot p) (HelpTail p) few (omega arith) (omega arith) b

    looked_pace : (a k p : ℕ) (full : Bool) (o : Option Slot) → p ≤ x.word (Tail (board.queue_of i)) → y.word ≡ x.word → Adds board (entry_of i (cond full points.Refused points.Nothing)) x.model y.model → Before (LoadSlot p) →
        After (settled_at (cond full points.Refused points.Nothing)) (after_slot (places_for board i) p o)
    looked_pace a k p true o low word model b = slot_pace a k p o low word (let e = source_events i (board.queue_of i) points.Refused model in omega arith) b
    looked_pace a k p false o low word model b = slot_pace a k p o low word (let e = source_events i (board.queue_of i) points.Nothing model in omega arith) b

    pushed_one : pushed_at board (board.queue_of i) i points.Pushed ≤ 1
    pushed_one = by_test (board.queue_of i == board.queue_of i)
      where
        by_test : (b : Bool) → cond b 1 0 ≤ 1
        by_test true = omega arith
        by_test false = omega arith

    published_pace : (a k p : ℕ) (won : Bool) → MatchBool won (Becomes (slot_place board i p) (event_word p (event_of board i a k)) x.word y.word) (y.word ≡ x.word) →
        Adds board (entry_of i (cond won points.Pushed points.Nothing)) x.model y.model → Before (Publish p) → After (settled_at (cond won points.Pushed points.Nothing)) (cond won (MoveTail p) (HelpTail p))
    published_pace a k p true word model b =
        settles (Publish p) (MoveTail p) 1 (let e = source_events i (board.queue_of i) points.Pushed model in let one = pushed_one in omega arith) (omega arith) (omega arith) b
    published_pace a k p false word model b = loaded (Publish p) (HelpTail p) word model (omega arith) (omega arith) b

    pub source_pace : (a k : ℕ) (stage : Stage) → KnowsNow a k stage → Makes (access_at board i a k stage) x.word y.word →
        Adds board (entry_of i (point_of (places_for board i) stage (x.word (place_of (access_at board i a k stage))))) x.model y.model → Before stage →
        After (settled_at (point_of (places_for board i) stage (x.word (place_of (access_at board i a k stage)))))
        (take_at (port_of board i) (length (board.readings i)) a k stage (x.word (place_of (access_at board i a k stage)))).stage
    source_pace a k LoadSrc knows word model p = loaded LoadSrc (LoadSlots 0 false) word model (omega arith) (omega arith) p
    source_pace a k (LoadSlots n seen) knows word model p = by_test (nat_lt (n + 1) (places_for board i)) (seen || shows_own (port_of board i).source a (slot_in (x.word (places.Slot (board.queue_of i) n))))
      where
        by_test : (b now : Bool) → After 0 (cond b (LoadSlots (n + 1) now) (LoadAck now))
        by_test true now = loaded (LoadSlots n seen) (LoadSlots (n + 1) now) word model (omega arith) (omega arith) p
        by_test false now = loaded (LoadSlots n seen) (LoadAck now) word model (let lt = knows.1 in omega arith) (omega arith) p
    source_pace a k (LoadAck seen) knows word model p = by_test (nat_lt k (length (board.readings i)) && (seen || x.word (places.Ack i) == (a + 1) % 64))
      where
        by_test : (b : Bool) → After 0 (cond b StoreAccepted LoadTail)
        by_test true = loaded (LoadAck seen) StoreAccepted word model (omega arith) (omega arith) p
        by_test false = loaded (LoadAck seen) LoadTail word model (omega arith) (omega arith) p
    source_pace a k LoadTail knows word model p = loaded LoadTail (LoadSlot (x.word (Tail (board.queue_of i)))) word model (omega arith) (omega arith) p
    source_pace a k (LoadSlot q) knows word model p = looked_pace a k q (is_full_at (places_for board i) q (slot_in (x.word (slot_place board i q)))) (slot_in (x.word (slot_place board i q))) knows.2 word model p
    source_pace a k (Publish q) knows word model p = published_pace a k q (x.word (slot_place board i q) == empty_word q) word model p
    source_pace a k (MoveTail q) knows word model p =
        let past = exchange_past (board.queue_of i) q (tail_behind q knows.1) word in
        next_row (MoveTail q) StoreAccepted (let e = events_same (board.queue_of i) model in omega arith) (omega arith) (omega arith) p
    source_pace a k (HelpTail q) knows word model p =
        let past = exchange_past (board.queue_of i) q (tail_behind q knows.2) word in
        let events = events_same (board.queue_of i) model in
        record { helped = p.helped + 1; accesses = omega (arith, p.accesses); tails = omega (arith, p.tails) }
    source_pace a k StoreSkip knows word model p =
        let tail = word.elsewhere (Tail (board.queue_of i)) (λ e. cc) in
        settles StoreSkip LoadTail 0 (let e = source_events i (board.queue_of i) points.Skipped model in omega arith) (omega arith) (omega arith) p
    source_pace a k StoreAccepted knows word model p =
        let tail = word.elsewhere (Tail (board.queue_of i)) (λ e. cc) in
        next_row StoreAccepted LoadTail (let e = events_same (board.queue_of i) model in omega arith) (omega arith) (omega arith) p
