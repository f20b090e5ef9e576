-- What the word of a slot tells a source.
use Rattle.irq_source.proofs.Common.{◌≡◌, ◌≢◌, inl, inr, ℕ, ◌+◌, ◌%◌, ◌^◌, ◌<◌, ◌≤◌, ◌==◌, ◌&&◌, max, cond, Bool, true, false, List, [], ◌∷◌, length, refl, sym, ap, ◌∙◌, arith, eqb-true, eq-eqb, ne_eqb, cases_eq, Some, some, get_elem?, SourceId, empty_word, slot_in, slot_in-empty, slot_in-full, same_empty, full_not_empty, shows_own, after_slot, is_full_at, Call, LoadTail, LoadSlot, LoadAck, Publish, HelpTail, View, ShowsSlot, Won, mine_of, tail_of, published_of, released_by_of, published_by, released_by, Entry, source_id, calls_of, places_of, queue_of, out_of, gone_of, known, MineKept}
use Rattle.push_core.specs.declared.slot.Slot.TheVariants as slots
use Rattle.push_core.specs.declared.stage.Stage.TheVariants as stages
use Rattle.event_queue.specs.declared.view.Call.TheVariants as calls
use Rattle.irq_source.proofs.Basics.{same_slot, next_slot, and_left, and_right}
use Rattle.irq_source.proofs.Boots.{seen_behind}

-- the positions below a tail that the calls showed are published
pub tail_published : (places : ℕ) (calls : List Call) → tail_of calls ≤ published_of places calls
tail_published places [] = omega arith
tail_published places (LoadTail w ∷ calls) = let h = tail_published places calls in omega arith
tail_published places (LoadSlot n w ∷ calls) = let h = tail_published places calls in omega arith
tail_published places (Publish p k x w ∷ calls) = let h = tail_published places calls in omega arith
tail_published places (HelpTail p w ∷ calls) = let h = tail_published places calls in omega arith
tail_published places (calls.Look t p w ∷ calls) = tail_published places calls
tail_published places (calls.Release t p ∷ calls) = tail_published places calls
tail_published places (LoadAck w ∷ calls) = tail_published places calls
tail_published places (calls.StoreAck t p ∷ calls) = tail_published places calls
tail_published places (calls.LoadClock w ∷ calls) = tail_published places calls
tail_published places (calls.AddClock by ∷ calls) = tail_published places calls

-- the positions of a turn before it are released
tail_released : (places : ℕ) (calls : List Call) → tail_of calls ≤ released_by_of places calls + places
tail_released places [] = omega arith
tail_released places (LoadTail w ∷ calls) = let h = tail_released places calls in omega arith
tail_released places (LoadSlot n w ∷ calls) = let h = tail_released places calls in omega arith
tail_released places (Publish p k x w ∷ calls) = let h = tail_released places calls in omega arith
tail_released places (HelpTail p w ∷ calls) = let h = tail_released places calls in omega arith
tail_released places (calls.Look t p w ∷ calls) = tail_released places calls
tail_released places (calls.Release t p ∷ calls) = tail_released places calls
tail_released places (LoadAck w ∷ calls) = tail_released places calls
tail_released places (calls.StoreAck t p ∷ calls) = tail_released places calls
tail_released places (calls.LoadClock w ∷ calls) = tail_released places calls
tail_released places (calls.AddClock by ∷ calls) = tail_released places calls

-- the word of the slot of a position p: it holds the event of the turn before, is free for p, or shows that p is published
pub data SlotTells (places gone p w : ℕ) : Type 0 where
  Older : after_slot places p (slot_in w) ≡ stages.StoreSkip → gone + places ≤ p → SlotTells places gone p w
  Free : after_slot places p (slot_in w) ≡ stages.Publish p → is_full_at places p (slot_in w) ≡ false → p < released_by places (slot_in w) + places → SlotTells places gone p w
  Past : after_slot places p (slot_in w) ≡ stages.HelpTail p → is_full_at places p (slot_in w) ≡ false → p < published_by places (slot_in w) → SlotTells places gone p w

pub slot_tells : (v : View) (i places p w : ℕ) → places_of v.lay (queue_of v.lay i) ≡ places → 0 < places → p ≤ tail_of (calls_of v) → p ≤ 1048560 → ShowsSlot v i (p % places) w → SlotTells places (gone_of v i) p w
slot_tells v i places p w ring pos seen small shows = by_shown shows
  where
    by_shown : ShowsSlot v i (p % places) w → SlotTells places (gone_of v i) p w
    by_shown (inl y) =
        let q : ℕ = y.0 in
        let e : Entry = y.1 in
        let s = y.2 in
        let is : slot_in w ≡ Some (slots.Full q (source_id e.source) e.count e.value) = ap slot_in s.word ∙ slot_in-full q e s.fits in
        let same : p % places ≡ q % places = sym s.slot ∙ ap (λ (n : ℕ). q % n) ring in
        let back = tail_released (places_of v.lay (queue_of v.lay i)) (calls_of v) in
        let near : p ≤ q + places = omega (arith, s.recent, ring) in
        elim (cases_eq (q + places) p) [
          | inl older ↦ Older (ap (after_slot places p) is ∙ ap (λ (b : Bool). cond b stages.StoreSkip (stages.HelpTail p)) (eq-eqb _ _ older)) (omega (arith, s.recent))
          | inr other ↦
              let le = same_slot places p q same near (λ h. other (sym h)) in
              Past (ap (after_slot places p) is ∙ ap (λ (b : Bool). cond b stages.StoreSkip (stages.HelpTail p)) (ne_eqb _ _ other)) (ap (is_full_at places p) is ∙ ne_eqb _ _ other) (omega (arith, ap (published_by places) is))
        ]
    by_shown (inr y) =
        let f : ℕ = y.0 in
        let s = y.1 in
        let fits : f < 2 ^ 21 = omega (arith, s.range) in
        let is : slot_in w ≡ Some (slots.Empty f) = ap slot_in s.word ∙ slot_in-empty f fits in
        let same : p % places ≡ f % places = sym s.slot ∙ ap (λ (n : ℕ). f % n) ring in
        let out = tail_published (places_of v.lay (queue_of v.lay i)) (calls_of v) in
        elim (cases_eq f p) [
          | inl here ↦ Free (ap (after_slot places p) is ∙ ap (λ (b : Bool). cond b (stages.Publish p) (stages.HelpTail p)) (eq-eqb _ _ here)) (ap (is_full_at places p) is) (omega (arith, ap (released_by places) is))
          | inr other ↦
              let far = next_slot places p f same (omega (arith, s.unpublished)) (λ h. other (sym h)) in
              Past (ap (after_slot places p) is ∙ ap (λ (b : Bool). cond b (stages.Publish p) (stages.HelpTail p)) (ne_eqb _ _ other)) (ap (is_full_at places p) is) (omega (arith, ap (published_by places) is))
        ]

-- the same, once the slot has been seen free for p: the event of the turn before isn't there
pub slot_past : (v : View) (i places p w : ℕ) → places_of v.lay (queue_of v.lay i) ≡ places → 0 < places → p ≤ tail_of (calls_of v) → p ≤ 1048560 → p < gone_of v i + places → ShowsSlot v i (p % places) w → w ≢ empty_word p
    → p < published_by places (slot_in w)
slot_past v i places p w ring pos seen small near shows other = by_shown shows
  where
    by_shown : ShowsSlot v i (p % places) w → p < published_by places (slot_in w)
    by_shown (inl y) =
        let q : ℕ = y.0 in
        let e : Entry = y.1 in
        let s = y.2 in
        let is : slot_in w ≡ Some (slots.Full q (source_id e.source) e.count e.value) = ap slot_in s.word ∙ slot_in-full q e s.fits in
        let same : p % places ≡ q % places = sym s.slot ∙ ap (λ (n : ℕ). q % n) ring in
        let le = same_slot places p q same (omega (arith, s.recent)) (λ h. absurd (omega (arith, s.recent))) in
        omega (arith, ap (published_by places) is)
    by_shown (inr y) =
        let f : ℕ = y.0 in
        let s = y.1 in
        let fits : f < 2 ^ 21 = omega (arith, s.range) in
        let is : slot_in w ≡ Some (slots.Empty f) = ap slot_in s.word ∙ slot_in-empty f fits in
        let same : p % places ≡ f % places = sym s.slot ∙ ap (λ (n : ℕ). f % n) ring in
        let out = tail_published (places_of v.lay (queue_of v.lay i)) (calls_of v) in
        let far = next_slot places p f same (omega (arith, s.unpublished)) (λ h. other (s.word ∙ ap empty_word (sym h))) in
        omega (arith, ap (published_by places) is)

-- what the load of a slot in the boot finds out of the publication m that SRC may lack
pub boot_slot : (v : View) (i places n w a : ℕ) (source : SourceId) (m : Won) → source.0 ≡ i → places_of v.lay (queue_of v.lay i) ≡ places → get_elem? (mine_of (calls_of v)) a ≡ some m → m.position % places ≡ n → m.position < gone_of v i + places
    → ShowsSlot v i n w → shows_own source a (slot_in w) ≡ false → m.position < max (released_by places (slot_in w)) (gone_of v i)
boot_slot v i places n w a source m mine_of_it ring at here near shows not_own = by_shown shows
  where
    by_shown : ShowsSlot v i n w → m.position < max (released_by places (slot_in w)) (gone_of v i)
    by_shown (inl y) =
        let q : ℕ = y.0 in
        let e : Entry = y.1 in
        let s = y.2 in
        let is : slot_in w ≡ Some (slots.Full q (source_id e.source) e.count e.value) = ap slot_in s.word ∙ slot_in-full q e s.fits in
        let same : m.position % places ≡ q % places = here ∙ sym s.slot ∙ ap (λ (k : ℕ). q % k) ring in
        let le = same_slot places m.position q same (omega (arith, s.recent)) (λ h. absurd (omega (arith, s.recent))) in
        elim (cases_eq m.position q) [
          | inl hit ↦
              let own = y.3.mine_is a m at hit in
              let yes : shows_own source a (slot_in w) ≡ true = ap (shows_own source a) is ∙ (λ j. eq-eqb e.source source.0 (own.0 ∙ sym mine_of_it) j && eq-eqb e.count (a % 64) own.1 j) in
              absurd (let no : true ≡ false = sym yes ∙ not_own in cc)
          | inr other ↦ let far = next_slot places m.position q same le other in omega (arith, ap (released_by places) is)
        ]
    by_shown (inr y) =
        let f : ℕ = y.0 in
        let s = y.1 in
        let fits : f < 2 ^ 21 = omega (arith, s.range) in
        let is : slot_in w ≡ Some (slots.Empty f) = ap slot_in s.word ∙ slot_in-empty f fits in
        let same : m.position % places ≡ f % places = here ∙ sym s.slot ∙ ap (λ (k : ℕ). f % k) ring in
        let lt = y.2 a m at in
        let far = next_slot places m.position f same (omega arith) (λ h. absurd (omega arith)) in
        omega (arith, ap (released_by places) is)

-- an own event with the count of SRC's number is the publication that SRC lacks
pub own_behind : (v : View) (i places n w a number : ℕ) (source : SourceId) → source.0 ≡ i → places ≤ 32 → MineKept places (known v i) → a ≤ length (mine_of (calls_of v)) → length (mine_of (calls_of v)) ≤ a + 1
    → ShowsSlot v i n w → shows_own source a (slot_in w) ≡ true → length (mine_of (calls_of v)) ≡ a + 1
own_behind v i places n w a number source own few kept least most shows is_own = by_shown shows
  where
    by_shown : ShowsSlot v i n w → length (mine_of (calls_of v)) ≡ a + 1
    by_shown (inl y) =
        let q : ℕ = y.0 in
        let e : Entry = y.1 in
        let s = y.2 in
        let is : slot_in w ≡ Some (slots.Full q (source_id e.source) e.count e.value) = ap slot_in s.word ∙ slot_in-full q e s.fits in
        let test : (e.source == source.0 && e.count == a % 64) ≡ true = sym (ap (shows_own source a) is) ∙ is_own in
        let from : e.source ≡ i = eqb-true _ _ (and_left (e.source == source.0) (e.count == a % 64) test) ∙ own in
        let count : e.count ≡ a % 64 = eqb-true _ _ (and_right (e.source == source.0) (e.count == a % 64) test) in
        let m = y.3.own from in
        seen_behind places a (gone_of v i) (mine_of (calls_of v)) m.number q e.count _ few kept.rises kept.recent least most m.at refl s.recent m.count count
    by_shown (inr y) =
        let f : ℕ = y.0 in
        let s = y.1 in
        let fits : f < 2 ^ 21 = omega (arith, s.range) in
        let is : slot_in w ≡ Some (slots.Empty f) = ap slot_in s.word ∙ slot_in-empty f fits in
        absurd (let no : false ≡ true = sym (ap (shows_own source a) is) ∙ is_own in cc)

-- a slot that is free for p: what was published stands before it
pub free_shows : (v : View) (i n p : ℕ) → p < 2 ^ 21 → ShowsSlot v i n (empty_word p) → (j : ℕ) (m : Won) → get_elem? (mine_of (calls_of v)) j ≡ some m → m.position < p
free_shows v i n p small (inl y) j m at = absurd (full_not_empty y.0 p y.1 small (sym y.2.word))
free_shows v i n p small (inr y) j m at = let same = same_empty p y.0 y.1.word in omega (arith, y.2 j m at)

-- and no position from there on is known to be published
pub free_out : (v : View) (i n p : ℕ) → p < 2 ^ 21 → ShowsSlot v i n (empty_word p) → out_of v i ≤ p
free_out v i n p small (inl y) = absurd (full_not_empty y.0 p y.1 small (sym y.2.word))
free_out v i n p small (inr y) = let same = same_empty p y.0 y.1.word in omega (arith, y.1.unpublished)
