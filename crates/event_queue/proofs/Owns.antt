-- What a source has published is what its queue's entries have of it, in order.
use Rattle.event_queue.proofs.Common.{◌≡◌, inl, inr, ℕ, zero, suc, ◌%◌, ◌≤◌, cond, Bool, List, [], ◌∷◌, ◌++◌, length, take, append-nil, refl, sym, ap, ◌∙◌, subst, arith, eq-eqb, ne_eqb, cases_eq, some, some-ne-none, some-injective, get_elem?, Entry, Won, Knows, won, won_below, SourceKept, own_at, own_among}
use Rattle.event_queue.proofs.Basics.{below, element, same_element}
use Rattle.event_queue.proofs.Acks.{Rises, won_below-none, won_below-all, won_below-at, won_below-here, won_below-skip}

take_all : {A : Type 0} (xs : List A) → take (length xs) xs ≡ xs
take_all [] = refl
take_all (x ∷ xs) = ap (λ (ys : List _). x ∷ ys) (take_all xs)

take_more : {A : Type 0} (xs : List A) (k : ℕ) (x : A) → get_elem? xs k ≡ some x → take (suc k) xs ≡ take k xs ++ x ∷ []
take_more [] k x at = absurd (some-ne-none x (sym at))
take_more (y ∷ xs) zero x at = ap (λ z. z ∷ []) (some-injective y x at)
take_more (y ∷ xs) (suc k) x at = ap (λ (ys : List _). y ∷ ys) (take_more xs k x at)

module _ {i tail : ℕ} {entries : List Entry} {released : ℕ} {k : Knows} (h : SourceKept i tail entries released k) where
  rising : Rises k.mine
  rising j n a b lt at_a at_b = (h.rises j n a b lt at_a at_b).0

  own_up_to : (n : ℕ) → n ≤ length entries → own_among i entries n ≡ take (won_below n k.mine) k.mine
  own_up_to zero le = sym (ap (λ (m : ℕ). take m k.mine) (won_below-none 0 k.mine (λ j m at. omega arith)))
  own_up_to (suc n) le =
      let got = element entries n (omega arith) in
      let e : Entry = got.0 in
      let before = own_up_to n (omega arith) in
      elim (cases_eq e.source i) [
        | inl own ↦
            let mine = h.own n e got.1 own in
            let w : Won = won n e.reading e.value in
            let here : own_at i n (get_elem? entries n) ≡ w ∷ [] = ap (own_at i n) got.1 ∙ ap (λ (b : Bool). cond b (w ∷ []) []) (eq-eqb e.source i own) in
            let less : won_below n k.mine ≡ mine.number = won_below-here k.mine mine.number w rising mine.at in
            let more : won_below (suc n) k.mine ≡ suc mine.number = won_below-at k.mine mine.number w rising mine.at in
            (λ j. before j ++ here j) ∙ ap (λ (m : ℕ). take m k.mine ++ w ∷ []) less ∙ sym (take_more k.mine mine.number w mine.at) ∙ sym (ap (λ (m : ℕ). take m k.mine) more)
        | inr other ↦
            let here : own_at i n (get_elem? entries n) ≡ [] = ap (own_at i n) got.1 ∙ ap (λ (b : Bool). cond b (won n e.reading e.value ∷ []) []) (ne_eqb e.source i other) in
            let same : won_below (suc n) k.mine ≡ won_below n k.mine = won_below-skip n k.mine (λ j m at p. other (ap (λ (x : Entry). x.source) (same_element entries n e _ got.1 (subst (λ (q : ℕ). get_elem? entries q ≡ some (record { source = i; count = j % 64; reading = m.reading; value = m.value })) p (h.back j m at))))) in
            (λ j. before j ++ here j) ∙ append-nil (take (won_below n k.mine) k.mine) ∙ sym (ap (λ (m : ℕ). take m k.mine) same)
      ]

  pub own_all : k.mine ≡ own_among i entries (length entries)
  own_all =
      let all : won_below (length entries) k.mine ≡ length k.mine = won_below-all (length entries) k.mine (λ j m at. below entries m.position _ (h.back j m at)) in
      sym (own_up_to (length entries) (omega arith) ∙ ap (λ (m : ℕ). take m k.mine) all ∙ take_all k.mine)
