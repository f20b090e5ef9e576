-- A stable sort by stamps leaves the outputs of each thread as they stand in its log.
use Rattle.image_state.proofs.Common.{◌≡◌, ◌≢◌, inl, inr, ℕ, suc, ◌<◌, ◌≤◌, ◌==◌, Bool, true, false, cond, List, [], ◌∷◌, length, get_or, refl, sym, ap, ◌∙◌, arith, le-ltb, lt-ltb, filter, cases_lt, cases_Bool, Output, IsNonDecreasingBy, IsPermutation, AreInOrder}
use Rattle.std.specs.List.Sorted.{IsStableByKey, ties}
use Rattle.std.specs.Ordering.{is_lt, nat_cmp}
use Rattle.std.proofs.lemmas.List.Kept.{IsNonDecreasingBy-filter}

-- what a comparison of numbers tells
pub is_less : (a b : ℕ) → a < b → is_lt (nat_cmp a b) ≡ true
is_less a b less = rw (lt-ltb a b less) refl

pub not_less : (a b : ℕ) → b ≤ a → is_lt (nat_cmp a b) ≡ false
not_less a b le = rw (le-ltb a b le) (elim (cases_Bool (a == b)) [ inl same ↦ rw same refl | inr other ↦ rw other refl ])

-- an output comes before another by its stamp
abbrev less_stamp : Output → Output → Bool
less_stamp x y = is_lt (nat_cmp x.stamp y.stamp)

-- outputs tie where their stamps are the same
stamps_tie : (x y : Output) → x.stamp ≡ y.stamp → ties less_stamp x y ≡ true
stamps_tie x y same =
    let before : less_stamp x y ≡ false = not_less x.stamp y.stamp (omega (arith, same)) in
    let behind : less_stamp y x ≡ false = not_less y.stamp x.stamp (omega (arith, same)) in
    rw (before, behind) refl

stamps_apart : (x y : Output) → x.stamp ≢ y.stamp → ties less_stamp x y ≡ false
stamps_apart x y other =
    elim (cases_lt x.stamp y.stamp) [
      | inl less ↦ let before : less_stamp x y ≡ true = is_less x.stamp y.stamp less in rw before refl
      | inr ge ↦
          let before : less_stamp x y ≡ false = not_less x.stamp y.stamp ge in
          let behind : less_stamp y x ≡ true = is_less y.stamp x.stamp (omega (arith, ge, other)) in
          rw (before, behind) refl
    ]

-- two tests keep the same in either order
pub filter-swap : {X : Type 0} (p q : X → Bool) (xs : List X) → filter p (filter q xs) ≡ filter q (filter p xs)
filter-swap p q [] = refl
filter-swap p q (x ∷ xs) =
    elim (cases_Bool (p x)) [
      | inl holds ↦ elim (cases_Bool (q x)) [
        | inl also ↦ rw (also, holds, also) (ap (λ l. x ∷ l) (filter-swap p q xs))
        | inr not ↦ rw (not, holds, not) (filter-swap p q xs)
      ]
      | inr fails ↦ elim (cases_Bool (q x)) [
        | inl also ↦ rw (also, fails) (filter-swap p q xs)
        | inr not ↦ rw (not, fails) (filter-swap p q xs)
      ]
    ]

module _ {X : Type 0} (n : X → ℕ) (p : X → X → Bool) (tie : (x y : X) → n x ≡ n y → p x y ≡ true) (apart : (x y : X) → n x ≢ n y → p x y ≡ false) where
  rest_rises : (x : X) (xs : List X) → IsNonDecreasingBy n (x ∷ xs) → IsNonDecreasingBy n xs
  rest_rises x xs up i j d le lt = up (suc i) (suc j) d (omega arith) (omega arith)

  -- nothing ties with what is less than all of a list
  none_ties : (x : X) (ys : List X) → ((k : ℕ) (d : X) → k < length ys → n x < n (get_or ys k d)) → filter (p x) ys ≡ []
  none_ties x [] less = refl
  none_ties x (y ∷ ys) less =
      let apart_here : p x y ≡ false = apart x y (λ e. let lt = less 0 y (omega arith) in omega (arith, e, lt)) in
      rw apart_here (none_ties x ys (λ k d lt. less (suc k) d (omega arith)))

  -- a first element that is less than all of the other list has no like there
  no_less : (x y : X) (xs ys : List X) → IsNonDecreasingBy n (y ∷ ys) → n x < n y → filter (p x) (x ∷ xs) ≡ filter (p x) (y ∷ ys) → ⊥
  no_less x y xs ys up less same =
      let here : p x x ≡ true = tie x x refl in
      let none : filter (p x) (y ∷ ys) ≡ [] = none_ties x (y ∷ ys) (λ k d lt. let le = up 0 k d (omega arith) lt in omega (arith, le)) in
      let one : filter (p x) (x ∷ xs) ≡ x ∷ filter (p x) xs = ap (λ (b : Bool). cond b (x ∷ filter (p x) xs) (filter (p x) xs)) here in
      let clash : x ∷ filter (p x) xs ≡ [] = sym one ∙ (same ∙ none) in cc

  -- what stands behind two first elements that are the same has the same likes
  rest_same : (x y z : X) (xs ys : List X) → x ≡ y → filter (p z) (x ∷ xs) ≡ filter (p z) (y ∷ ys) → filter (p z) xs ≡ filter (p z) ys
  rest_same x y z xs ys is same = drop_one (p z x) (p z y) (ap (p z) is) same
    where
      drop_one : (b c : Bool) → b ≡ c → cond b (x ∷ filter (p z) xs) (filter (p z) xs) ≡ cond c (y ∷ filter (p z) ys) (filter (p z) ys) → filter (p z) xs ≡ filter (p z) ys
      drop_one true true e same = cc
      drop_one false false e same = same
      drop_one true false e same = absurd (cc)
      drop_one false true e same = absurd (cc)

  -- lists that don't fall, with the same likes of every element in the same order, are the same
  pub same_likes : (xs ys : List X) → IsNonDecreasingBy n xs → IsNonDecreasingBy n ys → ((x : X) → filter (p x) xs ≡ filter (p x) ys) → xs ≡ ys
  same_likes [] [] up rise same = refl
  same_likes [] (y ∷ ys) up rise same =
      let one : filter (p y) (y ∷ ys) ≡ y ∷ filter (p y) ys = ap (λ (b : Bool). cond b (y ∷ filter (p y) ys) (filter (p y) ys)) (tie y y refl) in
      absurd (let clash : [] ≡ y ∷ filter (p y) ys = same y ∙ one in cc)
  same_likes (x ∷ xs) [] up rise same =
      let one : filter (p x) (x ∷ xs) ≡ x ∷ filter (p x) xs = ap (λ (b : Bool). cond b (x ∷ filter (p x) xs) (filter (p x) xs)) (tie x x refl) in
      absurd (let clash : x ∷ filter (p x) xs ≡ [] = sym one ∙ same x in cc)
  same_likes (x ∷ xs) (y ∷ ys) up rise same =
      elim (cases_lt (n x) (n y)) [
        | inl less ↦ absurd (no_less x y xs ys rise less (same x))
        | inr ge ↦ elim (cases_lt (n y) (n x)) [
          | inl less ↦ absurd (no_less y x ys xs up less (sym (same y)))
          | inr le ↦
              let level : n x ≡ n y = omega (arith, ge, le) in
              let mine : filter (p x) (x ∷ xs) ≡ x ∷ filter (p x) xs = ap (λ (b : Bool). cond b (x ∷ filter (p x) xs) (filter (p x) xs)) (tie x x refl) in
              let its : filter (p x) (y ∷ ys) ≡ y ∷ filter (p x) ys = ap (λ (b : Bool). cond b (y ∷ filter (p x) ys) (filter (p x) ys)) (tie x y level) in
              let both : x ∷ filter (p x) xs ≡ y ∷ filter (p x) ys = sym mine ∙ (same x ∙ its) in
              let is : x ≡ y = cc in
              let rest : xs ≡ ys = same_likes xs ys (rest_rises x xs up) (rest_rises y ys rise) (λ z. rest_same x y z xs ys is (same z)) in
              cc
        ]
      ]

  -- a part of a list by another test is left by a stable sort as it was, where it didn't fall before
  pub part_kept : (q : X → Bool) (xs ys : List X) → IsNonDecreasingBy n ys → ((x : X) → filter (p x) ys ≡ filter (p x) xs) →
      IsNonDecreasingBy n (filter q xs) → filter q ys ≡ filter q xs
  part_kept q xs ys rise same up =
      same_likes (filter q ys) (filter q xs) (IsNonDecreasingBy-filter n q ys rise) up
      (λ x. filter-swap (p x) q ys ∙ (ap (filter q) (same x) ∙ filter-swap q (p x) xs))

-- a stable sort by stamps puts outputs in order
pub sorted_stably : (logged outputs : List Output) → IsPermutation logged outputs → IsNonDecreasingBy (λ (o : Output). o.stamp) outputs →
    IsStableByKey (λ (o : Output). o.stamp) nat_cmp logged outputs → AreInOrder logged outputs
sorted_stably logged outputs same rises stable = record {
  same = same;
  ordered = rises;
  kept = λ t up. part_kept (λ (o : Output). o.stamp) (ties less_stamp) stamps_tie stamps_apart (λ (o : Output). o.thread.0 == t) logged outputs rises stable up;
}
