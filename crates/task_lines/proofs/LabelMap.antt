-- The map of the labels of a task, and the list of them in the order of their lines.
use Rattle.task_lines.proofs.Common.{◌≡◌, ℕ, suc, ◌<◌, ◌≤◌, Bool, true, false, cond, ltb, List, [], ◌∷◌, ◌++◌, length, map, Option, Some, None, refl, sym, ap, ◌∙◌, inl, inr, arith, lt-ltb, ltb-true, length-append, nat_cmp, is_eq, match_ordering, option_map, option_or, slice_cmp, insert_entry, cases_Bool, map-append, Word, offset_of, with_label, Label, seen, put, by_place, listed, ArePlaced, AreKept}
use Rattle.std.specs.declared.cmp.Ordering.{Ordering}
use Rattle.std.specs.declared.cmp.Ordering.TheVariants.{Less, Equal, Greater}
use Rattle.std.specs.Str.{bytes_eq}
use Rattle.std.specs.Map.{lookup}
use Rattle.std.proofs.lemmas.Map.Text.{is_eq-slice_cmp}
use Rattle.std.proofs.lemmas.Slice.Eq.{bytes_eq-Decides}

pub lookup_seen : {K X : Type 0} (bytes : K → List ℕ) (w : List ℕ) (es : List (K × X)) → lookup (λ k. is_eq (slice_cmp nat_cmp w (bytes k))) es ≡ lookup (bytes_eq w) (seen bytes es)
lookup_seen bytes w [] = refl
lookup_seen bytes w (e ∷ es) = rw (is_eq-slice_cmp w (bytes e.0), lookup_seen bytes w es) refl

pub insert_seen : {K X : Type 0} (bytes : K → List ℕ) (es : List (K × X)) (k : K) (v : X) → seen bytes (insert_entry (λ x y. slice_cmp nat_cmp (bytes x) (bytes y)) es k v) ≡ insert_entry (slice_cmp nat_cmp) (seen bytes es) (bytes k) v
insert_seen bytes [] k v = refl
insert_seen bytes (e ∷ es) k v =
    elim (slice_cmp nat_cmp (bytes k) (bytes e.0)) as (λ o. seen bytes (match_ordering o ((k, v) ∷ e ∷ es) ((e.0, v) ∷ es) (e ∷ insert_entry (λ x y. slice_cmp nat_cmp (bytes x) (bytes y)) es k v))
    ≡ match_ordering o ((bytes k, v) ∷ seen bytes (e ∷ es)) ((bytes e.0, v) ∷ seen bytes es) ((bytes e.0, e.1) ∷ insert_entry (slice_cmp nat_cmp) (seen bytes es) (bytes k) v)) [
      | Less ↦ refl
      | Equal ↦ refl
      | Greater ↦ ap (λ l. (bytes e.0, e.1) ∷ l) (insert_seen bytes es k v)
    ]

pub option_or_none : {X : Type 0} (o : Option X) → option_or o None ≡ o
option_or_none None = refl
option_or_none (Some x) = refl

-- what is found where one more entry stands behind the others
pub lookup_last : {X : Type 0} (es : List (Word × X)) (k q : Word) (v : X) → lookup (bytes_eq q) (es ++ (k, v) ∷ []) ≡ option_or (lookup (bytes_eq q) es) (cond (bytes_eq q k) (Some v) None)
lookup_last [] k q v = refl
lookup_last (e ∷ es) k q v = elim (cases_Bool (bytes_eq q e.0)) [
  | inl found ↦ rw found refl
  | inr other ↦ rw other (lookup_last es k q v)
]

-- labels in the order of their places
length-put : (e : Word × Label) (es : List (Word × Label)) → length (put e es) ≡ suc (length es)
length-put e [] = refl
length-put e (f ∷ es) = elim (cases_Bool (ltb e.1.place f.1.place)) [
  | inl before ↦ rw before refl
  | inr behind ↦ rw behind (ap (λ (n : ℕ). suc n) (length-put e es))
]

length-by_place : (es : List (Word × Label)) → length (by_place es) ≡ length es
length-by_place [] = refl
length-by_place (e ∷ es) = length-put e (by_place es) ∙ ap (λ (n : ℕ). suc n) (length-by_place es)

put_placed : (n : ℕ) (e : Word × Label) (es : List (Word × Label)) → e.1.place < n → ArePlaced n es → ArePlaced n (put e es)
put_placed n e [] lt are = (lt, tt)
put_placed n e (f ∷ es) lt are = elim (cases_Bool (ltb e.1.place f.1.place)) [
  | inl before ↦ rw before (lt, are)
  | inr behind ↦ rw behind (are.0, put_placed n e es lt are.1)
]

sorted_placed : (n : ℕ) (es : List (Word × Label)) → ArePlaced n es → ArePlaced n (by_place es)
sorted_placed n [] are = tt
sorted_placed n (e ∷ es) are = put_placed n e (by_place es) are.0 (sorted_placed n es are.1)

-- the label of the greatest place comes last
put_last : (e : Word × Label) (es : List (Word × Label)) → ArePlaced e.1.place es → put e es ≡ es ++ e ∷ []
put_last e [] are = refl
put_last e (f ∷ es) are = elim (cases_Bool (ltb e.1.place f.1.place)) [
  | inl before ↦ absurd (omega (arith, ltb-true e.1.place f.1.place before, are.0))
  | inr behind ↦ rw behind (ap (λ (l : List (Word × Label)). f ∷ l) (put_last e es are.1))
]

put_before : (e m : Word × Label) (es : List (Word × Label)) → e.1.place < m.1.place → put e (es ++ m ∷ []) ≡ put e es ++ m ∷ []
put_before e m [] lt = rw (lt-ltb e.1.place m.1.place lt) refl
put_before e m (f ∷ es) lt = elim (cases_Bool (ltb e.1.place f.1.place)) [
  | inl before ↦ rw before refl
  | inr behind ↦ rw behind (ap (λ (l : List (Word × Label)). f ∷ l) (put_before e m es lt))
]

-- no entry has the key
free_parts : {X : Type 0} (k : Word) (e : Word × X) (es : List (Word × X)) → lookup (bytes_eq k) (e ∷ es) ≡ None → (bytes_eq k e.0 ≡ false) × (lookup (bytes_eq k) es ≡ None)
free_parts k e es none = elim (cases_Bool (bytes_eq k e.0)) [
  | inl found ↦ let some = rw found at none in absurd (cc some)
  | inr other ↦ (other, rw other at none)
]

-- one more label, whose name none of them has
sorted_step : (e : Word × Label) (es more : List (Word × Label)) (k : Word) (v : Label) (o : Ordering) → is_eq o ≡ false → ArePlaced v.place (e ∷ es) → by_place more ≡ by_place es ++ (k, v) ∷ []
    → by_place (match_ordering o ((k, v) ∷ e ∷ es) ((e.0, v) ∷ es) (e ∷ more)) ≡ by_place (e ∷ es) ++ (k, v) ∷ []
sorted_step e es more k v Less ne are so = put_last (k, v) (by_place (e ∷ es)) (sorted_placed v.place (e ∷ es) are)
sorted_step e es more k v Equal ne are so = absurd (cc)
sorted_step e es more k v Greater ne are so = ap (put e) so ∙ put_before e (k, v) (by_place es) are.0

sorted_insert : (es : List (Word × Label)) (k : Word) (v : Label) → lookup (bytes_eq k) es ≡ None → ArePlaced v.place es → by_place (insert_entry (slice_cmp nat_cmp) es k v) ≡ by_place es ++ (k, v) ∷ []
sorted_insert [] k v none are = refl
sorted_insert (e ∷ es) k v none are =
    let p = free_parts k e es none in
    sorted_step e es (insert_entry (slice_cmp nat_cmp) es k v) k v (slice_cmp nat_cmp k e.0) (is_eq-slice_cmp k e.0 ∙ p.0) are (sorted_insert es k v p.1 are.1)

found_step : (e : Word × Label) (es more : List (Word × Label)) (k q : Word) (v : Label) (o : Ordering) → is_eq o ≡ false → bytes_eq k e.0 ≡ false → lookup (bytes_eq q) more ≡ cond (bytes_eq q k) (Some v) (lookup (bytes_eq q) es)
    → lookup (bytes_eq q) (match_ordering o ((k, v) ∷ e ∷ es) ((e.0, v) ∷ es) (e ∷ more)) ≡ cond (bytes_eq q k) (Some v) (lookup (bytes_eq q) (e ∷ es))
found_step e es more k q v Less ne apart so = refl
found_step e es more k q v Equal ne apart so = absurd (cc)
found_step e es more k q v Greater ne apart so = elim (cases_Bool (bytes_eq q k)) [
  | inl same ↦
      let key : q ≡ k = (bytes_eq-Decides q k).0 same in
      let other : bytes_eq q e.0 ≡ false = ap (λ (w : Word). bytes_eq w e.0) key ∙ apart in
      let found = rw same at so in
      rw (other, same) found
  | inr differs ↦
      let found = rw differs at so in
      rw (differs, found) refl
]

found_insert : (es : List (Word × Label)) (k q : Word) (v : Label) → lookup (bytes_eq k) es ≡ None → lookup (bytes_eq q) (insert_entry (slice_cmp nat_cmp) es k v) ≡ cond (bytes_eq q k) (Some v) (lookup (bytes_eq q) es)
found_insert [] k q v none = refl
found_insert (e ∷ es) k q v none =
    let p = free_parts k e es none in
    found_step e es (insert_entry (slice_cmp nat_cmp) es k v) k q v (slice_cmp nat_cmp k e.0) (is_eq-slice_cmp k e.0 ∙ p.0) p.0 (found_insert es k q v p.1)

placed_step : (n : ℕ) (e : Word × Label) (es more : List (Word × Label)) (k : Word) (v : Label) (o : Ordering) → v.place < n → ArePlaced n (e ∷ es) → ArePlaced n more
    → ArePlaced n (match_ordering o ((k, v) ∷ e ∷ es) ((e.0, v) ∷ es) (e ∷ more))
placed_step n e es more k v Less lt are so = (lt, are)
placed_step n e es more k v Equal lt are so = (lt, are.1)
placed_step n e es more k v Greater lt are so = (are.0, so)

placed_insert : (n : ℕ) (es : List (Word × Label)) (k : Word) (v : Label) → v.place < n → ArePlaced n es → ArePlaced n (insert_entry (slice_cmp nat_cmp) es k v)
placed_insert n [] k v lt are = (lt, tt)
placed_insert n (e ∷ es) k v lt are = placed_step n e es (insert_entry (slice_cmp nat_cmp) es k v) k v (slice_cmp nat_cmp k e.0) lt are (placed_insert n es k v lt are.1)

placed_more : (n m : ℕ) (es : List (Word × Label)) → n ≤ m → ArePlaced n es → ArePlaced m es
placed_more n m [] le are = tt
placed_more n m (e ∷ es) le are = (omega (arith, are.0), placed_more n m es le are.1)

-- no label of the list has a name that the map doesn't find
free_in_map : (es : List (Word × Label)) (k : Word) → AreKept es → offset_of (listed es) k ≡ None → lookup (bytes_eq k) es ≡ None
free_in_map es k kept none = unmapped (lookup (bytes_eq k) es) (sym (kept.agree k) ∙ none)
  where
    unmapped : (o : Option Label) → option_map (λ (l : Label). l.offset) o ≡ None → o ≡ None
    unmapped None h = refl
    unmapped (Some l) h = absurd (cc)

module _ (es : List (Word × Label)) (k : Word) (v : Label) (kept : AreKept es) (free : offset_of (listed es) k ≡ None) (last : v.place ≡ length es) where
  in_map : lookup (bytes_eq k) es ≡ None
  in_map = free_in_map es k kept free

  below : ArePlaced v.place es
  below = placed_more (length es) v.place es (omega (arith, last)) kept.placed

  sorted : by_place (insert_entry (slice_cmp nat_cmp) es k v) ≡ by_place es ++ (k, v) ∷ []
  sorted = sorted_insert es k v in_map below

  -- the list with one more label
  pub listed_insert : listed (insert_entry (slice_cmp nat_cmp) es k v) ≡ with_label (listed es) k v.offset
  listed_insert = ap (λ (l : List (Word × Label)). map (λ (e : Word × Label). (e.0, e.1.offset)) l) sorted ∙ map-append (λ (e : Word × Label). (e.0, e.1.offset)) (by_place es) ((k, v) ∷ [])

  one_more : length (insert_entry (slice_cmp nat_cmp) es k v) ≡ suc (length es)
  one_more =
      omega (arith, length-by_place (insert_entry (slice_cmp nat_cmp) es k v), ap (λ (l : List (Word × Label)). length l) sorted, length-append (by_place es) ((k, v) ∷ []), length-by_place es)

  agrees : (q : Word) → offset_of (listed (insert_entry (slice_cmp nat_cmp) es k v)) q ≡ option_map (λ (l : Label). l.offset) (lookup (bytes_eq q) (insert_entry (slice_cmp nat_cmp) es k v))
  agrees q =
      ap (λ (l : List (Word × ℕ)). offset_of l q) listed_insert ∙ lookup_last (listed es) k q v.offset
      ∙ elim (cases_Bool (bytes_eq q k)) [
        | inl same ↦
            let key : q ≡ k = (bytes_eq-Decides q k).0 same in
            let none : offset_of (listed es) q ≡ None = ap (offset_of (listed es)) key ∙ free in
            rw (none, found_insert es k q v in_map, same) refl
        | inr differs ↦ rw (found_insert es k q v in_map, differs, kept.agree q) (option_or_none (option_map (λ (l : Label). l.offset) (lookup (bytes_eq q) es)))
      ]

  pub kept_insert : AreKept (insert_entry (slice_cmp nat_cmp) es k v)
  kept_insert = record {
    placed = rw one_more (placed_insert (suc (length es)) es k v (omega (arith, last)) (placed_more (length es) (suc (length es)) es (omega arith) kept.placed));
    agree = agrees;
  }
