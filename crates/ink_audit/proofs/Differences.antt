-- Where texts differ that begin with the same bytes.
use Rattle.ink_audit.proofs.Common.{◌≡◌, ◌≢◌, ℕ, zero, suc, ◌+◌, ◌<◌, ◌≤◌, List, [], ◌∷◌, ◌++◌, length, get_or, take, drop, Some, refl, sym, ap, ◌∙◌, subst, arith, true, false, cond, eqb, drop_more, drop_all, length-take, take_more, take-append-drop, onto_first, full_lines, DifferBehind, is_feed, feeds}
use Rattle.std.specs.Prelude.{slice_get}

-- lists of lines that differ behind so many
record Apart (ls ms : List (List ℕ)) (n : ℕ) : Type 0 where
  same : take n ls ≡ take n ms
  next : slice_get ls n ≢ slice_get ms n

-- no line is empty if it ends with its line feed
abbrev BeginsFull : List (List ℕ) → Type 0
BeginsFull [] = Unit {0}
BeginsFull ([] ∷ ls) = ⊥
BeginsFull ((b ∷ l) ∷ ls) = Unit {0}

onto_full : (b : ℕ) (ls : List (List ℕ)) → BeginsFull (onto_first b ls)
onto_full b [] = tt
onto_full b (l ∷ ls) = tt

begins_full : (text : List ℕ) → BeginsFull (full_lines text)
begins_full [] = tt
begins_full (b ∷ bytes) = elim (eqb b 10) as (λ e. BeginsFull (cond e ((b ∷ []) ∷ full_lines bytes) (onto_first b (full_lines bytes)))) [ true ↦ tt | false ↦ onto_full b (full_lines bytes) ]

-- a byte more in front of the first lines
onto_apart : (c n : ℕ) (ls ms : List (List ℕ)) → BeginsFull ls → BeginsFull ms → Apart ls ms n → Apart (onto_first c ls) (onto_first c ms) n
onto_apart c n [] [] full other apart = absurd (apart.next refl)
onto_apart c zero [] ([] ∷ ms) full other apart = absurd other
onto_apart c zero [] ((b ∷ m) ∷ ms) full other apart = record { same = refl; next = λ e. absurd (cc) }
onto_apart c zero ([] ∷ ls) [] full other apart = absurd full
onto_apart c zero ((b ∷ l) ∷ ls) [] full other apart = record { same = refl; next = λ e. absurd (cc) }
onto_apart c zero (l ∷ ls) (m ∷ ms) full other apart = record { same = refl; next = λ e. apart.next (cc) }
onto_apart c (suc n) [] (m ∷ ms) full other apart = absurd (let e = apart.same in cc)
onto_apart c (suc n) (l ∷ ls) [] full other apart = absurd (let e = apart.same in cc)
onto_apart c (suc n) (l ∷ ls) (m ∷ ms) full other apart = record { same = let e = apart.same in cc; next = apart.next }

-- a byte more in front of both texts
front_apart : (c n : ℕ) (a b : List ℕ) → Apart (full_lines a) (full_lines b) n → Apart (full_lines (c ∷ a)) (full_lines (c ∷ b)) (cond (is_feed c) 1 0 + n)
front_apart c n a b apart =
    elim (eqb c 10) as (λ e. Apart (cond e ((c ∷ []) ∷ full_lines a) (onto_first c (full_lines a))) (cond e ((c ∷ []) ∷ full_lines b) (onto_first c (full_lines b))) (cond e 1 0 + n)) [
      | true ↦ subst (λ (m : ℕ). Apart ((c ∷ []) ∷ full_lines a) ((c ∷ []) ∷ full_lines b) m) {x = suc n} (omega arith) (record { same = ap (λ ls. (c ∷ []) ∷ ls) apart.same; next = apart.next })
      | false ↦ subst (λ (m : ℕ). Apart (onto_first c (full_lines a)) (onto_first c (full_lines b)) m) {x = n} (omega arith) (onto_apart c n (full_lines a) (full_lines b) (begins_full a) (begins_full b) apart)
    ]

-- texts that differ at once
abbrev pub HeadsDiffer : List ℕ → List ℕ → Type 0
HeadsDiffer [] [] = ⊥
HeadsDiffer [] (y ∷ ys) = Unit {0}
HeadsDiffer (x ∷ xs) [] = Unit {0}
HeadsDiffer (x ∷ xs) (y ∷ ys) = x ≢ y

-- the first line begins with the first byte
record Begins (x : ℕ) (ls : List (List ℕ)) : Type 0 where
  rest : List ℕ
  is : slice_get ls 0 ≡ Some (x ∷ rest)

onto_begins : (x : ℕ) (ls : List (List ℕ)) → Begins x (onto_first x ls)
onto_begins x [] = record { rest = []; is = refl }
onto_begins x (l ∷ ls) = record { rest = l; is = refl }

begins : (x : ℕ) (xs : List ℕ) → Begins x (full_lines (x ∷ xs))
begins x xs = elim (eqb x 10) as (λ e. Begins x (cond e ((x ∷ []) ∷ full_lines xs) (onto_first x (full_lines xs)))) [ true ↦ record { rest = []; is = refl } | false ↦ onto_begins x (full_lines xs) ]

heads_apart : (a b : List ℕ) → HeadsDiffer a b → Apart (full_lines a) (full_lines b) 0
heads_apart [] [] differ = absurd differ
heads_apart [] (y ∷ ys) differ = record { same = refl; next = λ e. let first = (begins y ys).is in absurd (cc) }
heads_apart (x ∷ xs) [] differ = record { same = refl; next = λ e. let first = (begins x xs).is in absurd (cc) }
heads_apart (x ∷ xs) (y ∷ ys) differ = record { same = refl; next = λ e. let first = (begins x xs).is in let second = (begins y ys).is in differ (cc) }

fronts_apart : (front a b : List ℕ) → HeadsDiffer a b → Apart (full_lines (front ++ a)) (full_lines (front ++ b)) (feeds front)
fronts_apart [] a b differ = heads_apart a b differ
fronts_apart (c ∷ front) a b differ = front_apart c (feeds front) (front ++ a) (front ++ b) (fronts_apart front a b differ)

-- texts whose first so many bytes are the same, and not what follows
pub differ_behind : (a b : List ℕ) (i : ℕ) → take i a ≡ take i b → HeadsDiffer (drop i a) (drop i b) → DifferBehind a b (feeds (take i a))
differ_behind a b i same differ =
    let apart = fronts_apart (take i a) (drop i a) (drop i b) differ in
    let left : take i a ++ drop i a ≡ a = take-append-drop i a in
    let right : take i a ++ drop i b ≡ b = ap (λ (front : List ℕ). front ++ drop i b) same ∙ take-append-drop i b in
    subst (λ (z : List ℕ × List ℕ). DifferBehind z.0 z.1 (feeds (take i a))) (λ k. (left k, right k)) (record { same = apart.same; next = apart.next })

pub bytes_differ : (a b : List ℕ) (i x y : ℕ) → i < length a → i < length b → x ≡ get_or a i 0 → y ≡ get_or b i 0 → x ≢ y → HeadsDiffer (drop i a) (drop i b)
bytes_differ a b i x y left right is other ne = rw (drop_more a i 0 left, drop_more b i 0 right) (λ e. ne (cc))

pub lengths_differ : (a b : List ℕ) (i : ℕ) → i ≡ length a → i < length b → HeadsDiffer (drop i a) (drop i b)
lengths_differ a b i end more = rw (drop_all i a (omega arith), drop_more b i 0 more) tt

pub lengths_differ_too : (a b : List ℕ) (i : ℕ) → i < length a → i ≡ length b → HeadsDiffer (drop i a) (drop i b)
lengths_differ_too a b i more end = rw (drop_more a i 0 more, drop_all i b (omega arith)) tt

-- one byte more that is the same
feeds_push : (front : List ℕ) (b : ℕ) → feeds (front ++ b ∷ []) ≡ feeds front + cond (is_feed b) 1 0
feeds_push [] b = omega arith
feeds_push (c ∷ front) b = omega (arith, feeds_push front b)

pub feeds_more : (a : List ℕ) (i : ℕ) → i < length a → feeds (take (i + 1) a) ≡ feeds (take i a) + cond (is_feed (get_or a i 0)) 1 0
feeds_more a i lt = ap feeds (take_more a i 0 lt) ∙ feeds_push (take i a) (get_or a i 0)

feeds_few : (text : List ℕ) → feeds text ≤ length text
feeds_few [] = omega arith
feeds_few (b ∷ bytes) = let few = feeds_few bytes in elim (eqb b 10) as (λ e. cond e 1 0 + feeds bytes ≤ suc (length bytes)) [ true ↦ omega arith | false ↦ omega arith ]

pub feeds_front : (a : List ℕ) (i : ℕ) → feeds (take i a) ≤ i
feeds_front a i = omega (arith, feeds_few (take i a), length-take i a)

-- the turn of a loop over both texts at once
pub same_more : (a b : List ℕ) (i n x : ℕ) → n ≡ i + 1 → i < length a → i < length b → x ≡ get_or a i 0 → x ≡ get_or b i 0 → take i a ≡ take i b → take n a ≡ take n b
same_more a b i n x next left right is other same =
    ap (λ (k : ℕ). take k a) next ∙ take_more a i 0 left ∙ (λ k. same k ++ (sym is ∙ other) k ∷ []) ∙ sym (take_more b i 0 right) ∙ ap (λ (k : ℕ). take k b) (sym next)

pub counted_more : (a : List ℕ) (i n x line : ℕ) → n ≡ i + 1 → i < length a → x ≡ get_or a i 0 → line ≡ feeds (take i a) + 1 → line + cond (is_feed x) 1 0 ≡ feeds (take n a) + 1
counted_more a i n x line next lt is counted =
    let step = ap (λ (k : ℕ). feeds (take k a)) next ∙ feeds_more a i lt in
    let same = ap {B = ℕ} (λ (y : ℕ). cond (is_feed y) 1 0) is in
    omega (arith, step, same, counted)
