-- Outputs in the order of their stamps, each stamp being of one thread, are told by those of each thread.
use Rattle.going_on.proofs.Common.{◌≡◌, ℕ, suc, ◌<◌, ◌≤◌, ◌==◌, cond, Bool, true, false, List, [], ◌∷◌, length, drop, refl, sym, ap, ◌∙◌, subst, arith, eq-eqb, get_or, All}
use Rattle.std.specs.List.Sorted.{IsNonDecreasingBy}
use Rattle.ink_base.specs.declared.output.Output.{Output}
use Rattle.never_cut.specs.Outputs.{outputs_in}

-- an output of a thread
is_of : ℕ → Output → Bool
is_of t o = o.thread.0 == t

-- each output's stamp is of its thread alone
abbrev pub AreOwn : List Output → Type 0
AreOwn outputs = All (λ (o : Output). All (λ (x : Output). x.stamp ≡ o.stamp → x.thread.0 ≡ o.thread.0) outputs) outputs

-- the outputs rise by their stamps
abbrev pub Rise : List Output → Type 0
Rise outputs = IsNonDecreasingBy (λ (o : Output). o.stamp) outputs

own_first : (o : Output) (xs : List Output) → outputs_in o.thread.0 (o ∷ xs) ≡ o ∷ outputs_in o.thread.0 xs
own_first o xs = ap (λ (b : Bool). cond b (o ∷ outputs_in o.thread.0 xs) (outputs_in o.thread.0 xs)) (eq-eqb o.thread.0 o.thread.0 refl)

not_nil : (o : Output) (xs : List Output) → [] ≡ o ∷ xs → ⊥
not_nil o xs is = cc

first_is : (x y : Output) (xs ys : List Output) → x ∷ xs ≡ y ∷ ys → x ≡ y
first_is x y xs ys is = ap (λ (l : List Output). get_or l 0 x) is

-- the first of a thread's outputs is among all
found : (t : ℕ) (xs : List Output) (o : Output) (rest : List Output) → outputs_in t xs ≡ o ∷ rest → (j : ℕ) × (j < length xs) × ((d : Output) → get_or xs j d ≡ o)
found t [] o rest is = absurd (not_nil o rest is)
found t (x ∷ xs) o rest is = by_thread (x.thread.0 == t) is (found t xs o rest)
  where
    by_thread : (b : Bool) → cond b (x ∷ outputs_in t xs) (outputs_in t xs) ≡ o ∷ rest →
        (outputs_in t xs ≡ o ∷ rest → (j : ℕ) × (j < length xs) × ((d : Output) → get_or xs j d ≡ o)) →
        (j : ℕ) × (j < length (x ∷ xs)) × ((d : Output) → get_or (x ∷ xs) j d ≡ o)
    by_thread true is later = (0, omega arith, λ d. first_is x o (outputs_in t xs) rest is)
    by_thread false is later = let at = later is in (suc at.0, (let lt = at.1 in omega arith), at.2)

-- without the first ones they are told as well
rest_is : (x : Output) (xs ys : List Output) (t : ℕ) → outputs_in t (x ∷ xs) ≡ outputs_in t (x ∷ ys) → outputs_in t xs ≡ outputs_in t ys
rest_is x xs ys t is = by_thread (x.thread.0 == t) is
  where
    by_thread : (b : Bool) → cond b (x ∷ outputs_in t xs) (outputs_in t xs) ≡ cond b (x ∷ outputs_in t ys) (outputs_in t ys) → outputs_in t xs ≡ outputs_in t ys
    by_thread true is = ap (λ (l : List Output). drop 1 l) is
    by_thread false is = is

rise_rest : (x : Output) (xs : List Output) → Rise (x ∷ xs) → Rise xs
rise_rest x xs rise i j d le lt = rise (suc i) (suc j) d (omega arith) (omega arith)

own_rest : (x : Output) (xs : List Output) → AreOwn (x ∷ xs) → AreOwn xs
own_rest x xs own i d lt j e less = own (suc i) d (omega arith) (suc j) e (omega arith)

module _ (x y : Output) (xs ys : List Output) (rise : Rise (x ∷ xs)) (rises : Rise (y ∷ ys)) (own : AreOwn (y ∷ ys))
    (same : (t : ℕ) → outputs_in t (x ∷ xs) ≡ outputs_in t (y ∷ ys)) where
  -- each first output is among the others
  there : (j : ℕ) × (j < length (y ∷ ys)) × ((d : Output) → get_or (y ∷ ys) j d ≡ x)
  there = found x.thread.0 (y ∷ ys) x (outputs_in x.thread.0 xs) (sym (same x.thread.0) ∙ own_first x xs)

  here : (j : ℕ) × (j < length (x ∷ xs)) × ((d : Output) → get_or (x ∷ xs) j d ≡ y)
  here = found y.thread.0 (x ∷ xs) y (outputs_in y.thread.0 ys) (same y.thread.0 ∙ own_first y ys)

  -- so their stamps are the same, and with these their threads
  same_stamp : y.stamp ≡ x.stamp
  same_stamp =
      let less : x.stamp ≤ (get_or (x ∷ xs) here.0 x).stamp = rise 0 here.0 x (omega arith) here.1 in
      let more : y.stamp ≤ (get_or (y ∷ ys) there.0 x).stamp = rises 0 there.0 x (omega arith) there.1 in
      let one = ap (λ (o : Output). o.stamp) (here.2 x) in
      let two = ap (λ (o : Output). o.stamp) (there.2 x) in
      omega arith

  same_thread : y.thread.0 ≡ x.thread.0
  same_thread = subst (λ (o : Output). y.stamp ≡ o.stamp → y.thread.0 ≡ o.thread.0) (there.2 x) (own there.0 x there.1 0 x (omega arith)) same_stamp

  same_first : x ≡ y
  same_first =
      first_is x y (outputs_in x.thread.0 xs) (outputs_in y.thread.0 ys)
      (sym (own_first x xs) ∙ (same x.thread.0 ∙ (ap (λ t. outputs_in t (y ∷ ys)) (sym same_thread) ∙ own_first y ys)))

pub same_outputs : (xs ys : List Output) → Rise xs → Rise ys → AreOwn ys → ((t : ℕ) → outputs_in t xs ≡ outputs_in t ys) → xs ≡ ys
same_outputs [] [] rise rises own same = refl
same_outputs [] (y ∷ ys) rise rises own same = absurd (not_nil y (outputs_in y.thread.0 ys) (same y.thread.0 ∙ own_first y ys))
same_outputs (x ∷ xs) [] rise rises own same = absurd (not_nil x (outputs_in x.thread.0 xs) (sym (same x.thread.0) ∙ own_first x xs))
same_outputs (x ∷ xs) (y ∷ ys) rise rises own same =
    let first = same_first x y xs ys rise rises own same in
    let told = λ (t : ℕ). rest_is x xs ys t (same t ∙ ap (λ (o : Output). outputs_in t (o ∷ ys)) (sym first)) in
    λ k. first k ∷ same_outputs xs ys (rise_rest x xs rise) (rise_rest y ys rises) (own_rest y ys own) told k
