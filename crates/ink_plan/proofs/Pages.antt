-- Words of a block lie on no more pages than it has.
use Rattle.std.proofs.Common.{◌≡◌, ℕ, zero, suc, ◌+◌, ◌/◌, ◌<◌, ◌≤◌, Bool, true, false, ◌||◌, List, [], ◌∷◌, ◌++◌, refl, sym, ap, ◌∙◌, ◌≢◌, arith, eq-eqb, eqb-true}
use Rattle.std.specs.List.{list_any}
use Rattle.std.specs.Prelude.{◌==◌, if◌then◌else◌}
use Rattle.never_cut.specs.Cost.{pages_more}

-- each of the words lies on one of so many pages
abbrev pub LieWithin : ℕ → List ℕ → Type 0
LieWithin pages [] = Unit {0}
LieWithin pages (w ∷ words) = (w / 8 < pages) × LieWithin pages words

pub within_both : (pages : ℕ) (a b : List ℕ) → LieWithin pages a → LieWithin pages b → LieWithin pages (a ++ b)
within_both pages [] b first second = second
within_both pages (w ∷ a) b first second = (first.0, within_both pages a b first.1 second)

-- the page is among those
abbrev is_in : ℕ → List ℕ → Bool
is_in page written = list_any (λ (p : ℕ). p == page) written

abbrev missing : Bool → ℕ
missing here = if here then 0 else 1

-- how many of the first so many pages aren't among those
unwritten : List ℕ → ℕ → ℕ
unwritten written zero = 0
unwritten written (suc n) = missing (is_in n written) + unwritten written n

missing_less : (a b : Bool) → missing (a || b) ≤ missing b
missing_less true true = omega arith
missing_less true false = omega arith
missing_less false b = omega arith

fewer : (p : ℕ) (written : List ℕ) (n : ℕ) → unwritten (p ∷ written) n ≤ unwritten written n
unfolding unwritten
fewer p written zero = omega arith
fewer p written (suc n) = let one = missing_less (p == n) (is_in n written) in let rest = fewer p written n in omega arith

-- one page more among them
one_fewer : (p : ℕ) (written : List ℕ) (n : ℕ) → p < n → is_in p written ≡ false → unwritten (p ∷ written) n + 1 ≤ unwritten written n
unfolding unwritten
one_fewer p written zero lt new = absurd (omega arith)
one_fewer p written (suc n) lt new = by_same (p == n) refl (λ below. one_fewer p written n below new)
  where
    by_same : (b : Bool) → (p == n) ≡ b → (p < n → unwritten (p ∷ written) n + 1 ≤ unwritten written n) →
        missing (b || is_in n written) + unwritten (p ∷ written) n + 1 ≤ missing (is_in n written) + unwritten written n
    by_same true is rest =
        let same : p ≡ n = eqb-true p n is in
        let here : missing (is_in n written) ≡ 1 = ap missing (ap (λ k. is_in k written) (sym same) ∙ new) in
        let fewer = fewer p written n in
        omega arith
    by_same false is rest = let other : p ≢ n = (λ same. let yes : (p == n) ≡ true = eq-eqb p n same in cc) in let less = rest (omega arith) in omega arith

unwritten_most : (n : ℕ) → unwritten [] n ≤ n
unfolding unwritten
unwritten_most zero = omega arith
unwritten_most (suc n) = let rest = unwritten_most n in omega arith

more_most : (pages : ℕ) (written words : List ℕ) → LieWithin pages words → pages_more written words ≤ unwritten written pages
more_most pages written [] within = omega arith
more_most pages written (w ∷ words) within = by_in (is_in (w / 8) written) refl (more_most pages written words within.1) (more_most pages (w / 8 ∷ written) words within.1)
  where
    by_in : (b : Bool) → is_in (w / 8) written ≡ b → pages_more written words ≤ unwritten written pages → pages_more (w / 8 ∷ written) words ≤ unwritten (w / 8 ∷ written) pages →
        (if b then pages_more written words else 1 + pages_more (w / 8 ∷ written) words) ≤ unwritten written pages
    by_in true is same rest = same
    by_in false is same rest =
        let less = one_fewer (w / 8) written pages within.0 is in
        omega arith

pub pages_most : (pages : ℕ) (words : List ℕ) → LieWithin pages words → pages_more [] words ≤ pages
pages_most pages words within = let some = more_most pages [] words within in let all = unwritten_most pages in omega arith
