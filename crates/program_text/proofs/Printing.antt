-- What is printed of the parts of a program, one part more.
use Rattle.program_text.proofs.Common.{◌≡◌, ℕ, ◌+◌, ◌<◌, List, ◌∷◌, [], ◌++◌, length, take, get_or, sym, ap, subst, ◌∙◌, All, flat_map, add-one, take_more, flat_map_more, All-more, each_below, IsNamed}

pub each_below_more : (n : ℕ) (text : ℕ → List ℕ) → each_below (n + 1) text ≡ each_below n text ++ text n
each_below_more n text = ap (λ (m : ℕ). each_below m text) (add-one n)

-- the text of one more part
pub parts_more : {X : Type 0} (text : X → List ℕ) (xs : List X) (i : ℕ) (d x : X) (old before now : List ℕ) → i < length xs → x ≡ get_or xs i d → now ≡ before ++ text x → before ≡ old ++ flat_map text (take i xs)
    → now ≡ old ++ flat_map text (take (i + 1) xs)
parts_more text xs i d x old before now lt item more front =
    more ∙ ap (λ (so : List ℕ). so ++ text x) front ∙ flat_map_more text old (take i xs) x
    ∙ ap (λ (y : _). old ++ flat_map text (take i xs ++ y ∷ [])) item ∙ ap (λ (ys : _). old ++ flat_map text ys) (sym (take_more xs i d lt))

-- the name of one more part
pub named_more : {X : Type 0} (name : X → List ℕ) (xs : List X) (i : ℕ) (d x : X) → i < length xs → x ≡ get_or xs i d → IsNamed (name x) → All (λ y. IsNamed (name y)) (take i xs) → All (λ y. IsNamed (name y)) (take (i + 1) xs)
named_more name xs i d x lt item h all = All-more (λ y. IsNamed (name y)) xs i d lt all (subst (λ (y : _). IsNamed (name y)) item h)
