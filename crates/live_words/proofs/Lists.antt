-- Elements of lists.
use Rattle.std.proofs.Common.{◌≡◌, ℕ, zero, suc, List, [], ◌∷◌, map, drop, sym, ap, Option}
use Rattle.std.specs.Option.{ForSome}
use mathlib.Core.Option.{some, some-ne-none, some-injective}
use lib.ListN.{get_elem?}

-- an element of a list that is mapped
pub at_map : {A B : Type 0} (f : A → B) (xs : List A) (p : ℕ) (a : A) → get_elem? xs p ≡ some a → get_elem? (map f xs) p ≡ some (f a)
at_map f [] p a is = absurd (some-ne-none a (sym is))
at_map f (x ∷ xs) zero a is = ap (λ z. some (f z)) (some-injective x a is)
at_map f (x ∷ xs) (suc p) a is = at_map f xs p a is

-- what is left from an element on begins with it
pub drop_at : {A : Type 0} (xs : List A) (p : ℕ) (a : A) → get_elem? xs p ≡ some a → drop p xs ≡ a ∷ drop (suc p) xs
drop_at [] p a is = absurd (some-ne-none a (sym is))
drop_at (x ∷ xs) zero a is = ap (λ z. z ∷ xs) (some-injective x a is)
drop_at (x ∷ xs) (suc p) a is = drop_at xs p a is

-- what holds of a value, if there is one, gives another fact
pub for_some : {A : Type 0} (P Q : A → Type 0) (o : Option A) → ((a : A) → P a → Q a) → ForSome o P → ForSome o Q
for_some P Q o f h a is = f a (h a is)
