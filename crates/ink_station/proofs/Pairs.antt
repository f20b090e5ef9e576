-- Two lists, item by item.
use Rattle.std.proofs.Common.{◌≡◌, ℕ, suc, ◌<◌, List, [], ◌∷◌, ◌++◌, length, get_or, refl, sym, ap, subst, arith}
use Rattle.std.specs.List.{AllZip}

-- one more of each
pub one_more : {A B : Type 0} (R : A → B → Type 0) (xs : List A) (ys : List B) (x : A) (y : B) → AllZip R xs ys → R x y → AllZip R (xs ++ x ∷ []) (ys ++ y ∷ [])
one_more R [] [] x y h r = (r, tt)
one_more R [] (y0 ∷ ys) x y h r = absurd h
one_more R (x0 ∷ xs) [] x y h r = absurd h
one_more R (x0 ∷ xs) (y0 ∷ ys) x y h r = (h.0, one_more R xs ys x y h.1 r)

-- the same where the second list is known by an equation
pub grown : {A B : Type 0} (R : A → B → Type 0) (xs : List A) (ys zs : List B) (x : A) (y : B) → zs ≡ ys ++ y ∷ [] → AllZip R xs ys → R x y → AllZip R (xs ++ x ∷ []) zs
grown R xs ys zs x y is h r = subst (λ l. AllZip R (xs ++ x ∷ []) l) (sym is) (one_more R xs ys x y h r)

-- from what holds at each place
pub all_places : {A : Type 0} (R : A → A → Type 0) (xs ys : List A) → length xs ≡ length ys → ((i : ℕ) (d : A) → i < length xs → R (get_or xs i d) (get_or ys i d)) → AllZip R xs ys
all_places R [] [] same h = tt
all_places R [] (y ∷ ys) same h = absurd (omega (arith, same))
all_places R (x ∷ xs) [] same h = absurd (omega (arith, same))
all_places R (x ∷ xs) (y ∷ ys) same h = (h 0 x (omega arith), all_places R xs ys (omega (arith, same)) (λ i d lt. h (suc i) d (omega (arith, lt))))

-- from pairs to pairs, by what stands between
pub through : {A B C : Type 0} (R : A → B → Type 0) (S : B → C → Type 0) (T : A → C → Type 0) (xs : List A) (ys : List B) (zs : List C)
    → ((x : A) (y : B) (z : C) → R x y → S y z → T x z) → AllZip R xs ys → AllZip S ys zs → AllZip T xs zs
through R S T [] [] [] h p q = tt
through R S T [] [] (z ∷ zs) h p q = absurd q
through R S T [] (y ∷ ys) zs h p q = absurd p
through R S T (x ∷ xs) [] zs h p q = absurd p
through R S T (x ∷ xs) (y ∷ ys) [] h p q = absurd q
through R S T (x ∷ xs) (y ∷ ys) (z ∷ zs) h p q = (h x y z p.0 q.0, through R S T xs ys zs h p.1 q.1)

pub as_long : {A B : Type 0} (R : A → B → Type 0) (xs : List A) (ys : List B) → AllZip R xs ys → length xs ≡ length ys
as_long R [] [] h = refl
as_long R [] (y ∷ ys) h = absurd h
as_long R (x ∷ xs) [] h = absurd h
as_long R (x ∷ xs) (y ∷ ys) h = ap suc (as_long R xs ys h.1)
