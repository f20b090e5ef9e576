-- Sums of the first so many numbers, and the greatest of them.
use Rattle.std.proofs.Common.{◌≡◌, ◌⊎◌, inl, inr, ℕ, zero, suc, ◌+◌, ◌*◌, ◌%◌, ◌<◌, ◌≤◌, max, List, [], ◌∷◌, length, get_or, refl, sym, ap, ◌∙◌, subst, arith, sum_by, mod-eq_of_lt}
use Rattle.std.proofs.Math.Nat.{add-mod_right}
use Rattle.std.proofs.lemmas.Bool.{cases_lt}
use Rattle.std.proofs.lemmas.List.Sums.{sum_by-cons}
use Rattle.cut_sweep.specs.kept.Told.{sum_to, max_to}

-- with one number more
pub sum_more : (f : ℕ → ℕ) (n : ℕ) → sum_to f (n + 1) ≡ sum_to f n + f n
sum_more f n = let s : suc n ≡ n + 1 = omega arith in subst (λ k. sum_to f k ≡ sum_to f n + f n) s refl

pub max_more : (f : ℕ → ℕ) (n : ℕ) → max_to f (n + 1) ≡ max (max_to f n) (f n)
max_more f n = let s : suc n ≡ n + 1 = omega arith in subst (λ k. max_to f k ≡ max (max_to f n) (f n)) s refl

pub sum_same : (f g : ℕ → ℕ) (n : ℕ) → ((k : ℕ) → k < n → f k ≡ g k) → sum_to f n ≡ sum_to g n
sum_same f g zero same = refl
sum_same f g (suc n) same =
    let before = sum_same f g n (λ k lt. same k (omega arith)) in
    let here = same n (omega arith) in omega arith

pub sum_add : (f g : ℕ → ℕ) (n : ℕ) → sum_to (λ k. f k + g k) n ≡ sum_to f n + sum_to g n
sum_add f g zero = refl
sum_add f g (suc n) = let before = sum_add f g n in omega arith

-- the first so many are ones, and those behind them are nothing
pub sum_split : (h : ℕ → ℕ) (n k : ℕ) → k ≤ n → ((j : ℕ) → j < k → h j ≡ 1) → ((j : ℕ) → k ≤ j → j < n → h j ≡ 0) → sum_to h n ≡ k
sum_split h zero k le one none = omega arith
sum_split h (suc n) k le one none =
    elim (cases_lt n k) [
      | inl lt ↦
          let before = sum_split h n n (omega arith) (λ j less. one j (omega arith)) (λ j above less. absurd (omega arith)) in
          let here = one n lt in omega arith
      | inr past ↦
          let before = sum_split h n k past one (λ j above less. none j above (omega arith)) in
          let here = none n past (omega arith) in omega arith
    ]

sum_shift : (h : ℕ → ℕ) (n : ℕ) → sum_to (λ j. h (suc j)) n + h 0 ≡ sum_to h n + h n
sum_shift h zero = refl
sum_shift h (suc n) = let before = sum_shift h n in omega arith

-- all places of a ring, from any position on
pub turned : (g : ℕ → ℕ) (n p : ℕ) → 0 < n → sum_to (λ j. g ((p + j) % n)) n ≡ sum_to g n
turned g n zero some =
    sum_same (λ j. g ((0 + j) % n)) g n
    (λ k lt. let s : 0 + k ≡ k = omega arith in ap (λ z. g (z % n)) s ∙ ap g (mod-eq_of_lt lt))
turned g n (suc p) some =
    let h : ℕ → ℕ = λ j. g ((p + j) % n) in
    let shift = sum_shift h n in
    let z : p + 0 ≡ p = omega arith in
    let round : h n ≡ h 0 = ap g (add-mod_right p n) ∙ sym (ap (λ k. g (k % n)) z) in
    let step : sum_to (λ j. g ((suc p + j) % n)) n ≡ sum_to (λ j. h (suc j)) n =
    sum_same (λ j. g ((suc p + j) % n)) (λ j. h (suc j)) n (λ k lt. let s : suc p + k ≡ p + suc k = omega arith in ap (λ k. g (k % n)) s) in
    let rest : sum_to h n ≡ sum_to g n = turned g n p some in
    omega (arith, step, shift, round, rest)

-- over a list by its places
pub sum_list : {X : Type 0} (f : X → ℕ) (xs : List X) (d : X) → sum_by f xs ≡ sum_to (λ k. f (get_or xs k d)) (length xs)
sum_list f [] d = refl
sum_list f (x ∷ xs) d =
    let h : ℕ → ℕ = λ k. f (get_or (x ∷ xs) k d) in
    let shift : sum_to (λ k. f (get_or xs k d)) (length xs) + f x ≡ sum_to h (length xs) + h (length xs) = sum_shift h (length xs) in
    let rest = sum_list f xs d in
    let first = sum_by-cons f x xs in
    omega (arith, shift, rest, first)

pub max_reached : (f : ℕ → ℕ) (n k : ℕ) → k < n → f k ≤ max_to f n
max_reached f zero k lt = absurd (omega arith)
max_reached f (suc n) k lt =
    elim (cases_lt k n) [
      | inl before ↦ let le = max_reached f n k before in omega arith
      | inr here ↦ let same : n ≡ k = omega arith in subst (λ j. f j ≤ max (max_to f n) (f n)) same (omega arith)
    ]

pub max_least : (f : ℕ → ℕ) (n most : ℕ) → ((k : ℕ) → k < n → f k ≤ most) → max_to f n ≤ most
max_least f zero most all = omega arith
max_least f (suc n) most all =
    let before = max_least f n most (λ k lt. all k (omega arith)) in
    let here = all n (omega arith) in omega arith

-- a number that none passes and that one of them has, or none at all
pub max_is : (f : ℕ → ℕ) (n c : ℕ) → ((k : ℕ) → k < n → f k ≤ c) → (c ≡ 0) ⊎ ((k : ℕ) × (k < n) × (f k ≡ c)) → max_to f n ≡ c
max_is f n c all (inl none) = let most = max_least f n c all in omega arith
max_is f n c all (inr one) =
    let most = max_least f n c all in
    let least = max_reached f n one.0 one.1 in
    let is = one.2 in omega arith

-- where none is more than this
pub sum_most : (f : ℕ → ℕ) (n most : ℕ) → ((k : ℕ) → k < n → f k ≤ most) → sum_to f n ≤ n * most
sum_most f zero most all = omega arith
sum_most f (suc n) most all =
    let before = sum_most f n most (λ k lt. all k (omega arith)) in
    let here = all n (omega arith) in omega arith
