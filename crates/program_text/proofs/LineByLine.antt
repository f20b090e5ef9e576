-- Lines that are read one after the other.
use Rattle.program_text.proofs.Common.{◌≡◌, ℕ, suc, ◌+◌, ◌<◌, Bool, true, not, List, [], ◌∷◌, ◌++◌, length, take, get_or, Result, Ok, Err, refl, subst, sym, ap, ◌∙◌, append_assoc, add-zero, arith, append-nil, list_all, flat_map, AllByRecursion, and_parts, not-true, All-from_get_or, recursion_from_All, Word, Line, ◌>>=◌, ◌>>◌, at_line, is_header, lines_in, at_other, Draft, line_in}
use Rattle.ink_base.specs.declared.fault.Cause.{Cause}
use Rattle.program_text.proofs.Rendering.{with_numbers}

-- the draft behind lines that are numbered from n on
unfoldable pub read_all : Draft → ℕ → List (List Word) → Result Draft Cause
read_all d n [] = Ok d
read_all d n (ws ∷ lss) = line_in d n ws >>= (λ e. read_all e (n + 1) lss)

abbrev pub no_header : List Word → Bool
no_header ws = not (is_header ws)

regroup : {A B C : Type 0} (r : Result A Cause) (f : A → Result C Cause) (g : A → Result B Cause) (k : B → Result C Cause) → ((x : A) → f x ≡ (g x >>= k)) → (r >>= f) ≡ ((r >>= g) >>= k)
regroup (Ok x) f g k h = h x
regroup (Err e) f g k h = refl

both_parts : (d : Draft) (n : ℕ) (xs ys : List (List Word)) → read_all d n (xs ++ ys) ≡ (read_all d n xs >>= (λ e. read_all e (n + length xs) ys))
unfolding read_all
both_parts d n [] ys = ap (λ m. read_all d m ys) (sym (add-zero n))
both_parts d n (ws ∷ xs) ys =
    let count : n + 1 + length xs ≡ n + length (ws ∷ xs) = omega arith in
    regroup (line_in d n ws) (λ e. read_all e (n + 1) (xs ++ ys)) (λ e. read_all e (n + 1) xs) (λ e. read_all e (n + length (ws ∷ xs)) ys)
    (λ e. both_parts e (n + 1) xs ys ∙ ap (λ m. read_all e (n + 1) xs >>= (λ f. read_all f m ys)) count)

-- two parts, one behind the other
pub read_append : (d e : Draft) (n m : ℕ) (xs ys : List (List Word)) (r : Result Draft Cause) → read_all d n xs ≡ Ok e → m ≡ n + length xs → read_all e m ys ≡ r → read_all d n (xs ++ ys) ≡ r
read_append d e n m xs ys r first at second =
    both_parts d n xs ys ∙ ap (λ (x : Result Draft Cause). x >>= (λ f. read_all f (n + length xs) ys)) first ∙ ap (λ k. read_all e k ys) (sym at) ∙ second

pub read_one : (d : Draft) (n : ℕ) (ws : List Word) (e : Draft) → line_in d n ws ≡ Ok e → read_all d n (ws ∷ []) ≡ Ok e
unfolding read_all
read_one d n ws e h = ap (λ (x : Result Draft Cause). x >>= (λ f. Ok f)) h

pub read_more : (d : Draft) (n : ℕ) (ws : List Word) (lss : List (List Word)) (e : Draft) → line_in d n ws ≡ Ok e → read_all d n (ws ∷ lss) ≡ read_all e (n + 1) lss
unfolding read_all
read_more d n ws lss e h = ap (λ (x : Result Draft Cause). x >>= (λ f. read_all f (n + 1) lss)) h

-- a condition on each item behind those before it
abbrev pub AllBehind : {X : Type 0} → (List X → X → Type 0) → List X → List X → Type 0
AllBehind P before [] = Unit {0}
AllBehind P before (x ∷ xs) = P before x × AllBehind P (before ++ x ∷ []) xs

-- the lines of items, one item after the other
pub read_each : {X : Type 0} (draft : List X → Draft) (at : List X → ℕ) (lines : X → List (List Word)) (P : List X → X → Type 0)
    → ((before : List X) (x : X) → P before x → read_all (draft before) (at before) (lines x) ≡ Ok (draft (before ++ x ∷ [])))
    → ((before : List X) (x : X) → at (before ++ x ∷ []) ≡ at before + length (lines x))
    → (before xs : List X) → AllBehind P before xs → read_all (draft before) (at before) (flat_map lines xs) ≡ Ok (draft (before ++ xs))
unfolding read_all
read_each draft at lines P step further before [] all = ap (λ (x : _). Ok (draft x)) (sym (append-nil before))
read_each draft at lines P step further before (x ∷ xs) all =
    read_append (draft before) (draft (before ++ x ∷ [])) (at before) (at (before ++ x ∷ [])) (lines x) (flat_map lines xs) (Ok (draft (before ++ x ∷ xs))) (step before x all.0) (further before x)
    (read_each draft at lines P step further (before ++ x ∷ []) xs all.1 ∙ ap (λ (y : _). Ok (draft y)) (append_assoc before (x ∷ []) xs))

-- what a reading that succeeds is made of
pub ok_parts : {A B : Type 0} (r : Result A Cause) (k : A → Result B Cause) (y : B) → (r >>= k) ≡ Ok y → (x : A) × (r ≡ Ok x) × (k x ≡ Ok y)
ok_parts (Ok x) k y h = (x, refl, h)
ok_parts (Err e) k y h = absurd (cc)

-- the reading goes on behind lines that are read
pub read_behind : (d e : Draft) (n : ℕ) (lss : List (List Word)) (rest : List Line) → list_all no_header lss ≡ true → read_all d n lss ≡ Ok e
    → lines_in line_in d (with_numbers n lss ++ rest) ≡ lines_in line_in e rest
unfolding read_all
read_behind d e n [] rest h r = let same : d ≡ e = cc in ap (λ x. lines_in line_in x rest) same
read_behind d e n (ws ∷ lss) rest h r =
    let both = and_parts (no_header ws) (list_all no_header lss) h in
    let parts = ok_parts (line_in d n ws) (λ f. read_all f (n + 1) lss) e r in
    at_other line_in d (record { number = n; words = ws }) (with_numbers (n + 1) lss ++ rest) (not-true (is_header ws) both.0)
    ∙ ap (λ (x : Result Draft Cause). at_line n x >> (λ next. lines_in line_in next (with_numbers (n + 1) lss ++ rest))) parts.1
    ∙ read_behind parts.0 e (n + 1) lss rest both.1 parts.2

behind_from : {X : Type 0} (P : List X → X → Type 0) (before xs : List X) (d : X) → ((i : ℕ) → i < length xs → P (before ++ take i xs) (get_or xs i d)) → AllBehind P before xs
behind_from P before [] d h = tt
behind_from P before (x ∷ xs) d h = (
  subst (λ (b : _). P b x) (append-nil before) (h 0 (omega arith)),
  behind_from P (before ++ x ∷ []) xs d (λ i lt. subst (λ (b : _). P b (get_or xs i d)) (sym (append_assoc before (x ∷ []) (take i xs))) (h (suc i) (omega arith))),
)

-- what holds at each place holds of each item behind those before it
pub all_behind : {X : Type 0} (P : List X → X → Type 0) (xs : List X) (d : X) → ((i : ℕ) → i < length xs → P (take i xs) (get_or xs i d)) → AllBehind P [] xs
all_behind P xs d h = behind_from P [] xs d h

-- what holds of the item of each number holds of all
pub by_number : {X : Type 0} (P : X → Type 0) (xs : List X) (d : X) → ((i : ℕ) → i < length xs → P (get_or xs i d)) → AllByRecursion P xs
by_number P xs d h = recursion_from_All P xs (All-from_get_or P xs d h)
