-- Words in lines, and digits in words.
use Rattle.ink_image.proofs.Common.{◌≡◌, ◌≢◌, ℕ, zero, suc, ◌-◌, ◌/◌, ◌%◌, ◌<◌, eqb, false, min, List, [], ◌∷◌, ◌++◌, length, take, drop, refl, sym, ap, ◌∙◌, append_assoc, arith, append-nil, flat_map, digit_byte, line_text}
use Rattle.ink_image.specs.Text.{digits, rows}

-- the first line, and the lines behind it
rows_step : (rest : List ℕ) (n : ℕ) → eqb (length rest) 0 ≡ false → n ≡ min (length rest) 8 → rows rest ≡ take n rest ∷ rows (drop n rest)
unfolding rows
rows_step [] n some is = absurd (cc)
rows_step (a ∷ []) n some is = rw is refl
rows_step (a ∷ b ∷ []) n some is = rw is refl
rows_step (a ∷ b ∷ c ∷ []) n some is = rw is refl
rows_step (a ∷ b ∷ c ∷ d ∷ []) n some is = rw is refl
rows_step (a ∷ b ∷ c ∷ d ∷ e ∷ []) n some is = rw is refl
rows_step (a ∷ b ∷ c ∷ d ∷ e ∷ f ∷ []) n some is = rw is refl
rows_step (a ∷ b ∷ c ∷ d ∷ e ∷ f ∷ g ∷ []) n some is = rw is refl
rows_step (a ∷ b ∷ c ∷ d ∷ e ∷ f ∷ g ∷ h ∷ rest) n some is = let eight : n ≡ 8 = omega arith in rw eight refl

-- the last digit behind the others
digits_step : (count number : ℕ) → 0 < count → digits count number ≡ digits (count - 1) (number / 16) ++ digit_byte (number % 16) ∷ []
unfolding digits
digits_step zero number some = absurd (omega arith)
digits_step (suc n) number some = let less : suc n - 1 ≡ n = omega arith in rw less refl

no_digits : (number : ℕ) → digits 0 number ≡ []
unfolding digits
no_digits number = refl

no_rows : rows [] ≡ []
unfolding rows
no_rows = refl

-- the text of the lines when the first is put behind what there is
pub rows_more : (rest row after text new : List ℕ) (n : ℕ) → eqb (length rest) 0 ≡ false → n ≡ min (length rest) 8 → row ≡ take n rest → after ≡ drop n rest →
    new ≡ text ++ line_text row → new ++ flat_map line_text (rows after) ≡ text ++ flat_map line_text (rows rest)
rows_more rest row after text new n some is front back put =
    let F : List (List ℕ) → List ℕ = λ rs. flat_map line_text rs in
    let step : F (rows rest) ≡ line_text (take n rest) ++ F (rows (drop n rest)) = ap F (rows_step rest n some is) in
    let same : F (rows rest) ≡ line_text row ++ F (rows after) =
    step ∙ ap (λ (r : List ℕ). line_text r ++ F (rows (drop n rest))) (sym front) ∙ ap (λ (a : List ℕ). line_text row ++ F (rows a)) (sym back) in
    ap (λ (x : List ℕ). x ++ F (rows after)) put ∙ append_assoc text (line_text row) (F (rows after)) ∙ ap (λ (x : List ℕ). text ++ x) (sym same)

-- nothing is left
pub rows_over : (rest text all : List ℕ) → rest ≡ [] → text ++ flat_map line_text (rows rest) ≡ all → text ≡ all
rows_over rest text all none h =
    sym (append-nil text) ∙ ap (λ (x : List ℕ). text ++ x) (sym (ap (flat_map line_text) (ap rows none ∙ no_rows))) ∙ h

-- the last digit is put behind the others
pub digits_more : (count number b : ℕ) (old text new : List ℕ) → count ≢ 0 → text ≡ old ++ digits (count - 1) (number / 16) → b ≡ digit_byte (number % 16) →
    new ≡ text ++ b ∷ [] → new ≡ old ++ digits count number
digits_more count number b old text new some put is more =
    let last : List ℕ = digit_byte (number % 16) ∷ [] in
    more ∙ ap (λ (x : List ℕ). x ++ b ∷ []) put ∙ ap (λ (x : ℕ). (old ++ digits (count - 1) (number / 16)) ++ x ∷ []) is
    ∙ append_assoc old (digits (count - 1) (number / 16)) last ∙ ap (λ (x : List ℕ). old ++ x) (sym (digits_step count number (omega arith)))

pub digits_over : (count number : ℕ) (old : List ℕ) → count ≡ 0 → old ≡ old ++ digits count number
digits_over count number old none =
    sym (append-nil old) ∙ ap (λ (x : List ℕ). old ++ x) (sym (ap (λ n. digits n number) none ∙ no_digits number))
