-- The words of the canonical text are words, and are read as what they stand for.
use Rattle.program_text.proofs.Common.{◌≡◌, ℕ, ◌+◌, ◌-◌, ◌*◌, ◌/◌, ◌%◌, ◌<◌, ◌≤◌, ◌^◌, Bool, true, ◌&&◌, leb, List, [], ◌∷◌, ◌++◌, length, fold, Ok, Some, decimal, refl, ap, ◌∙◌, inl, inr, arith, rules, IsTrue, lt-ltb, le-leb, leb-true, eqb-true, ne_eqb, take_at, list_all, and_from, and_parts, or_cases, cases_lt, length_push, get_or_push, bytes_eq-Decides, digits_decimal, digits_value-decimal, decimal_digit, decimal_step, decimal_nonempty, length-decimal-le, Word, is_letter, goes_on_name, is_name, label_of}
use Rattle.std.proofs.lemmas.Str.Parse.{IsNumeralModel, numerals_by_fold}
use Rattle.ink_base.specs.Numbers.{is_digit, is_number, value}
use Rattle.ink_base.specs.Checks.{word_in, fixed_in, number_in, field_in}
use Rattle.task_lines.specs.Operands.{register_of, register_in}
use Rattle.program_text.proofs.Rendering.{goes_on, is_word}
use Rattle.program_text.proofs.Spelled.{register_word, label_name}
use Rattle.ink_base.specs.declared.limits.TheConstants as limits

abbrev value_after : ℕ → Word → ℕ
value_after a w = fold (λ n b. 10 * n + (b - 48)) a w

own : IsNumeralModel (λ w. list_all is_digit w ≡ true) (value_after 0)
own = numerals_by_fold _ (search rules) value_after (search rules)

pub value-decimal : (n : ℕ) → n < 2 ^ 64 → value (decimal n) ≡ n
value-decimal n lt = digits_value-decimal own n lt

pub is_number-decimal : (n : ℕ) → n < 10 ^ 10 → is_number (decimal n) ≡ true
is_number-decimal n lt =
    let wide : n < 2 ^ 64 = omega arith in
    and_from _ _ (and_from _ _ (le-leb 1 (length (decimal n)) (decimal_nonempty n wide)) (le-leb (length (decimal n)) 10 (length-decimal-le 10 n (omega arith) lt wide))) (digits_decimal own n wide)

pub fixed_again : (w : Word) (ws : List Word) → fixed_in w (w ∷ ws) ≡ Ok ws
unfolding fixed_in word_in
fixed_again w ws = rw ((bytes_eq-Decides w w).1 refl) refl

pub number_again : (least greatest n : ℕ) (ws : List Word) → least ≤ n → n ≤ greatest → n < 10 ^ 10 → number_in least greatest (decimal n ∷ ws) ≡ Ok (n, ws)
unfolding number_in word_in
number_again least greatest n ws low high lt = rw (is_number-decimal n lt, value-decimal n (omega arith), le-leb least n low, le-leb n greatest high) refl

pub field_again : (label : Word) (least greatest n : ℕ) (ws : List Word) → least ≤ n → n ≤ greatest → n < 10 ^ 10 → field_in label least greatest (label ∷ decimal n ∷ ws) ≡ Ok (n, ws)
unfolding field_in
field_again label least greatest n ws low high lt = rw (fixed_again label (decimal n ∷ ws), number_again least greatest n ws low high lt) refl

-- registers
one_digit : (r : ℕ) → r < 10 → register_of (114 ∷ (48 + r) ∷ []) ≡ Ok r
unfolding register_of
one_digit r lt = rw (le-leb 48 (48 + r) (omega arith), le-leb (48 + r) 57 (omega arith)) (ap Ok (omega arith))

two_digits : (d r : ℕ) → d ≡ 38 + r → 10 ≤ r → r < 16 → register_of (114 ∷ 49 ∷ d ∷ []) ≡ Ok r
unfolding register_of
two_digits d r e low high = rw (le-leb 48 d (omega arith), le-leb d 53 (omega arith)) (ap Ok (omega arith))

teen : (r : ℕ) → 10 ≤ r → r < 16 → decimal r ≡ 49 ∷ (48 + r % 10) ∷ []
teen r low high =
    let tens : r / 10 ≡ 1 = omega arith in
    decimal_step r low (omega arith) ∙ ap (λ (n : ℕ). decimal n ++ (48 + r % 10) ∷ []) tens ∙ ap (λ (w : Word). w ++ (48 + r % 10) ∷ []) (decimal_digit 1 (omega arith))

pub register_again : (r : ℕ) → r < 16 → register_of (register_word r) ≡ Ok r
register_again r lt = elim (cases_lt r 10) [
  | inl low ↦ ap (λ (w : Word). register_of (114 ∷ w)) (decimal_digit r low) ∙ one_digit r low
  | inr high ↦ ap (λ (w : Word). register_of (114 ∷ w)) (teen r high lt) ∙ two_digits (48 + r % 10) r (omega arith) high lt
]

pub register_in_again : (r : ℕ) (ws : List Word) → r < 16 → register_in (register_word r ∷ ws) ≡ Ok (r, ws)
unfolding register_in word_in
register_in_again r ws lt = rw (register_again r lt) refl

-- which words are words
all_weaker : (p q : ℕ → Bool) → ((b : ℕ) → p b ≡ true → q b ≡ true) → (w : List ℕ) → list_all p w ≡ true → list_all q w ≡ true
all_weaker p q h [] all = refl
all_weaker p q h (b ∷ w) all = let both = and_parts (p b) (list_all p w) all in and_from (q b) (list_all q w) (h b both.0) (all_weaker p q h w both.1)

-- a byte beyond all blanks and the sign of comments
goes_on_from : (b : ℕ) → 36 ≤ b → goes_on b ≡ true
goes_on_from b le =
    rw (ne_eqb b 10 (λ e. absurd (omega arith)), ne_eqb b 35 (λ e. absurd (omega arith)), ne_eqb b 32 (λ e. absurd (omega arith)), ne_eqb b 9 (λ e. absurd (omega arith)), ne_eqb b 13 (λ e. absurd (omega arith))) refl

least_of : (low high b : ℕ) → (leb low b && leb b high) ≡ true → low ≤ b
least_of low high b h = leb-true low b (and_parts (leb low b) (leb b high) h).0

digit_goes_on : (b : ℕ) → is_digit b ≡ true → goes_on b ≡ true
digit_goes_on b h = goes_on_from b (let le = least_of 48 57 b h in omega arith)

letter_goes_on : (b : ℕ) → is_letter b ≡ true → goes_on b ≡ true
letter_goes_on b h = elim (or_cases _ _ h) [
  | inl low ↦ goes_on_from b (let le = least_of 65 90 b low in omega arith)
  | inr low ↦ goes_on_from b (let le = least_of 97 122 b low in omega arith)
]

name_goes_on : (b : ℕ) → goes_on_name b ≡ true → goes_on b ≡ true
name_goes_on b h = elim (or_cases _ _ h) [
  | inl some ↦ elim (or_cases _ _ some) [
    | inl letter ↦ letter_goes_on b letter
    | inr digit ↦ digit_goes_on b digit
  ]
  | inr score ↦ goes_on_from b (let e = eqb-true b 95 score in omega arith)
]

pub digits_go_on : (n : ℕ) → n < 2 ^ 64 → list_all goes_on (decimal n) ≡ true
digits_go_on n lt = all_weaker is_digit goes_on digit_goes_on (decimal n) (digits_decimal own n lt)

word_from : (w : Word) → 0 < length w → list_all goes_on w ≡ true → is_word w ≡ true
word_from [] some all = absurd (omega arith)
word_from (b ∷ w) some all = all

pub decimal_word : (n : ℕ) → n < 2 ^ 64 → is_word (decimal n) ≡ true
decimal_word n lt = word_from (decimal n) (decimal_nonempty n lt) (digits_go_on n lt)

pub name_word : (w : Word) → IsTrue (is_name w) → is_word w ≡ true
name_word [] h = absurd (cc)
name_word (b ∷ w) h =
    let all = and_parts (is_letter b && leb (length w) 15) (list_all goes_on_name w) h in
    let first = and_parts (is_letter b) (leb (length w) 15) all.0 in
    and_from (goes_on b) (list_all goes_on w) (letter_goes_on b first.0) (all_weaker goes_on_name goes_on name_goes_on w all.1)

-- labels
digit_goes_on_name : (b : ℕ) → is_digit b ≡ true → goes_on_name b ≡ true
digit_goes_on_name b h = rw h (search rules)

pub label_is_name : (o : ℕ) → o < limits.INSTRUCTIONS → is_name (label_name o) ≡ true
label_is_name o lt =
    let wide : o < 2 ^ 64 = omega arith in
    let short : length (decimal o) ≤ 4 = length-decimal-le 4 o (omega arith) (omega arith) wide in
    and_from _ _ (le-leb (length (decimal o)) 15 (omega arith)) (all_weaker is_digit goes_on_name digit_goes_on_name (decimal o) (digits_decimal own o wide))

pub label_of-again : (v : Word) → label_of (v ++ 58 ∷ []) ≡ Some v
label_of-again v =
    let size : length (v ++ 58 ∷ []) ≡ length v + 1 = length_push v 58 in
    let last : length (v ++ 58 ∷ []) - 1 ≡ length v = omega (arith, size) in
    rw (lt-ltb 0 (length (v ++ 58 ∷ [])) (omega (arith, size)), last, get_or_push v 58 0 (length v) refl, take_at v (58 ∷ []) (length v) refl) refl
