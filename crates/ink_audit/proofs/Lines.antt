-- The lines of a text, from its front.
use Rattle.ink_audit.proofs.Common.{◌≡◌, ◌≢◌, ℕ, zero, suc, ◌+◌, ◌<◌, ◌≤◌, Bool, true, false, cond, List, [], ◌∷◌, length, get_or, take, drop, Some, None, inl, inr, refl, ap, ◌∙◌, arith, eqb, eqb-true, eqb-false, lt-ltb, ne_eqb, cases_lt, lines, onto_first, is_feed}
use Rattle.std.specs.List.{position, position_or_len}
use Rattle.std.proofs.lemmas.List.Quantifiers.{position-Some}
use Rattle.std.proofs.lemmas.List.Sums.{fails_before_first}

-- up to the first line feed
to_feed : (text : List ℕ) (n : ℕ) → n < length text → get_or text n 0 ≡ 10 → ((k : ℕ) → k < n → get_or text k 0 ≢ 10) → lines text ≡ take n text ∷ lines (drop (suc n) text)
to_feed [] n lt feed none = absurd (omega arith)
to_feed (b ∷ bytes) zero lt feed none = rw feed refl
to_feed (b ∷ bytes) (suc n) lt feed none =
    rw (ne_eqb b 10 (none 0 (omega arith)), to_feed bytes n (omega arith) feed (λ k below. none (suc k) (omega arith))) refl

pub lines_to_feed : (text : List ℕ) (n : ℕ) → position is_feed text ≡ Some n → lines text ≡ take n text ∷ lines (drop (n + 1) text)
lines_to_feed text n is =
    let at = position-Some is_feed text n 0 is in
    to_feed text n at.0 (eqb-true (get_or text n 0) 10 at.1) (λ k below. eqb-false (get_or text k 0) 10 (at.2 k below))
    ∙ ap (λ (m : ℕ). take n text ∷ lines (drop m text)) {x = suc n} {y = n + 1} (omega arith)

-- where there is none
to_end : (text : List ℕ) → 0 < length text → ((k : ℕ) → k < length text → get_or text k 0 ≢ 10) → lines text ≡ text ∷ []
to_end [] some none = absurd (omega arith)
to_end (b ∷ []) some none = rw (ne_eqb b 10 (none 0 (omega arith))) refl
to_end (b ∷ c ∷ bytes) some none =
    rw (ne_eqb b 10 (none 0 (omega arith)), to_end (c ∷ bytes) (omega arith) (λ k below. none (suc k) (omega arith))) refl

no_feed : (text : List ℕ) → position is_feed text ≡ None → (k : ℕ) → k < length text → get_or text k 0 ≢ 10
no_feed text is k lt =
    let first : ℕ = position_or_len is_feed text in
    elim (cases_lt first (length text)) [
      | inl there ↦ absurd (let e : position is_feed text ≡ Some first = ap (λ (b : Bool). cond b (Some first) None) (lt-ltb first (length text) there) in cc)
      | inr past ↦ eqb-false (get_or text k 0) 10 (fails_before_first is_feed text k 0 (omega arith))
    ]

pub lines_to_end : (text : List ℕ) → 0 < length text → position is_feed text ≡ None → lines text ≡ text ∷ []
lines_to_end text some is = to_end text some (no_feed text is)

length_onto : (b : ℕ) (ls : List (List ℕ)) → length (onto_first b ls) ≤ length ls + 1
length_onto b [] = omega arith
length_onto b (l ∷ ls) = omega arith

-- no text has more lines than bytes
pub few_lines : (text : List ℕ) → length (lines text) ≤ length text
few_lines [] = omega arith
few_lines (b ∷ bytes) =
    let few = few_lines bytes in
    let onto = length_onto b (lines bytes) in
    elim (eqb b 10) as (λ e. length (cond e ([] ∷ lines bytes) (onto_first b (lines bytes))) ≤ suc (length bytes)) [ true ↦ omega arith | false ↦ omega arith ]
