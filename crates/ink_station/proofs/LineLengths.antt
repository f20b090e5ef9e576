-- How many bytes the first lines of a text have.
use Rattle.std.proofs.Common.{◌≡◌, ◌≢◌, ℕ, zero, suc, ◌+◌, ◌<◌, ◌≤◌, eqb, List, [], ◌∷◌, length, get_or, drop, refl, ap, ◌∙◌, inl, inr, arith, eq-eqb, ne_eqb}
use Rattle.std.proofs.lemmas.List.{drop_more, drop_all}
use Rattle.std.proofs.lemmas.Bool.{cases_Bool}
use Rattle.ink_base.specs.Lines.{lines, onto_first}
use Rattle.ink_station.specs.Parts.{lines_len}

-- behind a line feed and behind another byte
feed : (k b : ℕ) (bytes : List ℕ) → b ≡ 10 → lines_len (suc k) (b ∷ bytes) ≡ suc (lines_len k bytes)
feed k b bytes is = rw (eq-eqb b 10 is) refl

other : (k b : ℕ) (bytes : List ℕ) → b ≢ 10 → lines_len (suc k) (b ∷ bytes) ≡ suc (lines_len (suc k) bytes)
other k b bytes isnt = rw (ne_eqb b 10 isnt) refl

-- so many bytes were passed, the next one is there, and lines are left
pub past_feed : (count left after : ℕ) (text : List ℕ) (n d : ℕ) → n < length text → left ≡ after + 1 → get_or text n d ≡ 10 → lines_len count text ≡ n + lines_len left (drop n text)
    → lines_len count text ≡ n + 1 + lines_len after (drop (n + 1) text)
past_feed count left after text n d lt one is so =
    let here : lines_len left (drop n text) ≡ suc (lines_len after (drop (n + 1) text)) =
    (λ i. lines_len (one i) (drop_more text n d lt i)) ∙ (ap (λ k. lines_len k (get_or text n d ∷ drop (n + 1) text)) (let e : after + 1 ≡ suc after = omega arith in e) ∙ feed after (get_or text n d) (drop (n + 1) text) is) in
    omega (arith, so, here)

pub past_other : (count left after : ℕ) (text : List ℕ) (n d : ℕ) → n < length text → left ≡ after + 1 → get_or text n d ≢ 10 → lines_len count text ≡ n + lines_len left (drop n text)
    → lines_len count text ≡ n + 1 + lines_len left (drop (n + 1) text)
past_other count left after text n d lt one isnt so =
    let more : left ≡ suc after = omega (arith, one) in
    let here : lines_len (suc after) (drop n text) ≡ suc (lines_len (suc after) (drop (n + 1) text)) =
    ap (λ l. lines_len (suc after) l) (drop_more text n d lt) ∙ other after (get_or text n d) (drop (n + 1) text) isnt in
    omega (arith, so, ap (λ k. lines_len k (drop n text)) more, here, ap (λ k. lines_len k (drop (n + 1) text)) more)

pub len_end : (left : ℕ) (text : List ℕ) (n : ℕ) → length text ≤ n → lines_len left (drop n text) ≡ 0
len_end zero text n le = refl
len_end (suc k) text n le = ap (λ l. lines_len (suc k) l) (drop_all n text le)

pub len_le : (count : ℕ) (text : List ℕ) → lines_len count text ≤ length text
len_le zero text = omega arith
len_le (suc k) [] = omega arith
len_le (suc k) (b ∷ bytes) = elim (cases_Bool (eqb b 10)) [
  | inl t ↦ rw t (omega (arith, len_le k bytes))
  | inr f ↦ rw f (omega (arith, len_le (suc k) bytes))
]

pub len_grows : (few many : ℕ) (text : List ℕ) → few ≤ many → lines_len few text ≤ lines_len many text
len_grows zero many text le = omega arith
len_grows (suc k) zero text le = absurd (omega (arith, le))
len_grows (suc k) (suc m) [] le = omega arith
len_grows (suc k) (suc m) (b ∷ bytes) le = elim (cases_Bool (eqb b 10)) [
  | inl t ↦ rw t (omega (arith, len_grows k m bytes (omega (arith, le))))
  | inr f ↦ rw f (omega (arith, len_grows (suc k) (suc m) bytes le))
]

onto_le : (b : ℕ) (ls : List (List ℕ)) → length (onto_first b ls) ≤ length ls + 1
onto_le b [] = omega arith
onto_le b (l ∷ ls) = omega arith

-- each of a text's lines has a byte at least
pub len_some : (count : ℕ) (text : List ℕ) → count ≤ length (lines text) → count ≤ lines_len count text
len_some zero text le = omega arith
len_some (suc k) [] le = absurd (omega (arith, le))
len_some (suc k) (b ∷ bytes) le = elim (cases_Bool (eqb b 10)) [
  | inl t ↦ let some = rw t at le in rw t (omega (arith, len_some k bytes (omega (arith, some))))
  | inr f ↦
      let some = rw f at le in
      rw f (omega (arith, len_some k bytes (omega (arith, some, onto_le b (lines bytes))), len_grows k (suc k) bytes (omega arith)))
]
