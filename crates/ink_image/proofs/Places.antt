-- Where lines of bytes end, and what their first words are.
use Rattle.ink_image.proofs.Common.{◌≡◌, ℕ, zero, suc, ◌+◌, ◌-◌, ◌<◌, ◌≤◌, not, cond, eqb, Bool, true, false, List, [], ◌∷◌, length, take, drop, get_or, refl, sym, ap, ◌∙◌, inl, inr, ne_eqb, arith, add-one, codes, Word, lines}
use Rattle.std.specs.Prelude.{◌||◌}
use Rattle.std.specs.List.{prefix_len}
use Rattle.std.specs.Str.{bytes_eq}
use Rattle.std.proofs.lemmas.Bool.{cases_Bool}
use Rattle.std.proofs.Math.Seq.{drop-cons}
use Rattle.ink_base.specs.Lines.{is_blank, before_comment, words, onto_first}
use Rattle.ink_image.specs.Before.{line_end, is_claim}

pub line_end_within : (text : List ℕ) (number : ℕ) → line_end text number ≤ length text
line_end_within text zero = omega arith
line_end_within [] (suc number) = omega arith
line_end_within (b ∷ bytes) (suc number) = let rest = line_end_within bytes (cond (eqb b 10) number (suc number)) in omega (arith, rest)

-- one byte more is passed over
pub line_end_step : (text : List ℕ) (at left next : ℕ) (d : ℕ) → at < length text → 0 < left → next ≡ cond (eqb (get_or text at d) 10) (left - 1) left →
    line_end (drop at text) left ≡ 1 + line_end (drop (at + 1) text) next
line_end_step text at zero next d lt some is = absurd (omega arith)
line_end_step text at (suc left) next d lt some is =
    let one : suc left - 1 ≡ left = omega arith in
    rw (add-one, drop-cons text at d lt, is, one) refl

one_more : (n : ℕ) → 1 + n ≡ suc n
one_more n = omega arith

-- the first line, and the lines behind it
abbrev goes_on : ℕ → Bool
goes_on b = not (eqb b 10)

abbrev split_at_feed : List ℕ → List (List ℕ)
split_at_feed text = take (prefix_len goes_on text) text ∷ lines (drop 1 (drop (prefix_len goes_on text) text))

split_on : (b : ℕ) (rest : List (List ℕ)) (bytes : List ℕ) → rest ≡ split_at_feed bytes → onto_first b rest ≡ (b ∷ take (prefix_len goes_on bytes) bytes) ∷ lines (drop 1 (drop (prefix_len goes_on bytes) bytes))
split_on b rest bytes is = ap (onto_first b) is

pub first_line_split : (b : ℕ) (bytes : List ℕ) → lines (b ∷ bytes) ≡ split_at_feed (b ∷ bytes)
first_line_split b [] =
    elim (cases_Bool (eqb b 10)) [
      | inl feed ↦ rw feed refl
      | inr other ↦ rw other refl
    ]
first_line_split b (c ∷ bytes) =
    elim (cases_Bool (eqb b 10)) [
      | inl feed ↦ rw feed refl
      | inr other ↦ rw (other, one_more) (split_on b (lines (c ∷ bytes)) (c ∷ bytes) (first_line_split c bytes))
    ]

-- the first word; nothing where there is none
abbrev head_word : List Word → Word
head_word [] = []
head_word (w ∷ ws) = w

abbrev within_word : ℕ → Bool
within_word b = not (eqb b 35 || is_blank b)

-- the bytes up to the end of a word, and those behind blanks
abbrev word_at : List ℕ → Word
word_at bytes = take (prefix_len within_word bytes) bytes

abbrev behind_blanks : List ℕ → List ℕ
behind_blanks bytes = drop (prefix_len is_blank bytes) bytes

head_onto : (b : ℕ) (ws : List Word) → head_word (onto_first b ws) ≡ b ∷ head_word ws
head_onto b [] = refl
head_onto b (w ∷ ws) = refl

-- a word goes on up to its end
word_goes_on : (b : ℕ) (bytes : List ℕ) → is_blank b ≡ false → eqb b 35 ≡ false → head_word (words (before_comment (b ∷ bytes))) ≡ b ∷ word_at bytes
word_goes_on b [] blank comment = rw (comment, blank) refl
word_goes_on b (c ∷ bytes) blank comment =
    elim (cases_Bool (eqb c 35)) [
      | inl ends ↦ rw (comment, ends, blank) refl
      | inr other ↦ elim (cases_Bool (is_blank c)) [
        | inl gap ↦ rw (comment, other, blank, gap) refl
        | inr more ↦
            let rest : head_word (words (before_comment (c ∷ bytes))) ≡ c ∷ word_at bytes = word_goes_on c bytes more other in
            let joined : words (before_comment (b ∷ c ∷ bytes)) ≡ onto_first b (words (before_comment (c ∷ bytes))) = rw (comment, other, blank, more) refl in
            let longer : word_at (c ∷ bytes) ≡ c ∷ word_at bytes = rw (other, more, one_more) refl in
            ap head_word joined ∙ head_onto b (words (before_comment (c ∷ bytes))) ∙ ap (λ (w : Word). b ∷ w) (rest ∙ sym longer)
      ]
    ]

-- and begins behind the blanks
pub first_word : (line : List ℕ) → head_word (words (before_comment line)) ≡ word_at (behind_blanks line)
first_word [] = refl
first_word (b ∷ bytes) =
    elim (cases_Bool (is_blank b)) [
      | inl gap ↦
          let no_comment : eqb b 35 ≡ false = ne_eqb b 35 (λ is. let clash : is_blank 35 ≡ true = sym (ap is_blank is) ∙ gap in cc) in
          let passed : words (before_comment (b ∷ bytes)) ≡ words (before_comment bytes) = rw (no_comment, gap) refl in
          let behind : behind_blanks (b ∷ bytes) ≡ behind_blanks bytes = rw (gap, one_more) refl in
          ap head_word passed ∙ first_word bytes ∙ ap word_at (sym behind)
      | inr more ↦ elim (cases_Bool (eqb b 35)) [
        | inl comment ↦ rw (more, comment) refl
        | inr other ↦
            let behind : behind_blanks (b ∷ bytes) ≡ b ∷ bytes = rw more refl in
            let longer : word_at (b ∷ bytes) ≡ b ∷ word_at bytes = rw (other, more, one_more) refl in
            word_goes_on b bytes more other ∙ sym longer ∙ ap word_at (sym behind)
      ]
    ]

is_claim_head : (ws : List Word) → is_claim ws ≡ bytes_eq (head_word ws) (codes "[claim]")
is_claim_head [] = refl
is_claim_head (w ∷ ws) = refl

-- whether a line begins with the header of a claim, by its bytes
pub claim_at : (line from word : List ℕ) → from ≡ behind_blanks line → word ≡ word_at from → bytes_eq word (codes "[claim]") ≡ is_claim (words (before_comment line))
claim_at line from word is_from is_word =
    let here : word ≡ head_word (words (before_comment line)) = is_word ∙ ap word_at is_from ∙ sym (first_word line) in
    ap (λ (w : Word). bytes_eq w (codes "[claim]")) here ∙ sym (is_claim_head (words (before_comment line)))

-- the first line of a text, by where its line feed stands
pub first_line_at : (text line behind : List ℕ) (k : ℕ) → 0 < length text → k ≡ prefix_len goes_on text → line ≡ take k text → behind ≡ drop k text →
    lines text ≡ line ∷ lines (drop 1 behind)
first_line_at [] line behind k some at is_line is_behind = absurd (omega arith)
first_line_at (b ∷ bytes) line behind k some at is_line is_behind = rw (is_line, is_behind, at) (first_line_split b bytes)
