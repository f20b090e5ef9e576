-- The lines of a text that is made of words.
use Rattle.program_text.proofs.Common.{◌≡◌, ℕ, ◌+◌, Bool, true, false, not, ◌||◌, eqb, List, [], ◌∷◌, ◌++◌, length, refl, sym, ap, ◌∙◌, append_assoc, add-zero, arith, append-nil, flat_map, list_all, AllByRecursion, and_parts, or_parts, not-true, Word, Line, onto_first, lines, before_comment, words, numbered, with_words}
use Rattle.ink_base.specs.Walk.{ends_word}
use Rattle.ink_base.proofs.Walk.{IsPlain, piece, words_end, words_blank}

-- a byte within a word, and a word that a text can have
abbrev pub goes_on : ℕ → Bool
goes_on b = not (ends_word b)

abbrev pub is_word : Word → Bool
is_word [] = false
is_word (b ∷ w) = list_all goes_on (b ∷ w)

abbrev pub are_words : List Word → Bool
are_words [] = false
are_words (w ∷ ws) = list_all is_word (w ∷ ws)

-- the words, each behind a space, and what follows them
abbrev pub behind : List Word → List ℕ → List ℕ
behind [] rest = rest
behind (w ∷ ws) rest = 32 ∷ (w ++ behind ws rest)

-- the words with a space between each two, and what follows them
abbrev pub joined : List Word → List ℕ → List ℕ
joined [] rest = rest
joined (w ∷ ws) rest = w ++ behind ws rest

-- a line, and lines
abbrev pub line_text : List Word → List ℕ
line_text ws = joined ws (10 ∷ [])

abbrev pub text_of : List (List Word) → List ℕ
text_of lss = flat_map line_text lss

-- lines by their words, numbered from n on
abbrev pub with_numbers : ℕ → List (List Word) → List Line
with_numbers n [] = []
with_numbers n (ws ∷ rest) = record { number = n; words = ws } ∷ with_numbers (n + 1) rest

behind_then : (ws : List Word) (s rest : List ℕ) → behind ws s ++ rest ≡ behind ws (s ++ rest)
behind_then [] s rest = refl
behind_then (w ∷ ws) s rest = ap (λ (x : List ℕ). 32 ∷ x) (append_assoc w (behind ws s) rest ∙ ap (λ (x : List ℕ). w ++ x) (behind_then ws s rest))

joined_then : (ws : List Word) (s rest : List ℕ) → joined ws s ++ rest ≡ joined ws (s ++ rest)
joined_then [] s rest = refl
joined_then (w ∷ ws) s rest = append_assoc w (behind ws s) rest ∙ ap (λ (x : List ℕ). w ++ x) (behind_then ws s rest)

-- no byte that ends the line or begins a comment
abbrev Inline : List ℕ → Type 0
Inline l = AllByRecursion (λ b. (eqb b 10 ≡ false) × (eqb b 35 ≡ false)) l

plain_all : (w : Word) → list_all goes_on w ≡ true → IsPlain w
plain_all [] h = tt
plain_all (b ∷ w) h = let both = and_parts (goes_on b) (list_all goes_on w) h in (not-true (ends_word b) both.0, plain_all w both.1)

plain_word : (w : Word) → is_word w ≡ true → IsPlain w
plain_word [] h = tt
plain_word (b ∷ w) h = plain_all (b ∷ w) h

inline_plain : (w : Word) → IsPlain w → Inline w
inline_plain [] h = tt
inline_plain (b ∷ w) h =
    let parts = or_parts (eqb b 10 || eqb b 35) _ h.0 in
    (or_parts (eqb b 10) (eqb b 35) parts.0, inline_plain w h.1)

lines_on : (l bytes k : List ℕ) (ks : List (List ℕ)) → Inline l → lines bytes ≡ k ∷ ks → lines (l ++ bytes) ≡ (l ++ k) ∷ ks
lines_on [] bytes k ks h e = e
lines_on (b ∷ l) bytes k ks h e = rw h.0.0 (ap (onto_first b) (lines_on l bytes k ks h.1 e))

before_on : (l bytes : List ℕ) → Inline l → before_comment (l ++ bytes) ≡ l ++ before_comment bytes
before_on [] bytes h = refl
before_on (b ∷ l) bytes h = rw h.0.1 (ap (λ (k : List ℕ). b ∷ k) (before_on l bytes h.1))

lines_behind : (ws : List Word) (rest : List ℕ) → list_all is_word ws ≡ true → lines (behind ws (10 ∷ rest)) ≡ behind ws [] ∷ lines rest
lines_behind [] rest h = refl
lines_behind (w ∷ ws) rest h =
    let both = and_parts (is_word w) (list_all is_word ws) h in
    ap (onto_first 32) (lines_on w (behind ws (10 ∷ rest)) (behind ws []) (lines rest) (inline_plain w (plain_word w both.0)) (lines_behind ws rest both.1))

before_behind : (ws : List Word) → list_all is_word ws ≡ true → before_comment (behind ws []) ≡ behind ws []
before_behind [] h = refl
before_behind (w ∷ ws) h =
    let both = and_parts (is_word w) (list_all is_word ws) h in
    ap (λ (x : List ℕ). 32 ∷ x) (before_on w (behind ws []) (inline_plain w (plain_word w both.0)) ∙ ap (λ (x : List ℕ). w ++ x) (before_behind ws both.1))

piece_word : (w : Word) → is_word w ≡ true → piece w ≡ w ∷ []
piece_word [] h = absurd (cc)
piece_word (b ∷ w) h = refl

words_joined : (w : Word) (ws : List Word) → list_all is_word (w ∷ ws) ≡ true → words (w ++ behind ws []) ≡ w ∷ ws
words_joined w [] h =
    let both = and_parts (is_word w) true h in
    ap words (append-nil w) ∙ words_end w (plain_word w both.0) ∙ piece_word w both.0
words_joined w (v ∷ ws) h =
    let both = and_parts (is_word w) (list_all is_word (v ∷ ws)) h in
    words_blank w 32 (v ++ behind ws []) (plain_word w both.0) refl
    ∙ ap (λ (p : List Word). p ++ words (v ++ behind ws [])) (piece_word w both.0)
    ∙ ap (λ (p : List Word). w ∷ p) (words_joined v ws both.1)

-- a line of words, before other lines
line_again : (n : ℕ) (ws : List Word) (rest : List ℕ) → are_words ws ≡ true → numbered n (lines (joined ws (10 ∷ rest))) ≡ record { number = n; words = ws } ∷ numbered (n + 1) (lines rest)
line_again n [] rest h = absurd (cc)
line_again n (w ∷ ws) rest h =
    let both = and_parts (is_word w) (list_all is_word ws) h in
    let inline = inline_plain w (plain_word w both.0) in
    ap (numbered n) (lines_on w (behind ws (10 ∷ rest)) (behind ws []) (lines rest) inline (lines_behind ws rest both.1))
    ∙ ap (λ (x : List ℕ). record { number = n; words = words x } ∷ numbered (n + 1) (lines rest)) (before_on w (behind ws []) inline ∙ ap (λ (x : List ℕ). w ++ x) (before_behind ws both.1))
    ∙ ap (λ (x : List Word). record { number = n; words = x } ∷ numbered (n + 1) (lines rest)) (words_joined w ws h)

-- lines of words, before other lines
pub lines_again : (n : ℕ) (lss : List (List Word)) (rest : List ℕ) → list_all are_words lss ≡ true → numbered n (lines (text_of lss ++ rest)) ≡ with_numbers n lss ++ numbered (n + length lss) (lines rest)
lines_again n [] rest h = ap (λ m. numbered m (lines rest)) (sym (add-zero n))
lines_again n (ws ∷ lss) rest h =
    let both = and_parts (are_words ws) (list_all are_words lss) h in
    let cut : text_of (ws ∷ lss) ++ rest ≡ joined ws (10 ∷ (text_of lss ++ rest)) = append_assoc (line_text ws) (text_of lss) rest ∙ joined_then ws (10 ∷ []) (text_of lss ++ rest) in
    let count : n + 1 + length lss ≡ n + length (ws ∷ lss) = omega arith in
    ap (λ bytes. numbered n (lines bytes)) cut
    ∙ line_again n ws (text_of lss ++ rest) both.0
    ∙ ap (λ (x : List Line). record { number = n; words = ws } ∷ x) (lines_again (n + 1) lss rest both.1 ∙ ap (λ m. with_numbers (n + 1) lss ++ numbered m (lines rest)) count)

-- none of them is passed over
pub with_words_again : (n : ℕ) (lss : List (List Word)) (rest : List Line) → list_all are_words lss ≡ true → with_words (with_numbers n lss ++ rest) ≡ with_numbers n lss ++ with_words rest
with_words_again n [] rest h = refl
with_words_again n ([] ∷ lss) rest h = absurd (cc)
with_words_again n ((w ∷ ws) ∷ lss) rest h =
    ap (λ (x : List Line). record { number = n; words = w ∷ ws } ∷ x) (with_words_again (n + 1) lss rest (and_parts (are_words (w ∷ ws)) (list_all are_words lss) h).1)
