-- A text has no more lines than bytes, and no more words.
use Rattle.ink_base.proofs.Common.{◌≡◌, ℕ, ◌+◌, ◌≤◌, eqb, List, [], ◌∷◌, length, map, ap, arith, length-append, inl, inr, flat_map, length-map, cases_Bool, Word, onto_first, lines, before_comment, is_blank, begins_blank, words, numbered, Entry, entry_of, entries, AreTokens, Token}

onto_le : (x : ℕ) (ls : List (List ℕ)) → length (onto_first x ls) ≤ length ls + 1
onto_le x [] = omega arith
onto_le x (l ∷ ls) = omega arith

pub lines_le : (text : List ℕ) → length (lines text) ≤ length text
lines_le [] = omega arith
lines_le (b ∷ bytes) = elim (cases_Bool (eqb b 10)) [
  | inl t ↦ rw t (omega (arith, lines_le bytes))
  | inr f ↦ rw f (omega (arith, lines_le bytes, onto_le b (lines bytes)))
]

words_le : (bytes : List ℕ) → length (words bytes) ≤ length bytes
words_le [] = omega arith
words_le (b ∷ bytes) = elim (cases_Bool (is_blank b)) [
  | inl t ↦ rw t (omega (arith, words_le bytes))
  | inr f ↦ elim (cases_Bool (begins_blank bytes)) [
    | inl t ↦ rw (f, t) (omega (arith, words_le bytes))
    | inr g ↦ rw (f, g) (omega (arith, words_le bytes, onto_le b (words bytes)))
  ]
]

comment_le : (line : List ℕ) → length (before_comment line) ≤ length line
comment_le [] = omega arith
comment_le (b ∷ line) = elim (cases_Bool (eqb b 35)) [
  | inl t ↦ rw t (omega arith)
  | inr f ↦ rw f (omega (arith, comment_le line))
]

-- the bytes of lines
size : List (List ℕ) → ℕ
size [] = 0
size (l ∷ ls) = length l + size ls

size_onto : (x : ℕ) (ls : List (List ℕ)) → size (onto_first x ls) ≡ size ls + 1
unfolding size
size_onto x [] = omega arith
size_onto x (l ∷ ls) = omega arith

size_lines : (text : List ℕ) → size (lines text) ≤ length text
unfolding size
size_lines [] = omega arith
size_lines (b ∷ bytes) = elim (cases_Bool (eqb b 10)) [
  | inl t ↦ rw t (omega (arith, size_lines bytes))
  | inr f ↦ rw f (omega (arith, size_lines bytes, size_onto b (lines bytes)))
]

entries_le : (n : ℕ) (ls : List (List ℕ)) → length (flat_map entries (numbered n ls)) ≤ size ls
unfolding size
entries_le n [] = omega arith
entries_le n (l ∷ ls) =
    let ws = words (before_comment l) in
    omega (arith, length-append (map (λ (w : Word). (n, w)) ws) (flat_map entries (numbered (n + 1) ls)), length-map {B = Entry} ws (λ (w : Word). (n, w)), words_le (before_comment l), comment_le l, entries_le (n + 1) ls)

-- the tokens of a text are at most as many as its bytes
pub tokens_le : (text : List ℕ) (tokens : List Token) (count : ℕ) → AreTokens text tokens count → length tokens ≤ length text
tokens_le text tokens count are =
    omega (arith, length-map tokens (entry_of text), ap (λ (es : List Entry). length es) are.words, entries_le 1 (lines text), size_lines text)

-- and so are its lines
pub count_le : (text : List ℕ) (tokens : List Token) (count : ℕ) → AreTokens text tokens count → count ≤ length text
count_le text tokens count are = omega (arith, are.lines, lines_le text)
