-- The lines of a text, from its words.
use Rattle.ink_base.proofs.Common.{◌≡◌, ℕ, ◌+◌, ◌<◌, cond, List, [], ◌∷◌, ◌++◌, map, refl, ap, ◌∙◌, arith, eq-eqb, ne_eqb, flat_map, Word, Line, lines, words, before_comment, numbered, lines_of, Entry, entries, all_entries, AreTokens, join, grouped, has_words, with_words, token_lines, Token}

-- the first line has a greater number
abbrev Above : ℕ → List Line → Type 0
Above n [] = Unit {0}
Above n (l ∷ ls) = n < l.number

abbrev numbers : ℕ → List Word → List Entry
numbers n ws = map (λ (w : Word). (n, w)) ws

abbrev line : ℕ → List Word → Line
line n ws = record { number = n; words = ws }

join_apart : (n : ℕ) (w : Word) (ls : List Line) → Above n ls → join (n, w) ls ≡ line n (w ∷ []) ∷ ls
join_apart n w [] h = refl
join_apart n w (l ∷ ls) h = rw (ne_eqb n l.number (λ e. absurd (omega arith))) refl

join_same : (n : ℕ) (w : Word) (ws : List Word) (ls : List Line) → join (n, w) (line n ws ∷ ls) ≡ line n (w ∷ ws) ∷ ls
join_same n w ws ls = rw (eq-eqb n n refl) refl

grouped_line : (n : ℕ) (w : Word) (ws : List Word) (es : List Entry) → Above n (grouped es) → grouped (numbers n (w ∷ ws) ++ es) ≡ line n (w ∷ ws) ∷ grouped es
grouped_line n w [] es h = join_apart n w (grouped es) h
grouped_line n w (v ∷ ws) es h = ap (join (n, w)) (grouped_line n v ws es h) ∙ join_same n w (v ∷ ws) (grouped es)

above_rest : (n : ℕ) (ws : List Word) (rest : List Line) (m : ℕ) → n < m → Above n rest → Above n (cond (has_words ws) (line m ws ∷ rest) rest)
above_rest n [] rest m lt h = h
above_rest n (w ∷ ws) rest m lt h = lt

above_worded : (n m : ℕ) (ls : List (List ℕ)) → n < m → Above n (with_words (numbered m ls))
above_worded n m [] lt = tt
above_worded n m (l ∷ ls) lt = above_rest n (words (before_comment l)) (with_words (numbered (m + 1) ls)) m lt (above_worded n (m + 1) ls (omega arith))

one : (n : ℕ) (ws : List Word) (es : List Entry) (rest : List Line) → grouped es ≡ rest → Above n rest → grouped (numbers n ws ++ es) ≡ cond (has_words ws) (line n ws ∷ rest) rest
one n [] es rest h above = h
one n (w ∷ ws) es rest h above = grouped_line n w ws es (rw h above) ∙ ap (λ (ls : List Line). line n (w ∷ ws) ∷ ls) h

from_number : (n : ℕ) (ls : List (List ℕ)) → grouped (flat_map entries (numbered n ls)) ≡ with_words (numbered n ls)
from_number n [] = refl
from_number n (l ∷ ls) = one n (words (before_comment l)) (flat_map entries (numbered (n + 1) ls)) (with_words (numbered (n + 1) ls)) (from_number (n + 1) ls) (above_worded n (n + 1) ls (omega arith))

grouped_all : (text : List ℕ) → grouped (all_entries text) ≡ with_words (lines_of text)
grouped_all text = from_number 1 (lines text)

-- the tokens of a text make up its lines that have words
pub whole_lines : (text : List ℕ) (tokens : List Token) (count : ℕ) → AreTokens text tokens count → token_lines text tokens ≡ with_words (lines_of text)
whole_lines text tokens count are = ap grouped are.words ∙ grouped_all text
