-- The lines of a text and their words.
use Rattle.std.specs.Prelude.{ℕ, ◌+◌, Bool, true, ◌&&◌, ◌||◌, List, [], ◌∷◌, ◌==◌, nat_le, if◌then◌else◌}

-- a word, by its bytes
abbrev pub Word : Type 0
Word = List ℕ

-- x at the front of the first of the lists
abbrev pub onto_first : ℕ → List (List ℕ) → List (List ℕ)
onto_first x [] = (x ∷ []) ∷ []
onto_first x (ys ∷ rest) = (x ∷ ys) ∷ rest

-- Lines end at a line feed; a last piece without one is a line where it isn't empty.
abbrev pub lines : List ℕ → List (List ℕ)
lines [] = []
lines (b ∷ bytes) = if b == 10 then [] ∷ lines bytes else onto_first b (lines bytes)

-- what stands before the first `#`
abbrev pub before_comment : List ℕ → List ℕ
before_comment [] = []
before_comment (b ∷ line) = if b == 35 then [] else b ∷ before_comment line

-- space, tab or carriage return
abbrev pub is_blank : ℕ → Bool
is_blank b = b == 32 || b == 9 || b == 13

-- where a word ends: at a blank, or where nothing follows
abbrev pub begins_blank : List ℕ → Bool
begins_blank [] = true
begins_blank (b ∷ bytes) = is_blank b

-- the longest pieces without a blank
abbrev pub words : List ℕ → List Word
words [] = []
words (b ∷ bytes) = if is_blank b then words bytes else (if begins_blank bytes then (b ∷ []) ∷ words bytes else onto_first b (words bytes))

-- a line with its number
pub record Line : Type 0 where
  pub number : ℕ
  pub words : List Word

-- lines with their words, numbered from n on
abbrev pub numbered : ℕ → List (List ℕ) → List Line
numbered n [] = []
numbered n (line ∷ rest) = record { number = n; words = words (before_comment line) } ∷ numbered (n + 1) rest

-- the lines of a text, from 1 on
abbrev pub lines_of : List ℕ → List Line
lines_of text = numbered 1 (lines text)

-- a printable byte, tab, carriage return or line feed
abbrev pub is_allowed : ℕ → Bool
is_allowed b = (nat_le 32 b && nat_le b 126) || b == 9 || b == 10 || b == 13
