-- The text of an image: its header, and the words eight in a line.
use Rattle.std.specs.Prelude.{ℕ, zero, suc, ◌+◌, ◌/◌, ◌%◌, nat_lt, if◌then◌else◌, List, [], ◌∷◌, ◌++◌, codes}
use Rattle.std.specs.List.{flat_map}

-- a hexadecimal digit, in lower case
abbrev pub digit_byte : ℕ → ℕ
digit_byte digit = if nat_lt digit 10 then 48 + digit else 87 + digit

-- the last so many hexadecimal digits of a number
unfoldable pub digits : (count number : ℕ) → List ℕ
digits zero number = []
digits (suc n) number = digits n (number / 16) ++ digit_byte (number % 16) ∷ []

-- a word has 16 of them
abbrev pub word_text : ℕ → List ℕ
word_text word = digits 16 word

-- a word behind the one before it in its line
abbrev pub next_text : ℕ → List ℕ
next_text word = 32 ∷ word_text word

-- words with one space between
abbrev pub joined : List ℕ → List ℕ
joined [] = []
joined (word ∷ words) = word_text word ++ flat_map next_text words

-- a line of words
abbrev pub line_text : List ℕ → List ℕ
line_text words = joined words ++ 10 ∷ []

-- words in lines, eight in each, the last line what is left
unfoldable pub rows : List ℕ → List (List ℕ)
rows [] = []
rows (a ∷ b ∷ c ∷ d ∷ e ∷ f ∷ g ∷ h ∷ words) = (a ∷ b ∷ c ∷ d ∷ e ∷ f ∷ g ∷ h ∷ []) ∷ rows words
rows words = words ∷ []

-- the line that begins the section
abbrev pub header_text : List ℕ
header_text = codes "[image2]\n"

-- that line, and the words in their lines
abbrev pub image_text : List ℕ → List ℕ
image_text words = header_text ++ flat_map line_text (rows words)
