-- What the lines of an image's section say.
use Rattle.std.specs.Prelude.{◌≡◌, ℕ, ◌+◌, ◌-◌, ◌*◌, ◌==◌, ◌&&◌, ◌||◌, nat_le, not, Bool, if◌then◌else◌, List, [], ◌∷◌, ◌++◌, length, fold, codes, Option, Some, None, Result, Ok, Err}
use Rattle.std.specs.List.{list_all, flat_map, take_while}
use Rattle.ink_base.specs.Lines.{Word, Line, lines_of}
use Rattle.ink_base.specs.Tokens.{Entry, entries}
use Rattle.ink_text.specs.Section.{is_header}
use Rattle.ink_image.specs.declared.reading.WordsAnswer.{WordsAnswer}
use Rattle.ink_image.specs.declared.reading.WordsAnswer.TheVariants as answers

-- a hexadecimal digit in upper or lower case
abbrev pub is_digit : ℕ → Bool
is_digit b = (nat_le 48 b && nat_le b 57) || ((nat_le 65 b && nat_le b 70) || (nat_le 97 b && nat_le b 102))

-- what it counts; 0 for another byte
abbrev pub digit_value : ℕ → ℕ
digit_value b =
    if nat_le 48 b && nat_le b 57 then b - 48 else (if nat_le 65 b && nat_le b 70 then b - 55 else (if nat_le 97 b && nat_le b 102 then b - 87 else 0))

-- 16 of them
abbrev pub is_word : Word → Bool
is_word w = length w == 16 && list_all is_digit w

-- what digits say
abbrev pub value : Word → ℕ
value w = fold (λ n b. 16 * n + digit_value b) 0 w

-- what a word says; none where it isn't 16 digits
abbrev pub said : Word → Option ℕ
said w = if is_word w then Some (value w) else None

-- the lines of a section: those before the next header
abbrev pub section_lines : List Line → List Line
section_lines lines = take_while (λ (l : Line). not (is_header l.words)) lines

-- the words of a line, each with the line's number
abbrev pub line_entries : (number : ℕ) → List Word → List Entry
line_entries number words = entries (record { number = number; words = words })

-- the words of a section
abbrev pub section_entries : List Line → List Entry
section_entries lines = flat_map entries (section_lines lines)

-- numbers in front of those that are read
abbrev pub onto : List ℕ → Result (List ℕ) ℕ → Result (List ℕ) ℕ
onto ns (Ok more) = Ok (ns ++ more)
onto ns (Err line) = Err line

-- a number and those that are read behind it, or the line of the word that says none
abbrev pub with_said : (line : ℕ) → Option ℕ → Result (List ℕ) ℕ → Result (List ℕ) ℕ
with_said line (Some n) rest = onto (n ∷ []) rest
with_said line None rest = Err line

-- the numbers that words say, or the line of the first that isn't 16 hexadecimal digits
unfoldable pub read : List Entry → Result (List ℕ) ℕ
read [] = Ok []
read (e ∷ es) = with_said e.0 (said e.1) (read es)

-- the code's answer, seen by view, is what was read, unless memory ran out
abbrev pub Reads : {X : Type 0} → (X → List ℕ) → Result X WordsAnswer → Result (List ℕ) ℕ → Type 0
Reads view (Ok words) said = said ≡ Ok (view words)
Reads view (Err (answers.BadWord line)) said = said ≡ Err line
Reads view (Err answers.NoMemory) said = Unit {0}

-- the same where the code leaves them behind those that were there
abbrev pub ReadsOn : (before after : List ℕ) → Result (Unit {0}) WordsAnswer → Result (List ℕ) ℕ → Type 0
ReadsOn before after (Ok x) said = onto before said ≡ Ok after
ReadsOn before after (Err (answers.BadWord line)) said = said ≡ Err line
ReadsOn before after (Err answers.NoMemory) said = Unit {0}

-- A text says these words: read again, it is a header's line, and a section that says them behind it.
pub record Says (text words : List ℕ) : Type 0 where
  pub behind : List Line
  pub header : lines_of text ≡ record { number = 1; words = codes "[image2]" ∷ [] } ∷ behind
  pub section : read (section_entries behind) ≡ Ok words
