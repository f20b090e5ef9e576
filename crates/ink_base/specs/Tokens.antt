-- Tokens: the words of a text, each with the number of its line.
use Rattle.std.specs.Prelude.{◌≡◌, ℕ, ◌+◌, ◌<◌, not, List, [], map, length, take, count_by, Option, Some, None, Result, Ok, Err, ◌&&◌, ◌==◌, nat_le, slice_range, slice_index_or, if◌then◌else◌, position}
use Rattle.std.specs.List.{flat_map}
use Rattle.ink_base.specs.declared.token.Token.{Token}
use Rattle.ink_base.specs.declared.token.Tokens.{Tokens}
use Rattle.ink_base.specs.declared.token.TextAnswer.{TextAnswer}
use Rattle.ink_base.specs.declared.token.TextAnswer.TheVariants as answers
use Rattle.ink_base.specs.declared.fault.Cause.TheVariants.{BadByte}
use Rattle.ink_base.specs.declared.fault.JobFault.{JobFault}
use Rattle.ink_base.specs.Lines.{Word, Line, lines, lines_of, is_allowed}

-- a word and the number of its line
abbrev pub Entry : Type 0
Entry = ℕ × Word

-- the words of a line, each with the line's number
abbrev pub entries : Line → List Entry
entries line = map (λ (w : Word). (line.number, w)) line.words

-- all words of a text in order
abbrev pub all_entries : List ℕ → List Entry
all_entries text = flat_map entries (lines_of text)

-- the piece that a token names; nothing where it isn't within the text
abbrev pub word_of : List ℕ → Token → Word
word_of text t = if nat_le t.start t.stop && nat_le t.stop (length text) then slice_range text t.start t.stop else []

-- what a token gives: its word and its line
abbrev pub entry_of : List ℕ → Token → Entry
entry_of text t = (t.line, word_of text t)

-- the number of the line in which a byte stands
abbrev pub line_number : List ℕ → ℕ → ℕ
line_number text offset = 1 + count_by (λ b. b == 10) (take offset text)

-- a token behind so many others: their words are those of the text before its start, and its line is 1 plus the line feeds there
pub record StandsBehind (text : List ℕ) (count : ℕ) (t : Token) : Type 0 where
  pub words : all_entries (take t.start text) ≡ take count (all_entries text)
  pub line : t.line ≡ line_number text t.start

-- these tokens are the text's words, each where it stands, and this is the number of its lines
pub record AreTokens (text : List ℕ) (tokens : List Token) (count : ℕ) : Type 0 where
  pub words : map (entry_of text) tokens ≡ all_entries text
  pub places : (n : ℕ) (d : Token) → n < length tokens → StandsBehind text n (slice_index_or tokens n d)
  pub lines : count ≡ length (lines text)

-- the place of the first byte that isn't allowed
abbrev pub first_bad : List ℕ → Option ℕ
first_bad text = position (λ b. not (is_allowed b)) text

-- what splitting answers: the tokens, or exactly the first byte that isn't allowed
abbrev pub IsSplit : List ℕ → Result Tokens TextAnswer → Type 0
IsSplit text (Ok tokens) = (first_bad text ≡ None) × AreTokens text tokens.list.items tokens.lines
IsSplit text (Err answers.NoMemory) = Unit {0}
IsSplit text (Err (answers.NotAscii offset)) = first_bad text ≡ Some offset

-- a byte that isn't allowed is a fault of its line
abbrev pub byte_fault : List ℕ → Option ℕ → Result (Unit {0}) JobFault
byte_fault text None = Ok tt
byte_fault text (Some offset) = Err (record { line = line_number text offset; cause = BadByte })

-- the first phase of reading a job: the first byte that isn't allowed
abbrev pub bytes_in : List ℕ → Result (Unit {0}) JobFault
bytes_in text = byte_fault text (first_bad text)
