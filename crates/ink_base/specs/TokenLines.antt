-- The lines that have words, and the lines that tokens make up.
use Rattle.std.specs.Prelude.{ℕ, Bool, true, false, List, [], ◌∷◌, map, ◌==◌, filter, if◌then◌else◌}
use Rattle.ink_base.specs.Lines.{Word, Line}
use Rattle.ink_base.specs.Tokens.{Entry, entry_of}
use Rattle.ink_base.specs.declared.token.Token.{Token}

-- whether a line has a word
abbrev pub has_words : List Word → Bool
has_words [] = false
has_words (w ∷ ws) = true

-- lines without words are passed over
abbrev pub with_words : List Line → List Line
with_words lines = filter (λ (l : Line). has_words l.words) lines

-- an entry joins the line before which it stands, where that has its number, and else is a line of its own
abbrev pub join : Entry → List Line → List Line
join e [] = record { number = e.0; words = e.1 ∷ [] } ∷ []
join e (l ∷ ls) = if e.0 == l.number then record { number = e.0; words = e.1 ∷ l.words } ∷ ls else record { number = e.0; words = e.1 ∷ [] } ∷ l ∷ ls

-- the lines that entries make up
abbrev pub grouped : List Entry → List Line
grouped [] = []
grouped (e ∷ es) = join e (grouped es)

-- the lines that tokens make up
abbrev pub token_lines : List ℕ → List Token → List Line
token_lines text tokens = grouped (map (entry_of text) tokens)
