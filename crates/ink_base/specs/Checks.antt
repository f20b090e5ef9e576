-- The checks of a token: each takes the words from this token on, and gives the words behind it.
use Rattle.std.specs.Prelude.{ℕ, ◌&&◌, List, [], ◌∷◌, map, Result, Ok, Err, nat_le, if◌then◌else◌}
use Rattle.std.specs.Str.{bytes_eq}
use Rattle.ink_base.specs.Lines.{Word}
use Rattle.ink_base.specs.Tokens.{word_of}
use Rattle.ink_base.specs.declared.token.Token.{Token}
use Rattle.ink_base.specs.declared.fault.Cause.{Cause}
use Rattle.ink_base.specs.declared.fault.Cause.TheVariants.{UnknownWord, BadNumber, Missing, OverLimit}
use Rattle.ink_base.specs.Numbers.{is_number, value}
use Rattle.ink_base.specs.Gives.{◌>>=◌}

-- the words that tokens name
abbrev pub words_of : List ℕ → List Token → List Word
words_of text tokens = map (word_of text) tokens

-- a token that has to be there
unfoldable pub word_in : List Word → Result (Word × List Word) Cause
word_in [] = Err Missing
word_in (w ∷ ws) = Ok (w, ws)

-- a fixed word
unfoldable pub fixed_in : Word → List Word → Result (List Word) Cause
fixed_in expected ws = do
  w ← word_in ws
  if bytes_eq w.0 expected then Ok w.1 else Err UnknownWord

-- what a word says as a number
abbrev pub number_of : Word → Result ℕ Cause
number_of w = if is_number w then Ok (value w) else Err BadNumber

-- a number from least to greatest
unfoldable pub number_in : ℕ → ℕ → List Word → Result (ℕ × List Word) Cause
number_in least greatest ws = do
  w ← word_in ws
  n ← number_of w.0
  if nat_le least n && nat_le n greatest then Ok (n, w.1) else Err OverLimit

-- a fixed word, and behind it a number from least to greatest
unfoldable pub field_in : Word → ℕ → ℕ → List Word → Result (ℕ × List Word) Cause
field_in label least greatest ws = do
  rest ← fixed_in label ws
  number_in least greatest rest

-- no token is left over
unfoldable pub end_in : List Word → Result (Unit {0}) Cause
end_in [] = Ok tt
end_in (w ∷ ws) = Err UnknownWord
