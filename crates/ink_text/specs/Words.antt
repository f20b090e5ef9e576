-- Readings of one word after another.
use Rattle.std.specs.Prelude.{ℕ, List, [], ◌∷◌, Option, Some, None, Result, Ok, Err, nat_le, if◌then◌else◌}
use Rattle.ink_base.specs.Lines.{Word}
use Rattle.ink_base.specs.declared.fault.Cause.{Cause}
use Rattle.ink_base.specs.declared.fault.Cause.TheVariants.{UnknownWord, OverLimit}
use Rattle.ink_base.specs.Gives.{◌>>=◌}
use Rattle.ink_base.specs.Checks.{number_of}

-- a state after each word, up to the first fault
unfoldable pub words_in : {S : Type 0} → (S → Word → Result S Cause) → S → List Word → Result S Cause
words_in f s [] = Ok s
words_in f s (w ∷ ws) = f s w >>= (λ next. words_in f next ws)

-- what a word says as a number that is at most the greatest
abbrev pub up_to : ℕ → Word → Result ℕ Cause
up_to greatest w = number_of w >>= (λ n. if nat_le n greatest then Ok n else Err OverLimit)

-- what a word stands for has to be there
abbrev pub found : {X : Type 0} → Option X → Result X Cause
found None = Err UnknownWord
found (Some x) = Ok x
