-- The checks of names.
use Rattle.std.specs.Prelude.{ℕ, Bool, not, List, Option, Result, Ok, Err, if◌then◌else◌, position}
use Rattle.std.specs.List.{list_any}
use Rattle.std.specs.Str.{bytes_eq}
use Rattle.ink_base.specs.Lines.{Word}
use Rattle.ink_base.specs.declared.fault.Cause.{Cause}
use Rattle.ink_base.specs.declared.fault.Cause.TheVariants.{UnknownWord, Duplicate}
use Rattle.ink_base.specs.Gives.{◌>>=◌}
use Rattle.ink_base.specs.Checks.{word_in}
use Rattle.ink_text.specs.Words.{found}
use Rattle.task_isa.specs.Names.{is_name}

-- the place of the first item with this name
abbrev pub place_of : {X : Type 0} → (X → Word) → List X → Word → Option ℕ
place_of name items w = position (λ x. bytes_eq (name x) w) items

-- whether an item has this name
abbrev pub is_taken : {X : Type 0} → (X → Word) → List X → Word → Bool
is_taken name items w = list_any (λ x. bytes_eq (name x) w) items

-- a new name, where it is known whether it is taken
unfoldable pub fresh_of : Bool → Word → Result Word Cause
fresh_of taken w = if not (is_name w) then Err UnknownWord else (if taken then Err Duplicate else Ok w)

-- what has to be a name
abbrev pub name_of : Word → Result Word Cause
name_of w = if is_name w then Ok w else Err UnknownWord

-- a name that no item has
unfoldable pub new_name_in : {X : Type 0} → (X → Word) → List X → List Word → Result (Word × List Word) Cause
new_name_in name items ws = do
  w ← word_in ws
  fresh ← fresh_of (is_taken name items w.0) w.0
  Ok (fresh, w.1)

-- the place of the item that is named
unfoldable pub declared_in : {X : Type 0} → (X → Word) → List X → List Word → Result (ℕ × List Word) Cause
declared_in name items ws = do
  w ← word_in ws
  place ← found (place_of name items w.0)
  Ok (place, w.1)
