-- The labels of a task in the order of their lines: the name and the offset of each.
use Rattle.std.specs.Prelude.{ℕ, List, [], ◌∷◌, ◌++◌, Option}
use Rattle.std.specs.Str.{bytes_eq}
use Rattle.std.specs.Map.{lookup}
use Rattle.ink_base.specs.Lines.{Word}

-- the offset of the first label of this name, if there is one
abbrev pub offset_of : List (Word × ℕ) → Word → Option ℕ
offset_of labels name = lookup (bytes_eq name) labels

-- the labels with one of a later line
abbrev pub with_label : List (Word × ℕ) → Word → ℕ → List (Word × ℕ)
with_label labels name offset = labels ++ (name, offset) ∷ []
