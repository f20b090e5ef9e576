-- The labels of a task as the code keeps them: in the order of their names, each with its place in the order of their lines.
use Rattle.std.specs.Prelude.{◌≡◌, ℕ, ◌<◌, List, [], ◌∷◌, length, map, nat_lt, if◌then◌else◌}
use Rattle.std.specs.Option.{option_map}
use Rattle.std.specs.Str.{bytes_eq}
use Rattle.std.specs.Map.{lookup}
use Rattle.ink_base.specs.Lines.{Word}
use Rattle.task_lines.specs.Labels.{offset_of}
use Rattle.task_lines.specs.declared.labels.Label.{Label}

-- entries with the bytes of their keys
abbrev pub seen : {K X : Type 0} → (K → List ℕ) → List (K × X) → List (List ℕ × X)
seen bytes es = map (λ e. (bytes e.0, e.1)) es

-- a label among labels in the order of their places
abbrev pub put : Word × Label → List (Word × Label) → List (Word × Label)
put e [] = e ∷ []
put e (f ∷ es) = if nat_lt e.1.place f.1.place then e ∷ f ∷ es else f ∷ put e es

-- the labels in the order of their places
abbrev pub by_place : List (Word × Label) → List (Word × Label)
by_place [] = []
by_place (e ∷ es) = put e (by_place es)

-- the labels in the order of their lines
abbrev pub listed : List (Word × Label) → List (Word × ℕ)
listed es = map (λ e. (e.0, e.1.offset)) (by_place es)

-- each place is below a number
abbrev pub ArePlaced : ℕ → List (Word × Label) → Type 0
ArePlaced n [] = Unit {0}
ArePlaced n (e ∷ es) = (e.1.place < n) × ArePlaced n es

-- each place is one of a label, and the map and the list find the same offsets
pub record AreKept (es : List (Word × Label)) : Type 0 where
  pub placed : ArePlaced (length es) es
  pub agree : (name : Word) → offset_of (listed es) name ≡ option_map (λ l. l.offset) (lookup (bytes_eq name) es)
