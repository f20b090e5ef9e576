-- The words of a command.
use Rattle.std.specs.Prelude.{◌≡◌, ℕ, ◌^◌, Bool, true, false, List, [], ◌∷◌, ◌++◌, filter, length, take, drop, map, Option, Some, None, codes, nat_lt, if◌then◌else◌}
use Rattle.std.specs.List.{filter_map, cons_option}
use Rattle.std.specs.Str.{bytes_eq}
use Rattle.std.specs.Option.{option_map}
use Rattle.ink_base.specs.Lines.{Word}
use Rattle.ink_base.specs.Numbers.{number_said}
use Rattle.ink_modes.specs.declared.modes.Mode.{Mode}
use Rattle.ink_modes.specs.declared.words.Piece.{Piece}
use Rattle.ink_modes.specs.declared.words.Piece.TheVariants.{Named, Journal, Json, Bounds, Image, Seed}
use Rattle.ink_modes.specs.declared.command.Command.{Command}
use Rattle.ink_modes.specs.Form.{IsAllowed}
use Rattle.ink_modes.specs.modes.{form_of, mode_named}

-- the words in pieces: `--seed` and the word behind it are one, `--seed=N`
abbrev pub pieces : List Word → List Word
pieces [] = []
pieces (word ∷ []) = word ∷ []
pieces (word ∷ next ∷ rest) = if bytes_eq word (codes "--seed") then (codes "--seed=" ++ next) ∷ pieces rest else word ∷ pieces (next ∷ rest)

-- the rest of a word with this beginning
abbrev pub behind : Word → Word → Option Word
behind start word = if bytes_eq (take (length start) word) start then Some (drop (length start) word) else None

-- a number below 2^32
abbrev pub below_32_bits : Option ℕ → Option ℕ
below_32_bits None = None
below_32_bits (Some n) = if nat_lt n (2 ^ 32) then Some n else None

-- a number of 1 to 10 digits below 2^32
abbrev pub seed_said : Word → Option ℕ
seed_said word = below_32_bits (number_said word)

-- what a piece says that is no flag's word: a seed, or the name of a mode
abbrev pub seed_or_mode : Option Word → Word → Option Piece
seed_or_mode (Some digits) word = option_map Seed (seed_said digits)
seed_or_mode None word = option_map Named (mode_named word)

-- what a piece says: the name of a mode, a flag, or a seed
abbrev pub piece_said : Word → Option Piece
piece_said word =
    if bytes_eq word (codes "--journal") then Some Journal
    else (if bytes_eq word (codes "--json") then Some Json
    else (if bytes_eq word (codes "--bounds") then Some Bounds
    else (if bytes_eq word (codes "--image") then Some Image
    else seed_or_mode (behind (codes "--seed=") word) word)))

-- the mode that a piece names
abbrev pub named_in : Piece → Option Mode
named_in (Named mode) = Some mode
named_in _ = None

-- the seed that it gives
abbrev pub seed_in : Piece → Option ℕ
seed_in (Seed number) = Some number
seed_in _ = None

-- whether it is `--journal`
abbrev pub is_journal : Piece → Bool
is_journal Journal = true
is_journal _ = false

-- whether it is `--json`
abbrev pub is_json : Piece → Bool
is_json Json = true
is_json _ = false

-- whether it is `--bounds`
abbrev pub is_bounds : Piece → Bool
is_bounds Bounds = true
is_bounds _ = false

-- whether it is `--image`
abbrev pub is_image : Piece → Bool
is_image Image = true
is_image _ = false

-- the piece once, or not at all
abbrev pub once : Bool → Piece → List Piece
once given piece = if given then piece ∷ [] else []

-- The words are the command's, in some order: each of their pieces says something; one names the command's mode; each flag that the command
-- has is there once, and no other; and the mode allows them.
pub record IsCommand (words : List Word) (command : Command) : Type 0 where
  pub parts : List Piece
  pub said : map piece_said (pieces words) ≡ map Some parts
  pub mode : filter_map named_in parts ≡ command.mode ∷ []
  pub seed : filter_map seed_in parts ≡ cons_option command.flags.seed []
  pub journal : filter is_journal parts ≡ once command.flags.journal Journal
  pub json : filter is_json parts ≡ once command.flags.json Json
  pub bounds : filter is_bounds parts ≡ once command.flags.bounds Bounds
  pub image : filter is_image parts ≡ once command.flags.image Image
  pub allowed : IsAllowed (form_of command.mode).allowed command.flags
