-- Which cuts and turns a board can make, and what they take of the clock's and the counts' range.
use Rattle.std.specs.Prelude.{◌≡◌, ℕ, ◌+◌, ◌^◌, ◌<◌, List, [], ◌∷◌, length, take}
use Rattle.ink_base.specs.declared.actor.Actor.{Actor}
use Rattle.ink_base.specs.declared.actor.Actor.TheVariants as actors
use Rattle.prog_check.specs.Accepted.{IsAccepted}
use Rattle.ink_layout.specs.Image.{IsFirstImage}
use Rattle.never_cut.specs.declared.model.Model.{Model}
use Rattle.never_cut.specs.State.{open_model}
use Rattle.never_cut.specs.Finished.{AtMostOneFinished}
use Rattle.never_cut.specs.Within.{AreShort, Lasts}
use Rattle.kernel_core.specs.Board.{Setup, Move, Cut, Turn, moved_by, first_board}
use Rattle.kernel_core.specs.First.{IsSetup, StandsFirst}
use Rattle.kernel_core.specs.Stands.{state, BoardStands}

-- an actor of the board
abbrev pub IsActor : Setup → Actor → Type 0
IsActor s actors.Kernel = Unit {0}
IsActor s (actors.Source i) = i.0 < length s.program.sources
IsActor s actors.Clock = Unit {0}

-- from so many charges that have begun: no more charges than there are begin, and each turn is within one
abbrev pub AreMoves : Setup → (charges begun : ℕ) → List Move → Type 0
AreMoves s charges begun [] = Unit {0}
AreMoves s charges begun (Cut off ∷ moves) = (begun < charges) × AreMoves s charges (begun + 1) moves
AreMoves s charges begun (Turn actor ∷ moves) = (0 < begun) × IsActor s actor × AreMoves s charges begun moves

-- by how many ticks a move puts the clock on at most: those that went by in the dark, and one a turn
abbrev pub ticks_of : Move → ℕ
ticks_of (Cut off) = off
ticks_of (Turn actor) = 1

-- the ticks of all of them
abbrev pub ticks : List Move → ℕ
ticks [] = 0
ticks (m ∷ moves) = ticks_of m + ticks moves

-- how many accesses a move makes at most, a cut's tick aside
abbrev pub turns_of : Move → ℕ
turns_of (Cut off) = 0
turns_of (Turn actor) = 1

-- the turns among them
abbrev pub turns : List Move → ℕ
turns [] = 0
turns (m ∷ moves) = turns_of m + turns moves

-- clock and counts fit their words to the end of what is left
pub record IsInRange (m : Model) (ticks turns : ℕ) : Type 0 where
  pub clock : m.clock + ticks < 2 ^ 47
  pub counts : Lasts turns m

-- From any words that stand for a state at which a run can begin, and whatever order of turns and cuts is listed: after each of them the journal so far is
-- legal, and the words stand for the never-cut kernel after it and are an image.
abbrev pub EveryPrefixStands : Type 0
EveryPrefixStands =
    (s : Setup) (words : List ℕ) (charges : ℕ) (moves : List Move) → IsSetup s → StandsFirst s words → AreMoves s charges 0 moves → IsInRange s.first (ticks moves) (turns moves) →
    (n : ℕ) → BoardStands s (moved_by s (first_board s words charges) (take n moves))

-- an accepted program, readings within the limits, and the first image with its state
pub record BeginsAtImage (s : Setup) (words : List ℕ) : Type 0 where
  pub accepted : IsAccepted s.program
  pub short : AreShort s.readings
  pub first : s.first ≡ open_model s.program
  pub image : IsFirstImage s.program words

-- so it is from the first image on
abbrev pub ImagePrefixesStand : Type 0
ImagePrefixesStand =
    (s : Setup) (words : List ℕ) (charges : ℕ) (moves : List Move) → BeginsAtImage s words → AreMoves s charges 0 moves → ticks moves < 2 ^ 47 → turns moves + 1 < 2 ^ 32 →
    (n : ℕ) → BoardStands s (moved_by s (first_board s words charges) (take n moves))

-- and at most one thread has a finished event after each of them
abbrev pub OneIsFinished : Type 0
OneIsFinished =
    (s : Setup) (words : List ℕ) (charges : ℕ) (moves : List Move) → IsSetup s → StandsFirst s words → AreMoves s charges 0 moves → IsInRange s.first (ticks moves) (turns moves) →
    (n : ℕ) → AtMostOneFinished s.program (state s (moved_by s (first_board s words charges) (take n moves)))
