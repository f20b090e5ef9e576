-- What holds of a board after every turn and every cut.
use Rattle.fram_words.specs.Places.{Memory}
use Rattle.fram_words.specs.Shape.{memory_of}
use Rattle.never_cut.specs.declared.model.Model.{Model}
use Rattle.never_cut.specs.Journal.{after, IsLegal}
use Rattle.never_cut.specs.Stands.{Stands}
use Rattle.never_cut.specs.Image.{IsImage}
use Rattle.kernel_core.specs.Board.{Setup, Board, shape, journal}

-- the board's words, by place
abbrev pub memory : Setup → Board → Memory
memory s b = memory_of (shape s) b.words

-- the state that the board stands for
abbrev pub state : Setup → Board → Model
state s b = after s.program s.readings s.first (journal b)

-- the journal so far is legal, and the words stand for the never-cut kernel after it and are an image of its program
pub record BoardStands (s : Setup) (b : Board) : Type 0 where
  pub legal : IsLegal s.program s.readings s.first (journal b)
  pub stands : Stands (memory s b) s.program (state s b)
  pub image : IsImage s.program (memory s b)
