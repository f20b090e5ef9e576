-- With what a run can begin.
use Rattle.std.specs.Prelude.{◌≡◌, ℕ, List, length}
use Rattle.fram_words.specs.Places.{Clock}
use Rattle.fram_words.specs.Shape.{memory_of}
use Rattle.ink_layout.specs.Shape.{words_of}
use Rattle.prog_check.specs.Accepted.{IsAccepted}
use Rattle.push_core.specs.Table.{first_row}
use Rattle.source_laws.specs.Steps.{IsStart}
use Rattle.never_cut.specs.Stands.{StandsPrivate}
use Rattle.never_cut.specs.Start.{CanStart}
use Rattle.never_cut.specs.Within.{AreShort}
use Rattle.kernel_core.specs.Board.{Setup, shape, sides}
use Rattle.kernel_core.specs.Views.{seen}

-- an accepted program, with readings within the limits, and a state at which a run of it can begin
pub record IsSetup (s : Setup) : Type 0 where
  pub accepted : IsAccepted s.program
  pub short : AreShort s.readings
  pub start : CanStart s.program s.readings s.first

-- words that stand for the state at which the run begins
pub record StandsFirst (s : Setup) (words : List ℕ) : Type 0 where
  pub count : length words ≡ words_of (shape s)
  pub private : StandsPrivate (memory_of (shape s) words) s.program s.first
  pub clock : memory_of (shape s) words Clock ≡ s.first.clock
  pub sources : IsStart (sides s) (seen (memory_of (shape s) words) s.first (λ i. first_row))
