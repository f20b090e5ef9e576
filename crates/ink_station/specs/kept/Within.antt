-- Where a part stands in its text.
use Rattle.std.specs.Prelude.{ℕ, ◌<◌, ◌≤◌, ◌-◌, List, length}
use Rattle.ink_base.specs.Lines.{lines}
use Rattle.ink_station.specs.declared.parts.Part.{Part}

-- its header is one of the text's lines, and its stop a later one or the one behind the last
pub record IsWithin (text : List ℕ) (part : Part) : Type 0 where
  pub above : part.header < part.stop
  pub last : part.stop - 1 ≤ length (lines text)
