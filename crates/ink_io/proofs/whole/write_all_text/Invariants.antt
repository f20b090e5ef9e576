use Rattle.std.proofs.Common.{◌-◌, ◌≤◌, length, take}
use Rattle.ink_io.specs.Whole.{WroteText}
use Rattle.ink_io.proofs.whole.write_all_text.Given as goal

abbrev pub invariant-loop-at : goal.invariant-loop-at
invariant-loop-at g l =
    (l.at ≤ length l.text)
    × WroteText (g.K.Sink.state l.fn.sink) (g.K.Sink.state l.sink) (take l.at l.text)

abbrev pub decreases-loop-at : goal.decreases-loop-at
decreases-loop-at g l = length l.text - l.at
