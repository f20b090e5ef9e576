use Rattle.std.proofs.Common.{◌≡◌, take, drop}
use Rattle.job_parts.specs.Job.{charge_turns}
use Rattle.cut_sweep.specs.Limit.{line_past}
use Rattle.cut_sweep.proofs.limit.line_past.Given as goal

abbrev pub invariant-loop-n : goal.invariant-loop-n
invariant-loop-n l =
    (l.turns ≡ charge_turns (take l.n l.charges)) × (line_past 0 l.charges l.lines ≡ line_past l.turns (drop l.n l.charges) (drop l.n l.lines))
