use Rattle.std.proofs.Common.{◌+◌, ◌-◌, ◌≤◌, ◌≡◌, length}
use Rattle.ink_io.specs.Whole.{Took}
use Rattle.ink_io.proofs.whole.read_job.Given as goal
use Rattle.ink_base.specs.declared.limits.TheConstants as limits

abbrev pub invariant-loop-piece : goal.invariant-loop-piece
invariant-loop-piece g l =
    (length l.job.items ≤ limits.TEXT_BYTES + 1)
    × Took (g.S.Source.state l.fn.source) (g.S.Source.state l.source) l.job.items
    × ((g.S.Source.state l.source).faults ≡ (g.S.Source.state l.fn.source).faults)
    × (length l.piece ≡ 4096)

abbrev pub decreases-loop-piece : goal.decreases-loop-piece
decreases-loop-piece g l = (limits.TEXT_BYTES + 1) - length l.job.items
