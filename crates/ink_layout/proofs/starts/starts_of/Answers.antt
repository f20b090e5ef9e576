-- A region ends within all words, and its start is the end of those before.
use Rattle.ink_layout.proofs.Common.{arith}
use Rattle.ink_layout.proofs.Lengths.{within_all, before_more}
use Rattle.ink_layout.proofs.starts.starts_of.Goals as goal

pub overflow_add-at : goal.overflow_add-at
overflow_add-at c =
    let h = within_all c.args.lengths.now c.loop-length.length-index (omega arith) in
    omega (arith, h, c.loop-length.invariant.end, c.requires)

pub loop-length-preserved : goal.loop-length-preserved
loop-length-preserved c =
    rw c.in_ok-push.ensures.items (before_more _ _ _ _ c.loop-length.invariant)
