use Rattle.std.proofs.Common.{below_more, sym, ◌∙◌}
use Rattle.old_image.proofs.queues.are_unfinished_before.Goals as goal

pub loop-u-preserved : goal.loop-u-preserved
loop-u-preserved c = below_more _ _ c.loop-u.invariant (sym c.is_old_finished.ensures ∙ c.if-is_old_finished.false)
