use Rattle.std.proofs.Common.{below_more, sym, ◌∙◌}
use Rattle.image_checks.proofs.queues.are_unfinished_before.Goals as goal

pub loop-u-preserved : goal.loop-u-preserved
loop-u-preserved c = below_more _ _ c.loop-u.invariant (sym c.is_finished.ensures ∙ c.if-is_finished.false)
