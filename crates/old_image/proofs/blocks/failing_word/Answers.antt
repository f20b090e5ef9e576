use Rattle.std.proofs.Common.{below_more}
use Rattle.image_checks.proofs.Tests.{granted}
use Rattle.old_image.proofs.blocks.failing_word.Goals as goal

pub loop-word-preserved : goal.loop-word-preserved
loop-word-preserved c = below_more _ _ c.loop-word.invariant (granted c.if-not-is_old_block_word.ensures)
