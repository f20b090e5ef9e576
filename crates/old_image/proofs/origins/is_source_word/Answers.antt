use Rattle.std.proofs.Common.{le-ltb}
use Rattle.old_image.proofs.Common.{◌%◌, ◌/◌, ◌^◌, refl}
use Rattle.old_image.proofs.Checks.{no_source_word, source_word}
use Rattle.old_image.proofs.origins.is_source_word.Goals as goal

pub returns-then-number-lt256 : goal.returns-then-number-lt256
returns-then-number-lt256 c =
    source_word c.args.plan.now.accepted c.args.thread.0 c.args.word (c.args.word % 2 ^ 56 / 2 ^ 16) c.program-program.ensures.accepted c.requires refl c.feeds.ensures

pub returns-else-number-lt256 : goal.returns-else-number-lt256
returns-else-number-lt256 c =
    no_source_word c.args.plan.now.accepted c.args.thread.0 c.args.word (c.args.word % 2 ^ 56 / 2 ^ 16) c.program-program.ensures.accepted c.requires refl c.if-number-lt256.false (le-ltb _ _ c.if-number-lt256.false)
