use Rattle.old_image.proofs.Common.{◌≡◌, ◌/◌, ◌^◌, ap, ◌∙◌}
use Rattle.image_checks.specs.Board.{board}
use Rattle.old_image.proofs.Checks.{source_chain}
use Rattle.old_image.proofs.blocks.is_source_origin.Goals as goal

pub is_source_word-requires : goal.is_source_word-requires
is_source_word-requires c = ap (λ n. n / 2 ^ 56) c.header_word-word.ensures ∙ c.requires.chain.of_source

pub returns : goal.returns
returns c =
    source_chain c.args.plan.now.accepted (board c.args.plan.now.accepted c.args.words.now) c.args.thread.0 c.header_word-word.result c.program-program.ensures.accepted
    c.requires.chain c.header_word-word.ensures c.is_source_word.ensures
