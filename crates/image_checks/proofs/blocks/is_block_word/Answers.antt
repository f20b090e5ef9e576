use Rattle.std.proofs.Common.{sym, subst}
use Rattle.fram_words.specs.Places.{Memory}
use Rattle.never_cut.specs.Image.{IsBlockWord}
use Rattle.image_checks.specs.Board.{board}
use Rattle.image_checks.proofs.HeaderWords.{from_header, to_header, from_behind, to_behind}
use Rattle.image_checks.proofs.blocks.is_block_word.Goals as goal

pub returns-in-Some : goal.returns-in-Some
returns-in-Some c =
    let words : Memory = board c.args.plan.now.accepted c.args.words.now in
    let known = c.in-Some.ensures.some.0 in
    let at = c.in-Some.ensures.some.1 in (
      λ right. subst (IsBlockWord c.args.plan.now.accepted words c.args.thread.0) at
          (from_header c.args.plan.now.accepted words c.args.thread.0 c.in-Some.header known (c.is_header_word.ensures.0 right)),
      λ block. c.is_header_word.ensures.1 (to_header c.args.plan.now.accepted words c.args.thread.0 c.in-Some.header known
          (subst (IsBlockWord c.args.plan.now.accepted words c.args.thread.0) (sym at) block)),
    )

pub returns-in-None : goal.returns-in-None
returns-in-None c =
    let words : Memory = board c.args.plan.now.accepted c.args.words.now in
    let behind = c.in-None.ensures.none in (
      λ right. from_behind c.args.plan.now.accepted words c.args.thread.0 c.args.word behind (c.is_behind_word.ensures.0 right),
      λ block. c.is_behind_word.ensures.1 (to_behind c.args.plan.now.accepted words c.args.thread.0 c.args.word behind block),
    )
