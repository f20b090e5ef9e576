use Rattle.std.proofs.Common.{eqb-true, sym, subst, ◌∙◌, ap}
use Rattle.fram_words.specs.Held.{origin_word}
use Rattle.fram_words.specs.Places.{Memory}
use Rattle.never_cut.specs.Image.{IsChainOrigin}
use Rattle.image_checks.specs.Board.{board}
use Rattle.image_checks.proofs.Origins.{own_bits}
use Rattle.image_checks.proofs.chains.is_chain_word.Goals as goal

pub returns-then-origin_word-word : goal.returns-then-origin_word-word
returns-then-origin_word-word c =
    let words : Memory = board c.args.plan.now.accepted c.args.words.now in (
      λ right. (c.read_origin-origin.result, sym c.if-origin_word-word.true ∙ c.origin_word.ensures, c.is_chain_origin.ensures.0 right),
      λ has.
          let same = c.read_origin-origin.ensures.back has.0 (own_bits c.args.plan.now.accepted c.args.thread.0 c.program-program.ensures.accepted has.0 has.2.0) has.1 in
          c.is_chain_origin.ensures.1 (subst (IsChainOrigin c.args.plan.now.accepted words c.args.thread.0) (sym same) has.2),
    )

pub returns-else-origin_word-word : goal.returns-else-origin_word-word
returns-else-origin_word-word c = (
  λ right. absurd (c.if-origin_word-word.false (eqb-true _ _ right)),
  λ has.
      let same = c.read_origin-origin.ensures.back has.0 (own_bits c.args.plan.now.accepted c.args.thread.0 c.program-program.ensures.accepted has.0 has.2.0) has.1 in
      absurd (c.if-origin_word-word.false (c.origin_word.ensures ∙ (ap origin_word same ∙ sym has.1))),
)
