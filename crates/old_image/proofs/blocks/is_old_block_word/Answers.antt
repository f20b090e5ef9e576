use Rattle.old_image.proofs.Common.{◌≡◌, ◌≢◌, ◌∙◌, ◌↔◌, IsTrue, sym, subst, ℕ, false, true, Memory, IsOldBlockWord, HasSourceChain}
use Rattle.fram_words.specs.Header as header
use Rattle.image_checks.specs.Board.{board}
use Rattle.old_image.proofs.Checks.{other_word, other_chain}
use Rattle.old_image.proofs.blocks.is_old_block_word.Goals as goal

pub returns-then-word-origin : goal.returns-then-word-origin
returns-then-word-origin c =
    other_word c.args.plan.now.accepted (board c.args.plan.now.accepted c.args.words.now) c.args.thread.0 c.args.word
    (λ e. c.if-word-origin.true (e ∙ sym c.word-origin.ensures.number)) c.is_block_word.ensures

pub is_source_origin-requires-clause-chain : goal.is_source_origin-requires-clause-chain
is_source_origin-requires-clause-chain c = c.has_source_chain.ensures.0 c.if-not-has_source_chain.false

pub returns-then-not-has_source_chain : goal.returns-then-not-has_source_chain
returns-then-not-has_source_chain c =
    let none : ¬ HasSourceChain (board c.args.plan.now.accepted c.args.words.now) c.args.thread.0 =
    λ chain. absurd (let clash : false ≡ true = sym c.if-not-has_source_chain.true ∙ c.has_source_chain.ensures.1 chain in cc) in
    other_chain c.args.plan.now.accepted (board c.args.plan.now.accepted c.args.words.now) c.args.thread.0 c.args.word c.program-program.ensures.accepted
    (c.if-word-origin.false ∙ c.word-origin.ensures.number) none c.is_block_word-then-not-has_source_chain.ensures

pub returns : goal.returns
returns c =
    let words : Memory = board c.args.plan.now.accepted c.args.words.now in
    let at : c.args.word ≡ header.origin = c.if-word-origin.false ∙ c.word-origin.ensures.number in
    subst (λ (n : ℕ). IsTrue c.is_source_origin.result ↔ IsOldBlockWord c.args.plan.now.accepted words c.args.thread.0 n) (sym at) c.is_source_origin.ensures
