use Rattle.ink_image.proofs.Common.{sym, ◌∙◌, arith}
use Rattle.ink_image.proofs.Sections.{onto_fails, word_read, word_fails, line_over}
use Rattle.ink_image.proofs.reading.read_line.Goals as goal

pub returns-in-None : goal.returns-in-None
returns-in-None c =
    onto_fails c.args.words.now.items _ c.args.line
    (sym c.loop-token.invariant
    ∙ word_fails c.args.text.now c.args.line c.loop-token.token-index c.args.tokens.now _ c.word.result.now c.loop-token.words.items (omega arith) c.word.ensures (sym c.in-None.ensures))

pub loop-token-preserved : goal.loop-token-preserved
loop-token-preserved c =
    word_read c.args.text.now c.args.line c.loop-token.token-index c.in-Some.number c.args.tokens.now _ c.word.result.now c.loop-token.words.items c.push.new.self.items
    (omega arith) c.word.ensures (sym c.in-Some.ensures) c.in_ok-push-in-Some.ensures.items
    ∙ c.loop-token.invariant

pub returns : goal.returns
returns c =
    sym c.loop-token.invariant ∙ line_over c.args.text.now c.args.line c.loop-token.token-index c.args.tokens.now c.loop-token.words.items (omega arith)
