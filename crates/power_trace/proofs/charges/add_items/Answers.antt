use Rattle.power_trace.proofs.Common.{arith, item_in, word_more, word_fails, words_end}
use Rattle.power_trace.proofs.charges.add_items.Goals as goal

pub returns-in-Err : goal.returns-in-Err
returns-in-Err c =
    word_fails (item_in c.args.sources) c.loop-token.so_far c.args.text.now c.args.words.now c.loop-token.token-index c.in-Err.e _ (omega arith)
    (rw (← c.word.ensures) c.in-Err.ensures) c.loop-token.invariant

pub loop-token-preserved : goal.loop-token-preserved
loop-token-preserved c =
    word_more (item_in c.args.sources) c.loop-token.so_far c.args.text.now c.args.words.now c.loop-token.token-index c.add_item.new.so_far _ (omega arith)
    (rw (← c.word.ensures) c.in_default.ensures) c.loop-token.invariant

pub returns : goal.returns
returns c = words_end (item_in c.args.sources) c.loop-token.so_far c.args.text.now c.args.words.now c.loop-token.token-index _ (omega arith) c.loop-token.invariant
