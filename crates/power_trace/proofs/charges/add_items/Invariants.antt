use Rattle.power_trace.proofs.Common.{◌≡◌, drop, words_of, words_in, item_in}
use Rattle.power_trace.proofs.charges.add_items.Given as goal

abbrev pub invariant-loop-token : goal.invariant-loop-token
invariant-loop-token l = words_in (item_in l.sources) l.so_far (words_of l.text (drop l.token-index l.words)) ≡ words_in (item_in l.sources) l.fn.so_far (words_of l.text l.words)
