use Rattle.power_trace.proofs.Common.{◌≡◌, drop, words_of, words_in, value_in}
use Rattle.power_trace.proofs.readings.read_values.Given as goal

abbrev pub invariant-loop-token : goal.invariant-loop-token
invariant-loop-token l = words_in value_in l.values (words_of l.text (drop l.token-index l.words)) ≡ words_in value_in l.fn.values (words_of l.text l.words)
