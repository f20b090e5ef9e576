use Rattle.never_cut.proofs.Common.{◌≡◌, take}
use Rattle.never_cut.proofs.kept_outputs.keep_outputs.Given as goal

abbrev pub invariant-loop-output : goal.invariant-loop-output
invariant-loop-output l = l.kept.list.items ≡ take l.output-index l.outputs
