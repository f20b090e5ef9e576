use Rattle.ink_modes.proofs.Common.{◌≡◌, take, after, model_of}
use Rattle.ink_modes.proofs.report.enter_all.Given as goal

abbrev pub invariant-loop-entry : goal.invariant-loop-entry
invariant-loop-entry l = model_of l.state ≡ after l.job.program l.job.readings (model_of l.fn.state) (take l.entry-index l.entries)
