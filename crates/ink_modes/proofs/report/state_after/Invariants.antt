use Rattle.ink_modes.proofs.Common.{◌≡◌, take, flat_map, first_of, after, model_of, entries_of}
use Rattle.ink_modes.proofs.report.state_after.Given as goal

abbrev pub invariant-loop-charge : goal.invariant-loop-charge
invariant-loop-charge l =
    model_of l.state ≡ after l.job.program l.job.readings (first_of l.job) (flat_map entries_of (take l.charge-index l.charges))
