use Rattle.ink_modes.proofs.Common.{◌≡◌, take, length, flat_map, summary_of, entries_of}
use Rattle.ink_modes.proofs.report.summary_after.Given as goal

abbrev pub invariant-loop-charge : goal.invariant-loop-charge
invariant-loop-charge l =
    l.summary ≡ summary_of l.job.program l.model (flat_map entries_of (take l.charge-index l.charges)) (length l.job.charges)
