use Rattle.std.proofs.Common.{◌≡◌, take}
use Rattle.job_parts.proofs.copying.copied_readings.Given as goal

abbrev pub invariant-loop-values : goal.invariant-loop-values
invariant-loop-values l = l.copy ≡ take l.values-index l.readings
