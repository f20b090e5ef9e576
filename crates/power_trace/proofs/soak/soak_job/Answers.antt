-- The program is accepted, and the parts are those of the generated job.
use Rattle.power_trace.proofs.Common.{refl}
use Rattle.power_trace.proofs.SoakRight.{soak_right}
use Rattle.power_trace.proofs.soak.soak_job.Goals as goal

pub new-requires : goal.new-requires
new-requires c =
    soak_right c.args.number _ (rw (← c.accepted.view_is) c.accepted.invariant) c.in_ok-accepted.ensures c.in_ok-readings.ensures.readings c.in_ok-readings.ensures.charges refl
