-- The program has no fault.
use Rattle.power_trace.proofs.SoakAccepted.{soak_verdict}
use Rattle.power_trace.proofs.soak_program.soak_program.Goals as goal

pub unreachable-requires : goal.unreachable-requires
unreachable-requires c =
    let ok = soak_verdict c.in_ok-program.program c.no_lines.result c.in_ok-program.ensures in
    cc (ok, c.check.ensures.verdict, c.in-Err.is)
