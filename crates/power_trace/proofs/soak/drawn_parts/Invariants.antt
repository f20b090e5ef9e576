use Rattle.power_trace.proofs.Common.{◌≡◌, ◌+◌, ◌*◌, state_after, drawn_charges}
use Rattle.power_trace.proofs.soak.drawn_parts.Given as goal

abbrev pub invariant-loop-i : goal.invariant-loop-i
invariant-loop-i l = record {
  state : l.generator.state ≡ state_after l.fn.number (1000 + 5 * l._i);
  charges : l.charges ≡ drawn_charges l.fn.number l._i;
}
