use Rattle.power_trace.proofs.Common.{◌≡◌, state_after, draws}
use Rattle.power_trace.proofs.generator.drawn_readings.Given as goal

abbrev pub invariant-loop-i : goal.invariant-loop-i
invariant-loop-i l = record {
  state : l.generator.state ≡ state_after l.initial.generator.state l._i;
  values : l.values ≡ draws l.initial.generator.state 0 l._i;
}
