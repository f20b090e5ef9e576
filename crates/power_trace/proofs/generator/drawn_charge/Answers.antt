-- Each draw goes on from the one before.
use Rattle.power_trace.specs.Soak.{state_after}
use Rattle.power_trace.proofs.generator.drawn_charge.Goals as goal

pub returns-clause-state : goal.returns-clause-state
unfolding state_after
returns-clause-state c = cc

pub returns-clause-charge : goal.returns-clause-charge
unfolding state_after
returns-clause-charge c = cc (c.as_slice.ensures, c.in_ok-from_slice.ensures)
