-- One more draw.
use Rattle.power_trace.proofs.Common.{refl, ◌∙◌}
use Rattle.power_trace.specs.Soak.{state_after, draws}
use Rattle.power_trace.proofs.Drawn.{state_next, draws_more}
use Rattle.power_trace.proofs.generator.drawn_readings.Goals as goal

pub loop-i-init : goal.loop-i-init
unfolding state_after draws
loop-i-init c = record { state = refl; values = c.new-values.ensures }

pub loop-i-preserved : goal.loop-i-preserved
loop-i-preserved c =
    let before = c.loop-i.invariant.state in
    record {
      state = state_next _ _ _ c.loop-i._i before c.draw.ensures.state;
      values = c.in_ok-push.ensures.ok ∙ draws_more _ _ _ c.loop-i._i _ before c.draw.ensures.drawn c.loop-i.invariant.values;
    }
