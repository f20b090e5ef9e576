use Rattle.std.proofs.Common.{◌≤◌, ◌-◌}
use Rattle.event_queue.specs.Seats.{IsSeatOf}
use Rattle.irq_source.specs.kept.Runs.{HasRun}
use Rattle.irq_source.proofs.actor.SourceActor.run_charge.Given as goal

abbrev pub invariant-loop-steps : goal.invariant-loop-steps
invariant-loop-steps g l = IsSeatOf l.set l.self.seat × HasRun l.initial.self l.self l.steps × (l.steps ≤ l.budget)

abbrev pub decreases-loop-steps : goal.decreases-loop-steps
decreases-loop-steps g l = l.budget - l.steps
