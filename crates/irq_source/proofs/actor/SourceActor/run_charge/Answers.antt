use Rattle.irq_source.proofs.Common.{length, arith, subst, Stands}
use Rattle.irq_source.specs.Acting.{Acting, IsAccounted, knows}
use Rattle.irq_source.proofs.Steps.{actor_accounted}
use Rattle.irq_source.proofs.Runs.{run_none, run_then, run_settles, place_known}
use Rattle.irq_source.proofs.actor.SourceActor.run_charge.Goals as goal

pub loop-steps-init : goal.loop-steps-init
loop-steps-init g c = (c.requires.seat, run_none c.args.self.now (subst IsAccounted c.self.view_is (actor_accounted {pusher = c.self.inside.pusher} {charges = c.self.inside.charges} c.self.invariant)) (subst (λ (a : Acting). Stands a.port (length a.readings) a.place.src (knows a) a.place.row) c.self.view_is c.self.invariant.stands), omega arith)

pub loop-steps-preserved : goal.loop-steps-preserved
loop-steps-preserved g c =
    let run = c.loop-steps.invariant.1 in
    (c.step.ensures.seat, run_then c.step.new.self run c.step.ensures.same.0 c.step.ensures.same.1 c.step.ensures.leads c.step.ensures.added c.step.ensures.settles c.step.ensures.grows c.step.ensures.account c.step.ensures.paces c.step.ensures.stands, omega (arith, c.loop-steps-test.true))

pub returns-after-loop-steps-clause-enough : goal.returns-after-loop-steps-clause-enough
returns-after-loop-steps-clause-enough g c =
    let run = c.loop-steps.invariant.1 in
    run_settles run c.loop-steps.invariant.2 (λ less. absurd (omega (arith, c.loop-steps-test.false)))

pub returns-after-loop-steps-clause-booted : goal.returns-after-loop-steps-clause-booted
returns-after-loop-steps-clause-booted g c = place_known c.loop-steps.invariant.1.stands
