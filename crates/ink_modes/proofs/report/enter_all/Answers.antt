use Rattle.ink_modes.proofs.Common.{sym, subst, Program, Model, model_of, HasRoom}
use Rattle.ink_modes.proofs.Charges.{never_refused, one_entered}
use Rattle.ink_modes.proofs.report.enter_all.Goals as goal

pub enter-requires-clause-room : goal.enter-requires-clause-room
enter-requires-clause-room c =
    subst (λ (z : Program × Model). HasRoom z.0 z.1) (λ i. (sym c.accepted.ensures.same i, sym c.loop-entry.invariant i))
    (c.requires.room c.loop-entry.entry-index c.loop-entry-test.true)

pub unreachable-requires : goal.unreachable-requires
unreachable-requires c =
    never_refused c.accepted.result.now c.args.job.now.program c.readings.result.now c.args.job.now.readings (model_of c.args.state.now) (model_of c.loop-entry.state) (model_of c.enter.new.self) c.args.entries.now
    c.loop-entry.entry-index _ _ c.accepted.ensures.same c.readings.ensures.same c.requires.legal c.loop-entry-test.true c.loop-entry.invariant c.in_ok-enter.ensures c.in-Illegal.is

pub loop-entry-preserved : goal.loop-entry-preserved
loop-entry-preserved c =
    one_entered c.accepted.result.now c.args.job.now.program c.readings.result.now c.args.job.now.readings (model_of c.args.state.now) (model_of c.loop-entry.state) (model_of c.enter.new.self) c.args.entries.now
    c.loop-entry.entry-index _ _ c.accepted.ensures.same c.readings.ensures.same c.requires.legal c.loop-entry-test.true c.loop-entry.invariant c.in_ok-enter.ensures c.in-Made.is
