use Rattle.never_cut.proofs.Common.{sym, subst, IsAccepted, model_of, CanStart}
use Rattle.never_cut.specs.Replay.{TellsEntry}
use Rattle.never_cut.proofs.Replays.{replays_none, replays_more, replayed}
use Rattle.never_cut.proofs.Settled.{readings_in_order}
use Rattle.never_cut.proofs.Served.{sound_turns, each_event_once}
use Rattle.never_cut.proofs.ThreadStates.{states_by_commits}
use Rattle.never_cut.proofs.Stamped.{stamps_by_commits}
use Rattle.never_cut.proofs.journal.replay_on.Goals as goal

pub loop-n-init : goal.loop-n-init
loop-n-init c =
    replays_none c.program-program.result.now c.args.readings.now (model_of c.args.first) c.args.entries.now c.requires.readings.few
    (subst (λ p. CanStart p c.args.readings.now (model_of c.args.first)) (sym c.program-program.ensures.same) c.requires.start)

pub loop-n-preserved : goal.loop-n-preserved
loop-n-preserved c =
    let accepted : IsAccepted c.program-program.result.now = subst IsAccepted (sym c.program-program.ensures.same) c.program-program.ensures.accepted in
    let told = subst (TellsEntry c.program-program.result.now c.args.readings.now (model_of c.loop-n.state) _ (model_of c.step.new.self)) c.in-Made.is c.in_ok-step.ensures in
    replays_more c.program-program.result.now c.args.readings.now (model_of c.args.first) c.args.entries.now c.loop-n.n (model_of c.loop-n.state) (model_of c.step.new.self) _ accepted
    c.requires.readings.few c.requires.few c.loop-n.invariant c.loop-n-test.true told.0 told.1

pub returns-clause-in_order : goal.returns-clause-in_order
returns-clause-in_order c =
    readings_in_order c.args.program.now c.args.readings.now (model_of c.args.first) c.args.entries.now c.requires.start.sound.shape.sources
    (replayed c.program-program.result.now c.args.program.now c.args.readings.now (model_of c.args.first) c.args.entries.now c.loop-n.n (model_of c.loop-n.state) c.program-program.ensures.same c.loop-n.invariant c.loop-n-test.false)

pub returns-clause-each_once : goal.returns-clause-each_once
returns-clause-each_once c =
    each_event_once c.args.program.now c.args.readings.now (model_of c.args.first) c.args.entries.now
    (sound_turns c.args.program.now c.args.readings.now (model_of c.args.first) c.requires.start.sound)
    (replayed c.program-program.result.now c.args.program.now c.args.readings.now (model_of c.args.first) c.args.entries.now c.loop-n.n (model_of c.loop-n.state) c.program-program.ensures.same c.loop-n.invariant c.loop-n-test.false)

pub returns-clause-stamps : goal.returns-clause-stamps
returns-clause-stamps c =
    stamps_by_commits c.args.program.now c.args.readings.now (model_of c.args.first) c.args.entries.now c.requires.start.sound.stamps
    (replayed c.program-program.result.now c.args.program.now c.args.readings.now (model_of c.args.first) c.args.entries.now c.loop-n.n (model_of c.loop-n.state) c.program-program.ensures.same c.loop-n.invariant c.loop-n-test.false)

pub returns-clause-states : goal.returns-clause-states
returns-clause-states c = states_by_commits c.args.program.now c.args.readings.now (model_of c.args.first) c.args.entries.now c.requires.start.sound.shape.threads
