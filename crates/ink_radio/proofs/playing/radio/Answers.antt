use Rattle.ink_radio.proofs.Common.{take, arith}
use Rattle.std.proofs.lemmas.List.{length-take}
use Rattle.ink_radio.proofs.Reaching.{every_prefix, played_reaches}
use Rattle.ink_radio.proofs.Sending.{played_sends}
use Rattle.ink_radio.proofs.playing.radio.Goals as goal

pub happen-requires-clause-reached : goal.happen-requires-clause-reached
happen-requires-clause-reached c = rw c.loop-event.invariant (played_reaches c.args.outputs.now (take c.loop-event.event-index c.args.script.now))

pub into_record-requires : goal.into_record-requires
into_record-requires c =
    let script = take c.loop-event.event-index c.args.script.now in
    rw c.loop-event.invariant (omega (arith, played_sends c.args.outputs.now script, length-take c.loop-event.event-index c.args.script.now, c.requires.script))

pub returns-in_err-happen-clause-kept : goal.returns-in_err-happen-clause-kept
returns-in_err-happen-clause-kept c = every_prefix c.args.outputs.now c.args.script.now

pub returns-clause-kept : goal.returns-clause-kept
returns-clause-kept c = every_prefix c.args.outputs.now c.args.script.now
