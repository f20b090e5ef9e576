use Rattle.ink_radio.proofs.Common.{◌≡◌, take}
use Rattle.ink_radio.specs.Radio.{played}
use Rattle.ink_radio.proofs.playing.radio.Given as goal

abbrev pub invariant-loop-event : goal.invariant-loop-event
invariant-loop-event l = l.state ≡ played l.outputs (take l.event-index l.script)
