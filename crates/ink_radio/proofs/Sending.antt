-- An event sends at most one packet, so a script sends at most as many as it has events.
use Rattle.ink_radio.proofs.Common.{◌+◌, ◌≤◌, Bool, true, false, cond, eqb, List, [], ◌∷◌, ◌++◌, length, fold, slice_get, Option, Some, None, arith}
use Rattle.std.proofs.lemmas.List.{length_push}
use Rattle.ink_base.specs.declared.output.Output.{Output}
use Rattle.ink_radio.specs.declared.packet.Packet.{Packet}
use Rattle.ink_radio.specs.declared.packet.Packet.TheVariants.{Data, Ack}
use Rattle.ink_radio.specs.declared.event.RadioEvent.{RadioEvent}
use Rattle.ink_radio.specs.declared.event.RadioEvent.TheVariants.{Grow, Send, Rewind, NodeCut, ToBase, ToNode, Save, BaseCut}
use Rattle.ink_radio.specs.declared.state.RadioState.{RadioState}
use Rattle.ink_radio.specs.Radio.{quiet, next_output, after_send, at_base, at_node, after_event, played}

sent_by : (s : RadioState) (next : Option Output) → length (after_send s next).air ≤ length s.air + 1
sent_by s None = omega arith
sent_by s (Some output) = omega (arith, length_push s.air (Data s.cursor output))

taken_by : (s : RadioState) (output : Output) (follows : Bool) → length (cond follows (record s { fresh = s.fresh ++ output ∷ [] }) s).air ≤ length s.air + 1
taken_by s output true = omega arith
taken_by s output false = omega arith

base_sends : (s : RadioState) (packet : Option Packet) → length (at_base s packet).air ≤ length s.air + 1
base_sends s None = omega arith
base_sends s (Some (Ack count)) = omega arith
base_sends s (Some (Data number output)) = taken_by s output (eqb number (length s.saved + length s.fresh))

node_sends : (s : RadioState) (packet : Option Packet) → length (at_node s packet).air ≤ length s.air + 1
node_sends s None = omega arith
node_sends s (Some (Ack count)) = omega arith
node_sends s (Some (Data number output)) = omega arith

event_sends : (outputs : List Output) (s : RadioState) (event : RadioEvent) → length (after_event outputs s event).air ≤ length s.air + 1
event_sends outputs s (Grow count) = omega arith
event_sends outputs s Send = sent_by s (next_output outputs s)
event_sends outputs s Rewind = omega arith
event_sends outputs s NodeCut = omega arith
event_sends outputs s (ToBase number) = base_sends s (slice_get s.air number)
event_sends outputs s (ToNode number) = node_sends s (slice_get s.air number)
event_sends outputs s Save = omega (arith, length_push s.air (Ack (length s.saved + length s.fresh)))
event_sends outputs s BaseCut = omega arith

from_sends : (outputs : List Output) (s : RadioState) (script : List RadioEvent) → length (fold (after_event outputs) s script).air ≤ length s.air + length script
from_sends outputs s [] = omega arith
from_sends outputs s (event ∷ script) = omega (arith, from_sends outputs (after_event outputs s event) script, event_sends outputs s event)

pub played_sends : (outputs : List Output) (script : List RadioEvent) → length (played outputs script).air ≤ length script
played_sends outputs script = omega (arith, from_sends outputs quiet script)
