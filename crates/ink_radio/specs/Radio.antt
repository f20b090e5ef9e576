-- A node and a base over a radio that loses, repeats and reorders packets.
use Rattle.std.specs.Prelude.{ℕ, ◌+◌, min, max, Bool, true, false, List, [], ◌∷◌, ◌++◌, length, map, fold, count_by, slice_get, Option, Some, None, nat_lt, ◌==◌, if◌then◌else◌}
use Rattle.ink_base.specs.declared.output.Output.{Output}
use Rattle.ink_radio.specs.declared.packet.Packet.{Packet}
use Rattle.ink_radio.specs.declared.packet.Packet.TheVariants.{Data, Ack}
use Rattle.ink_radio.specs.declared.event.RadioEvent.{RadioEvent}
use Rattle.ink_radio.specs.declared.event.RadioEvent.TheVariants.{Grow, Send, Rewind, NodeCut, ToBase, ToNode, Save, BaseCut}
use Rattle.ink_radio.specs.declared.state.RadioState.{RadioState}
use Rattle.ink_radio.specs.declared.record.RadioRecord.{RadioRecord}
use Rattle.ink_radio.specs.Packets.{packet_bytes}

-- before the first event
abbrev pub quiet : RadioState
quiet = record { acked = 0; cursor = 0; grown = 0; saved = []; fresh = []; air = [] }

-- the output at the cursor, where that is below the grown ones
abbrev pub next_output : List Output → RadioState → Option Output
next_output outputs s = if nat_lt s.cursor s.grown then slice_get outputs s.cursor else None

-- the node sends an output, and moves its cursor
abbrev pub after_send : RadioState → Option Output → RadioState
after_send s None = s
after_send s (Some output) = record s { cursor = s.cursor + 1; air = s.air ++ Data s.cursor output ∷ [] }

-- how many outputs the base has
abbrev pub taken : RadioState → ℕ
taken s = length s.saved + length s.fresh

-- a packet comes to the base: it takes the output that follows those that it has
abbrev pub at_base : RadioState → Option Packet → RadioState
at_base s None = s
at_base s (Some (Ack count)) = s
at_base s (Some (Data number output)) = if number == taken s then record s { fresh = s.fresh ++ output ∷ [] } else s

-- a packet comes to the node: it learns how many outputs are saved
abbrev pub at_node : RadioState → Option Packet → RadioState
at_node s None = s
at_node s (Some (Data number output)) = s
at_node s (Some (Ack count)) = record s { acked = max s.acked count; cursor = max s.cursor count }

-- the base saves what it has, and sends how much that is
abbrev pub after_save : RadioState → RadioState
after_save s = record s { saved = s.saved ++ s.fresh; fresh = []; air = s.air ++ Ack (taken s) ∷ [] }

-- what an event makes of a state, where these are all outputs of the node
abbrev pub after_event : List Output → RadioState → RadioEvent → RadioState
after_event outputs s (Grow count) = record s { grown = min (s.grown + count) (length outputs) }
after_event outputs s Send = after_send s (next_output outputs s)
after_event outputs s Rewind = record s { cursor = s.acked }
after_event outputs s NodeCut = record s { cursor = s.acked }
after_event outputs s (ToBase packet) = at_base s (slice_get s.air packet)
after_event outputs s (ToNode packet) = at_node s (slice_get s.air packet)
after_event outputs s Save = after_save s
after_event outputs s BaseCut = record s { fresh = [] }

-- the state after a script
abbrev pub played : List Output → List RadioEvent → RadioState
played outputs script = fold (after_event outputs) quiet script

-- whether a packet is Data
abbrev pub is_data : Packet → Bool
is_data (Data number output) = true
is_data (Ack count) = false

-- what is told of a state: all packets as bytes, and how many of them are Data
abbrev pub record_of : RadioState → RadioRecord
record_of s = record { saved = s.saved; fresh = s.fresh; acked = s.acked; sent = count_by is_data s.air; air = map packet_bytes s.air }
