-- Packets that are counted by their numbers.
use Rattle.std.specs.Prelude.{Bool, false, Option, Some, None}
use Rattle.ink_radio.specs.declared.packet.Packet.{Packet}
use Rattle.ink_radio.specs.Radio.{is_data}

-- whether a packet is there and is Data
abbrev pub has_data : Option Packet → Bool
has_data None = false
has_data (Some packet) = is_data packet
