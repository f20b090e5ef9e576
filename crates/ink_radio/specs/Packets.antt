-- The bytes of packets.
use Rattle.std.specs.Prelude.{ℕ, ◌<◌, ◌^◌, List, ◌∷◌, ◌++◌, codes}
use Rattle.std.specs.Int.{w32, w64, to_be_bytes}
use Rattle.ink_base.specs.declared.limits.TheConstants as limits
use Rattle.ink_base.specs.declared.output.Output.{Output}
use Rattle.ink_radio.specs.declared.packet.Packet.{Packet}
use Rattle.ink_radio.specs.declared.packet.Packet.TheVariants.{Data, Ack}

-- an output whose thread is one of a program, and whose numbers fit their bytes
pub record IsOutput (output : Output) : Type 0 where
  pub stamp : output.stamp < 2 ^ 64
  pub thread : output.thread.0 < limits.THREADS
  pub value : output.value < 2 ^ 32

-- what is sent is such an output and its number, or a count that fits its bytes
abbrev pub IsPacket : Packet → Type 0
IsPacket (Data number output) = (number < 2 ^ 32) × IsOutput output
IsPacket (Ack count) = count < 2 ^ 32

-- the fields of an output: its stamp in 8 bytes, its thread in 1, its value in 4
abbrev pub output_bytes : Output → List ℕ
output_bytes output = to_be_bytes w64 output.stamp ++ output.thread.0 ∷ to_be_bytes w32 output.value

-- `D`, the output's number in 4 bytes, and the output; or `A` and a count in 4 bytes. Of each number the most significant byte comes first.
abbrev pub packet_bytes : Packet → List ℕ
packet_bytes (Data number output) = codes "D" ++ to_be_bytes w32 number ++ output_bytes output
packet_bytes (Ack count) = codes "A" ++ to_be_bytes w32 count
