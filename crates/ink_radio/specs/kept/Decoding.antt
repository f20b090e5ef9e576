-- Packets as they are read from bytes.
use Rattle.std.specs.Prelude.{◌≡◌, ℕ, List, [], ◌∷◌, length, take, drop, Option, Some, None, nat_lt, ◌==◌, unwrap_or, if◌then◌else◌}
use Rattle.std.specs.Int.{Width, w32, w64, byte_len, from_be_bytes}
use Rattle.ink_base.specs.declared.ids.ThreadId.{ThreadId}
use Rattle.ink_base.specs.declared.limits.TheConstants as limits
use Rattle.ink_base.specs.declared.output.Output.{Output}
use Rattle.ink_radio.specs.declared.packet.Packet.{Packet}
use Rattle.ink_radio.specs.declared.packet.Packet.TheVariants.{Data, Ack}
use Rattle.ink_radio.specs.Packets.{IsPacket, packet_bytes}

infixl 10 ◌>>=◌
-- what isn't there ends the reading
abbrev pub ◌>>=◌ : {A B : Type 0} → Option A → (A → Option B) → Option B
(Some x) >>= f = f x
None >>= f = None

-- a number of a width, and the bytes behind it
abbrev pub number_at : Width → List ℕ → Option (ℕ × List ℕ)
number_at w bytes = if nat_lt (length bytes) (byte_len w) then None else Some (from_be_bytes w (take (byte_len w) bytes), drop (byte_len w) bytes)

-- the byte of a thread, and the bytes behind it
abbrev pub thread_at : List ℕ → Option (ThreadId × List ℕ)
thread_at [] = None
thread_at (b ∷ rest) = if nat_lt b limits.THREADS then Some (record { 0 = b }, rest) else None

-- the value, where nothing is left
abbrev pub ended : {A : Type 0} → A → List ℕ → Option A
ended x [] = Some x
ended x (b ∷ rest) = None

-- the fields of an output, up to the end
unfoldable pub output_at : List ℕ → Option Output
output_at bytes = do
  stamp ← number_at w64 bytes
  thread ← thread_at stamp.1
  value ← number_at w32 thread.1
  ended (record { stamp = stamp.0; thread = thread.0; value = value.0 }) value.1

-- what follows a `D`
unfoldable pub data_at : List ℕ → Option Packet
data_at bytes = do
  number ← number_at w32 bytes
  output ← output_at number.1
  Some (Data number.0 output)

-- what follows an `A`
unfoldable pub ack_at : List ℕ → Option Packet
ack_at bytes = do
  count ← number_at w32 bytes
  ended (Ack count.0) count.1

-- the packet of bytes
unfoldable pub packet_in : List ℕ → Option Packet
packet_in [] = None
packet_in (b ∷ rest) = if b == 68 then data_at rest else (if b == 65 then ack_at rest else None)

-- the packet of bytes that are those of one
abbrev pub packet_of : List ℕ → Packet
packet_of bytes = unwrap_or (packet_in bytes) (Ack 0)

-- bytes of a packet
pub record IsCoded (bytes : List ℕ) : Type 0 where
  pub packet : IsPacket (packet_of bytes)
  pub same : bytes ≡ packet_bytes (packet_of bytes)
