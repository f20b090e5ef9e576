-- What holds of each state that a script reaches.
use Rattle.std.specs.Prelude.{◌≡◌, ℕ, ◌<◌, ◌≤◌, List, ◌++◌, length, take, slice_get, Some}
use Rattle.std.specs.List.{AllByRecursion}
use Rattle.ink_base.specs.declared.output.Output.{Output}
use Rattle.ink_radio.specs.declared.packet.Packet.{Packet}
use Rattle.ink_radio.specs.declared.packet.Packet.TheVariants.{Data, Ack}
use Rattle.ink_radio.specs.declared.state.RadioState.{RadioState}
use Rattle.ink_radio.specs.Radio.{taken}

-- a packet that was sent: an output that has grown, with its number, or at most the number of saved outputs
abbrev pub IsSent : List Output → (grown saved : ℕ) → Packet → Type 0
IsSent outputs grown saved (Data number output) = (number < grown) × (slice_get outputs number ≡ Some output)
IsSent outputs grown saved (Ack count) = count ≤ saved

-- All that was grown is outputs. The base has the first of them, and what was sent, and what the node counts as saved, is true.
pub record IsReached (outputs : List Output) (s : RadioState) : Type 0 where
  pub grown : s.grown ≤ length outputs
  pub count : taken s ≤ s.grown
  pub front : s.saved ++ s.fresh ≡ take (taken s) outputs
  pub sent : AllByRecursion (IsSent outputs s.grown (length s.saved)) s.air
  pub acked : s.acked ≤ length s.saved
