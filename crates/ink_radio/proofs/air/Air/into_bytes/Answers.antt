use Rattle.ink_radio.proofs.Common.{map, ap, ◌∙◌}
use Rattle.ink_radio.specs.Packets.{packet_bytes}
use Rattle.ink_radio.proofs.Coded.{coded_all}
use Rattle.ink_radio.proofs.air.Air.into_bytes.Goals as goal

pub returns : goal.returns
returns c = coded_all c.self.inside.packets c.self.invariant ∙ ap (map packet_bytes) c.self.view_is
