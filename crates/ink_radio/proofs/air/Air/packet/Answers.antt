use Rattle.ink_radio.proofs.Common.{slice_get, sym, ap, ◌∙◌}
use Rattle.ink_radio.specs.kept.Decoding.{packet_in}
use Rattle.ink_radio.proofs.Coded.{coded_at, coded_past}
use Rattle.ink_radio.proofs.air.Air.packet.Goals as goal

pub returns-in-Some : goal.returns-in-Some
returns-in-Some c =
    c.packet_in.ensures ∙ ap packet_in c.as_slice.ensures
    ∙ coded_at c.self.inside.packets c.args.number c.in-Some.bytes.now c.self.invariant (sym c.in-Some.ensures.value)
    ∙ ap (λ packets. slice_get packets c.args.number) c.self.view_is

pub returns-in-None : goal.returns-in-None
returns-in-None c = coded_past c.self.inside.packets c.args.number (sym c.in-None.ensures.value) ∙ ap (λ packets. slice_get packets c.args.number) c.self.view_is
