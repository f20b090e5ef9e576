use Rattle.ink_radio.proofs.Common.{ap, ◌∙◌, ◌++◌, ◌∷◌, []}
use Rattle.ink_radio.specs.kept.Decoding.{IsCoded}
use Rattle.ink_radio.proofs.Coded.{all_push, coded, coded_push}
use Rattle.ink_radio.proofs.air.Air.send.Goals as goal

pub invariant_of-self-2 : goal.invariant_of-self-2
invariant_of-self-2 c =
    rw c.in_ok-push.ensures.ok
    (all_push IsCoded c.self.inside.packets c.from_vec.result c.self.invariant (coded c.args.packet.now c.from_vec.result c.requires (c.from_vec.ensures ∙ c.in_ok-bytes.ensures)))

pub returns : goal.returns
returns c =
    rw c.in_ok-push.ensures.ok
    (coded_push c.self.inside.packets c.args.packet.now c.from_vec.result c.requires (c.from_vec.ensures ∙ c.in_ok-bytes.ensures) ∙ ap (λ packets. packets ++ c.args.packet.now ∷ []) c.self.view_is)
