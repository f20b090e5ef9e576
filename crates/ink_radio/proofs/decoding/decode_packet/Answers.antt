use Rattle.ink_radio.proofs.Common.{sym, ◌∙◌, arith}
use Rattle.ink_radio.proofs.ReadBack.{is_found, is_read, none_has}
use Rattle.ink_radio.proofs.decoding.decode_packet.Goals as goal

pub returns-clause-found : goal.returns-clause-found
returns-clause-found c = is_found c.args.bytes.now c.packet_in.result (λ i. omega (arith, c.type_inv.bytes i)) c.packet_in.ensures

pub returns-clause-only : goal.returns-clause-only
returns-clause-only c = λ packet is e. c.packet_in.ensures ∙ is_read c.args.bytes.now packet is e

pub returns-clause-none : goal.returns-clause-none
returns-clause-none c = (
  λ none packet is e. absurd (let h = sym none ∙ c.packet_in.ensures ∙ is_read c.args.bytes.now packet is e in cc),
  none_has c.packet_in.result c.args.bytes.now (is_found c.args.bytes.now c.packet_in.result (λ i. omega (arith, c.type_inv.bytes i)) c.packet_in.ensures),
)
