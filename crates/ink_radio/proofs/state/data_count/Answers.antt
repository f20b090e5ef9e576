use Rattle.ink_radio.proofs.Common.{sym, ap, ◌+◌, ◌∙◌, arith}
use Rattle.ink_radio.specs.kept.Counting.{has_data}
use Rattle.ink_radio.proofs.Counted.{data_more, other_more}
use Rattle.ink_radio.proofs.state.data_count.Goals as goal
use Rattle.ink_radio.proofs.state.data_count.Goals.{then-has_data, else-has_data}

pub loop-number-preserved : goal.loop-number-preserved
loop-number-preserved c = elim c.if-has_data.branch [
  | then-has_data w ↦
      w.count-is ∙ ap (λ n. n + 1) c.loop-number.invariant
      ∙ sym (data_more c.args.air.now c.loop-number.number (omega arith) (sym (ap has_data c.packet.ensures) ∙ sym c.has_data.ensures ∙ w.if-has_data.true))
  | else-has_data w ↦
      w.count-is ∙ c.loop-number.invariant
      ∙ sym (other_more c.args.air.now c.loop-number.number (omega arith) (sym (ap has_data c.packet.ensures) ∙ sym c.has_data.ensures ∙ w.if-has_data.false))
]
