use Rattle.ink_image.proofs.Common.{◌≡◌, ◌-◌, cond, eqb, get_or, arith, eq-eqb, ne_eqb}
use Rattle.ink_image.proofs.Places.{line_end_step}
use Rattle.ink_image.proofs.bytes.line_end.Goals as goal
use Rattle.ink_image.proofs.bytes.line_end.Goals.{then-b-eq10, else-b-eq10}

pub loop-at-preserved : goal.loop-at-preserved
loop-at-preserved c =
    let next : c.if-b-eq10.left ≡ cond (eqb (get_or c.args.text.now c.loop-at.at 0) 10) (c.loop-at.left - 1) c.loop-at.left =
    elim c.if-b-eq10.branch [
      | then-b-eq10 w ↦ rw (eq-eqb _ _ w.if-b-eq10.true) w.left-is
      | else-b-eq10 w ↦ rw (ne_eqb _ _ w.if-b-eq10.false) w.left-is
    ] in
    let step = line_end_step c.args.text.now c.loop-at.at c.loop-at.left c.if-b-eq10.left 0 (omega arith) (omega arith) next in
    omega (arith, step, c.loop-at.invariant)
