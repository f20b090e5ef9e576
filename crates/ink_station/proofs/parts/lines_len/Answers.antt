use Rattle.std.proofs.Common.{◌+◌, ◌-◌, drop, arith, ap, sym, ◌∙◌}
use Rattle.ink_station.specs.Parts.{lines_len}
use Rattle.ink_station.proofs.LineLengths.{past_feed, past_other, len_end}
use Rattle.ink_station.proofs.parts.lines_len.Goals as goal
use Rattle.ink_station.proofs.parts.lines_len.Goals.{then-text-n-eq10, else-text-n-eq10}

pub loop-n-preserved : goal.loop-n-preserved
loop-n-preserved c = elim c.if-text-n-eq10.branch [
  | then-text-n-eq10 w ↦
      past_feed c.args.count c.loop-n.left c.if-text-n-eq10.left c.args.text.now c.loop-n.n 0 c.loop-n-test.true (omega (arith, c.if-left-eq0.false, w.left-is)) w.if-text-n-eq10.true c.loop-n.invariant
  | else-text-n-eq10 w ↦
      let same = w.left-is in
      let e = past_other c.args.count c.loop-n.left (c.loop-n.left - 1) c.args.text.now c.loop-n.n 0 c.loop-n-test.true (omega (arith, c.if-left-eq0.false)) w.if-text-n-eq10.false c.loop-n.invariant in
      e ∙ ap (λ k. c.loop-n.n + 1 + lines_len k (drop (c.loop-n.n + 1) c.args.text.now)) (sym same)
]

pub returns : goal.returns
returns c = let e = len_end c.loop-n.left c.args.text.now c.loop-n.n c.loop-n-test.false in let n = c.loop-n.auto.n-end in omega (arith, e, c.loop-n.invariant, c.loop-n-test.false, n)
