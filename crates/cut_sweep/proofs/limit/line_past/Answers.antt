use Rattle.std.proofs.Common.{◌≡◌, ◌+◌, arith, ap, get_or, sym, ◌∙◌}
use Rattle.std.proofs.lemmas.List.Sums.{sum_by_more}
use Rattle.job_parts.specs.Job.{item_turns}
use Rattle.job_parts.specs.declared.charge.Charge.{Charge}
use Rattle.cut_sweep.proofs.Limits.{past_goes_on}
use Rattle.cut_sweep.proofs.limit.line_past.Goals as goal

pub loop-n-preserved : goal.loop-n-preserved
loop-n-preserved c =
    let here : c.turns_in-turns.result ≡ item_turns (get_or c.args.charges.now c.loop-n.n c.index-charges-n.result).items =
    c.turns_in-turns.ensures ∙ ap (λ items. item_turns items) c.as_slice.ensures in (
      (λ i. c.loop-n.invariant.0 i + here i) ∙ sym (sum_by_more (λ (charge : Charge). item_turns charge.items) c.args.charges.now c.loop-n.n c.index-charges-n.result c.loop-n-test.true),
      c.loop-n.invariant.1
          ∙ past_goes_on c.args.charges.now c.args.lines.now c.loop-n.n c.loop-n.turns c.turns_in-turns.result c.index-charges-n.result c.loop-n-test.true c.requires.lines here
          (omega arith),
    )
