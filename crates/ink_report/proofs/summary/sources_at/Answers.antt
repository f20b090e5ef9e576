use Rattle.ink_report.proofs.Common.{[], ◌∷◌, ◌++◌, sym, ◌∙◌, arith, map-range_with_len_more, source_summary}
use Rattle.ink_report.proofs.summary.sources_at.Goals as goal

pub loop-i-preserved : goal.loop-i-preserved
loop-i-preserved c =
    c.in_ok-push.ensures.ok ∙ (λ j. c.loop-i.invariant j ++ c.source_at.ensures j ∷ [])
    ∙ sym (map-range_with_len_more (source_summary c.args.model.now []) 0 c.loop-i.i c.loop-i.i (omega arith))
