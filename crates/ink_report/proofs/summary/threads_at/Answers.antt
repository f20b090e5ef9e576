use Rattle.ink_report.proofs.Common.{[], ◌∷◌, ◌++◌, sym, ◌∙◌, arith, map-range_with_len_more, thread_summary}
use Rattle.ink_report.proofs.summary.threads_at.Goals as goal

pub loop-t-preserved : goal.loop-t-preserved
loop-t-preserved c =
    c.in_ok-push.ensures.ok ∙ (λ i. c.loop-t.invariant i ++ c.in_ok-thread_at.ensures i ∷ [])
    ∙ sym (map-range_with_len_more (thread_summary c.args.program.now c.args.model.now) 0 c.loop-t.t c.loop-t.t (omega arith))
