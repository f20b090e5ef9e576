use Rattle.kernel_core.proofs.Common.{sym, ◌∙◌, subst, RecordStands}
use Rattle.kernel_core.specs.Settled.{ChargesSettle}
use Rattle.kernel_core.specs.declared.run_record.RunRecord.{RunRecord}
use Rattle.kernel_core.proofs.RunRecords.{record_stands}
use Rattle.kernel_core.proofs.board.Core.into_record.Goals as goal

pub returns-clause-stands : goal.returns-clause-stands
returns-clause-stands c =
    subst (λ (z : RunRecord). RecordStands z)
    (sym (λ i. record { job = c.new.ensures i; charges = c.finished.ensures i; words = (c.from_vec.ensures ∙ c.into_words.ensures) i }))
    (record_stands _ _ _ _ _ _ c.self.invariant.1)

pub returns-clause-settled : goal.returns-clause-settled
returns-clause-settled c =
    subst (λ (z : RunRecord). ChargesSettle z.job.program z.charges)
    (sym (λ i. record { job = c.new.ensures i; charges = c.finished.ensures i; words = (c.from_vec.ensures ∙ c.into_words.ensures) i }))
    c.self.invariant.1.settling.all
