use Rattle.kernel_core.specs.kept.Starts.{FitsBoard}
use Rattle.kernel_core.proofs.Common.{ℕ, length-replicate, Program, length, sym, ◌∙◌, subst, AreFirstWords, JobParts, IsJob, setup_of, StandsFirst, AreFirstRecords}
use Rattle.kernel_core.proofs.JobMoves.{job_first}
use Rattle.kernel_core.proofs.start.CoreParts.of.Goals as goal

pub returns-clause-job : goal.returns-clause-job
returns-clause-job c = λ i. record { program = (c.in_ok-plan.ensures ∙ c.into_parts-accepted.ensures.program) i; readings = c.into_parts-accepted.ensures.readings i; charges = c.into_parts-accepted.ensures.charges i; start = c.into_parts-accepted.ensures.start i }

pub returns-clause-limits : goal.returns-clause-limits
returns-clause-limits c = subst (λ (z : JobParts). IsJob z) (sym (returns-clause-job c)) c.into_parts-accepted.ensures.job

pub returns-clause-first : goal.returns-clause-first
returns-clause-first c =
    subst (λ (z : JobParts). StandsFirst (setup_of z) c.write_first_words.new.fram) (sym (returns-clause-job c))
    (job_first c.args.job c.write_first_words.new.fram c.into_parts-accepted.ensures.job
    (subst (λ (z : JobParts). AreFirstWords z.program z.start c.write_first_words.new.fram) (returns-clause-job c) c.write_first_words.ensures))

pub returns-clause-charges : goal.returns-clause-charges
returns-clause-charges c = subst (λ (z : JobParts). AreFirstRecords z (length z.charges) c.in_ok-charges.charges.items) (sym (returns-clause-job c)) c.in_ok-charges.ensures

-- the words of a start are as many as the board's
pub write_first_words-requires-clause-count : goal.write_first_words-requires-clause-count
write_first_words-requires-clause-count c = rw c.in_ok-fram.ensures (length-replicate {A = ℕ} c.in_ok-plan.plan.layout.words 0 ∙ c.in_ok-plan.plan.placed.words)

pub write_first_words-requires-clause-start : goal.write_first_words-requires-clause-start
write_first_words-requires-clause-start c = λ s is.
    subst (λ (program : Program). FitsBoard program s) (sym (c.in_ok-plan.ensures ∙ c.into_parts-accepted.ensures.program))
    (c.into_parts-accepted.ensures.job.start s (sym c.into_parts-accepted.ensures.start ∙ is)).count
