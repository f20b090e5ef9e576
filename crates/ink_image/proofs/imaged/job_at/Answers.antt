use Rattle.ink_image.proofs.Common.{ℕ, List, Err, sym, subst, ◌∙◌, Program, token_lines, section_entries, listed_of}
use Rattle.ink_base.specs.declared.fault.JobAnswer.{JobAnswer}
use Rattle.ink_image.specs.Image.{JudgesSection, UnlessMemory}
use Rattle.ink_image.specs.Whole.{IsJobAt, Answers}
use Rattle.ink_image.proofs.Judged.{token_named, fault_told}
use Rattle.ink_image.proofs.imaged.job_at.Goals as goal

pub fault_at-requires : goal.fault_at-requires
fault_at-requires c =
    token_named c.args.text.now c.args.section.now c.args.form c.accepted.result.now c.as_slice.result.now c.in-Err.e c.in-Err.ensures.told

pub returns-in-Err : goal.returns-in-Err
returns-in-Err c =
    let text = c.args.text.now in
    let section = c.args.section.now in
    let entries = section_entries (token_lines text section) in
    let told : UnlessMemory (JudgesSection c.args.form c.args.job.program (listed_of c.args.job) entries) (Err c.in-Err.e) =
    subst (λ (z : Program × List ℕ). UnlessMemory (JudgesSection c.args.form z.0 z.1 entries) (Err c.in-Err.e))
    (λ i. (c.accepted.ensures.same i, (c.as_slice.ensures.value ∙ c.in_ok-listed.ensures) i)) c.in-Err.ensures.told in
    subst (λ (a : JobAnswer). Answers (IsJobAt c.args.job c.args.form c.args.header entries) (Err a)) (sym (c.fault_at.ensures text))
    (fault_told text section c.args.job c.args.form c.args.header c.in-Err.e told)
