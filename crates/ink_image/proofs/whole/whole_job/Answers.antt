use Rattle.ink_image.proofs.Common.{◌≡◌, Result, Ok, Err, ap, sym, subst, JobParts}
use Rattle.std.specs.Result.{IsErr, IsErrAnd}
use Rattle.power_trace.specs.declared.tails.Tails.{Tails}
use Rattle.ink_base.specs.declared.fault.JobAnswer.{JobAnswer}
use Rattle.ink_image.specs.Whole.{IsJobOf, Answers}
use Rattle.ink_image.specs.Before.{IsJobBefore}
use Rattle.ink_image.proofs.Nothing.{whole_before, whole_refused}
use Rattle.ink_image.proofs.whole.whole_job.Goals as goal

-- an error that is handed on
handed : (r : Result JobParts JobAnswer) (answer : JobAnswer) → IsErr r × IsErrAnd r (λ e. e ≡ answer) → r ≡ Err answer
handed (Ok job) answer is = absurd is.1
handed (Err e) answer is = ap Err is.1

pub returns : goal.returns
returns c =
    whole_before c.args.text.now (Ok (c.in_ok-job.job, c.in_ok-job._nothing))
    (subst (λ (tails : Tails). IsJobBefore tails c.args.text.now (Ok (c.in_ok-job.job, c.in_ok-job._nothing))) c.image_tails.ensures c.in_ok-job.ensures.told)

pub returns-in_err-job : goal.returns-in_err-job
returns-in_err-job c =
    let e = c.in_err-job.field-0.0 in
    subst (Answers (IsJobOf c.args.text.now)) (sym (handed c.from_residual.result e c.from_residual.ensures))
    (whole_refused c.args.text.now e (subst (λ (tails : Tails). Answers (IsJobBefore tails c.args.text.now) (Err e)) c.image_tails.ensures c.in_err-job.ensures.told))
