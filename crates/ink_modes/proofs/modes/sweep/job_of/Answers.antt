use Rattle.ink_modes.proofs.Common.{◌≡◌, ℕ, List, Ok, Err, refl, ap, sym, subst, JobParts}
use Rattle.std.specs.Prelude.{Result}
use Rattle.std.specs.Result.{IsErr, IsErrAnd}
use Rattle.ink_base.specs.Gives.{◌>>◌}
use Rattle.ink_base.specs.Gives as given
use Rattle.ink_base.specs.Lines.{Line}
use Rattle.ink_base.specs.declared.fault.JobAnswer.{JobAnswer}
use Rattle.ink_base.specs.declared.fault.JobAnswer.TheVariants as job_answers
use Rattle.ink_base.specs.declared.fault.JobFault.{JobFault}
use Rattle.power_trace.specs.declared.parse.Parts.{Parts}
use Rattle.power_trace.specs.Parse.{parts_at, whole_at}
use Rattle.ink_image.specs.Whole.{image_tails, IsJobBehind, Answers}
use Rattle.cut_sweep.specs.Limit.{line_past}
use Rattle.ink_modes.specs.modes.Sweep.{past_at, Gives}
use Rattle.ink_modes.proofs.modes.sweep.job_of.Goals as goal

-- where the parts of a text have a fault, so has its job
behind_fault : {B : Type 0} (parts : Result (Parts × List Line) JobFault) (next : Parts × List Line → B) (fault : JobFault) → (parts >> (λ x. Ok (next x))) ≡ Err fault →
    IsJobBehind (parts >> (λ x. Ok (x.0.job, x.1))) (Err fault)
behind_fault (Ok x) next fault is = absurd (let clash : Ok (next x) ≡ Err fault = is in cc)
behind_fault (Err f) next fault is = let same : Err f ≡ Err fault = is in sym cc

-- and so the text has that fault for a sweep
gives_fault : (text : List ℕ) (answer : JobAnswer) → given.Answers answer (past_at text) → Answers (Gives text) (Err answer)
unfolding past_at whole_at
gives_fault text job_answers.NoMemory told = tt
gives_fault text (job_answers.Fault fault) told =
    (Err fault, behind_fault (parts_at image_tails text) (λ x. line_past 0 x.0.job.charges x.0.charge_lines) fault told, refl)

-- an error that is handed on
handed : (r : Result JobParts JobAnswer) (answer : JobAnswer) → IsErr r × IsErrAnd r (λ e. e ≡ answer) → r ≡ Err answer
handed (Ok job) answer is = absurd is.1
handed (Err e) answer is = ap Err is.1

pub returns-in_err-past : goal.returns-in_err-past
returns-in_err-past c =
    subst (Answers (Gives c.args.text.now)) (sym (handed c.from_residual.result c.in_err-past.field-0.0 c.from_residual.ensures))
    (gives_fault c.args.text.now c.in_err-past.field-0.0 c.in_err-past.ensures)
