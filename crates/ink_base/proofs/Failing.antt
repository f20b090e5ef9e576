-- How an error is handed on.
use Rattle.ink_base.proofs.Common.{◌≡◌, ℕ, Result, sym, ap, ◌∙◌, JobFault, JobAnswer, ◌>>◌, at_line, answer_at, Fails, Answers}
use Rattle.ink_base.specs.declared.fault.Cause.{Cause}
use Rattle.ink_base.specs.declared.fault.JobAnswer.TheVariants as answers
use Rattle.ink_base.specs.declared.line_error.LineError.{LineError}
use Rattle.ink_base.specs.declared.line_error.LineError.TheVariants as errors

-- an error of a line is an answer at its number
pub Fails-at : {A : Type 0} (number : ℕ) (e : LineError) (read : Result A Cause) → Fails e read → Answers (answer_at number e) (at_line number read)
Fails-at number errors.NoMemory read h = tt
Fails-at number (errors.Fault cause) read h = ap (at_line number) h

pub Answers-same : {A : Type 0} (e : JobAnswer) (r s : Result A JobFault) → r ≡ s → Answers e r → Answers e s
Answers-same answers.NoMemory r s same h = tt
Answers-same (answers.Fault x) r s same h = sym same ∙ h

-- an error of a step is an error of what begins with it
pub Answers-step : {A B : Type 0} (e : JobAnswer) (r : Result A JobFault) (f : A → Result B JobFault) (total : Result B JobFault) → Answers e r → (r >> f) ≡ total → Answers e total
Answers-step answers.NoMemory r f total h so = tt
Answers-step (answers.Fault x) r f total h so = sym so ∙ ap (λ (y : Result _ JobFault). y >> f) h
