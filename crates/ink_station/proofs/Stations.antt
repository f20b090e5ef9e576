-- The answers of reading a station.
use Rattle.std.proofs.Common.{◌≡◌, ℕ, List, refl, sym, ap, subst, Result, Ok, Err}
use Rattle.ink_base.specs.Gives.{◌>>◌}
use Rattle.ink_base.specs.Gives as given
use Rattle.ink_base.specs.declared.fault.JobFault.{JobFault}
use Rattle.ink_base.specs.declared.fault.JobAnswer.{JobAnswer}
use Rattle.ink_base.specs.declared.fault.JobAnswer.TheVariants as answers
use Rattle.job_parts.specs.Job.{JobParts}
use Rattle.ink_station.specs.declared.parts.Part.{Part}
use Rattle.ink_station.specs.Parts.{parts_of}
use Rattle.ink_station.specs.Jobs.{AreJobsOf, HaveJobs, turns_of, Gives, IsStation, Answers}

module _ {X : Type 0} (view : X → List JobParts) (text : List ℕ) where
  pub parts_fault : (e : JobAnswer) → given.Answers e (parts_of text) → Answers view (IsStation text) (Err e)
  parts_fault answers.NoMemory is = tt
  parts_fault (answers.Fault fault) is = subst (λ r. Gives text r (Err fault)) (sym is) refl

  pub jobs_fault : (parts : List Part) (e : JobAnswer) → parts_of text ≡ Ok parts → Answers view (AreJobsOf text parts) (Err e) → Answers view (IsStation text) (Err e)
  jobs_fault parts answers.NoMemory are is = tt
  jobs_fault parts (answers.Fault fault) are is = subst (λ r. Gives text r (Err fault)) (sym are) (Err fault, is, refl)

  pub turns_fault : (parts : List Part) (jobs : List JobParts) (e : JobAnswer) → parts_of text ≡ Ok parts → HaveJobs text parts jobs → given.Answers e (turns_of 0 text parts)
      → Answers view (IsStation text) (Err e)
  turns_fault parts jobs answers.NoMemory are have is = tt
  turns_fault parts jobs (answers.Fault fault) are have is =
      subst (λ r. Gives text r (Err fault)) (sym are) (Ok jobs, have, ap (λ (r : Result ℕ JobFault). r >> (λ turns. Ok jobs)) (sym is))

  pub all_jobs : (parts : List Part) (turns : ℕ) (x : X) → parts_of text ≡ Ok parts → HaveJobs text parts (view x) → turns_of 0 text parts ≡ Ok turns → Answers view (IsStation text) (Ok x)
  all_jobs parts turns x are have is =
      subst (λ r. Gives text r (Ok (view x))) (sym are) (Ok (view x), have, ap (λ (r : Result ℕ JobFault). r >> (λ turns. Ok (view x))) (sym is))
