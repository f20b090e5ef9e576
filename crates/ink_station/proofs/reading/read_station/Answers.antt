use Rattle.std.proofs.Common.{List, length, sym, ap, ◌∙◌, subst, arith, Ok, Err, Vec, Global}
use Rattle.job_parts.specs.declared.job.Job.{Job}
use Rattle.ink_base.specs.Gives as given
use Rattle.ink_station.specs.declared.parts.Part.{Part}
use Rattle.ink_station.specs.Jobs.{HasJob, AreJobsOf, HaveJobs, IsStation, Answers, turns_of}
use Rattle.ink_station.proofs.Handed.{handed}
use Rattle.ink_station.proofs.Pairs.{as_long}
use Rattle.ink_station.proofs.Stations.{jobs_fault, turns_fault, all_jobs}
use Rattle.ink_station.proofs.reading.read_station.Goals as goal

pub returns-in_err-jobs-clause-jobs : goal.returns-in_err-jobs-clause-jobs
returns-in_err-jobs-clause-jobs c =
    let text = c.args.text.now in
    subst (λ r. Answers (λ jobs. jobs.items) (IsStation text) r) (sym (handed c.from_residual-in_err-jobs.result c.in_err-jobs.field-0.0 c.from_residual-in_err-jobs.ensures))
    (jobs_fault (λ (jobs : Vec Job Global). jobs.items) text c.in_ok-parts.parts.items c.in_err-jobs.field-0.0 c.in_ok-parts.ensures.given
    (subst (λ (l : List Part). Answers (λ (jobs : Vec Job Global). jobs.items) (AreJobsOf text l) (Err c.in_err-jobs.field-0.0)) c.as_slice.ensures.value c.in_err-jobs.ensures))

pub returns-in_err-turns_of-clause-jobs : goal.returns-in_err-turns_of-clause-jobs
returns-in_err-turns_of-clause-jobs c =
    let text = c.args.text.now in
    subst (λ r. Answers (λ jobs. jobs.items) (IsStation text) r) (sym (handed c.from_residual-in_err-turns_of.result c.in_err-turns_of.field-0.0 c.from_residual-in_err-turns_of.ensures))
    (turns_fault (λ (jobs : Vec Job Global). jobs.items) text c.in_ok-parts.parts.items c.in_ok-jobs.jobs.items c.in_err-turns_of.field-0.0 c.in_ok-parts.ensures.given
    (subst (λ (l : List Part). HaveJobs text l c.in_ok-jobs.jobs.items) c.as_slice.ensures.value c.in_ok-jobs.ensures)
    (subst (λ (l : List Part). given.Answers c.in_err-turns_of.field-0.0 (turns_of 0 text l)) c.as_slice-2.ensures.value c.in_err-turns_of.ensures))

pub returns-clause-jobs : goal.returns-clause-jobs
returns-clause-jobs c =
    let text = c.args.text.now in
    all_jobs (λ (jobs : Vec Job Global). jobs.items) text c.in_ok-parts.parts.items c.in_ok-turns_of.field-0 c.in_ok-jobs.jobs c.in_ok-parts.ensures.given
    (subst (λ (l : List Part). HaveJobs text l c.in_ok-jobs.jobs.items) c.as_slice.ensures.value c.in_ok-jobs.ensures)
    (ap (turns_of 0 text) (sym c.as_slice-2.ensures.value) ∙ c.in_ok-turns_of.ensures)

pub returns-clause-few : goal.returns-clause-few
returns-clause-few c =
    let same = as_long (λ part job. HasJob c.args.text.now part (Ok job)) c.as_slice.result.now c.in_ok-jobs.jobs.items c.in_ok-jobs.ensures in
    omega (arith, same, ap length c.as_slice.ensures.value, c.in_ok-parts.ensures.few)
