-- `plan`: a bound on what each task of the program of the job on the source may cost is written.
use Rattle.std.specs.Prelude.{◌≡◌, ℕ, true, false, List, [], codes, Result}
use Rattle.ink_base.specs.declared.fault.JobFault.{JobFault}
use Rattle.task_isa.specs.declared.program.Program.{Program}
use Rattle.job_parts.specs.Job.{JobParts}
use Rattle.power_trace.specs.Parse.{job_at}
use Rattle.ink_plan.specs.declared.plan.EnergyPlan.{EnergyPlan}
use Rattle.ink_plan.specs.Plans.{is_plan}
use Rattle.ink_plan.specs.Bounded.{BoundsServices, TellsHeaviest}
use Rattle.ink_plan.specs.Charges.{LeastSuffices}
use Rattle.ink_plan.specs.Slack.{TellsSlack}
use Rattle.ink_plan.specs.Lowest.{TakesLowest}
use Rattle.ink_plan.specs.Text.{plan_text}
use Rattle.ink_report.specs.declared.flags.Flags.{Flags}
use Rattle.ink_modes.specs.declared.given.Given.{Given}
use Rattle.ink_modes.specs.declared.given.Given.TheVariants.{Job}
use Rattle.ink_modes.specs.declared.finish.Record.{Record}
use Rattle.ink_modes.specs.declared.finish.Record.TheVariants.{Plan}
use Rattle.ink_modes.specs.Given.{Alone}
use Rattle.ink_modes.specs.Form.{ModeForm}

-- the job of a text that ends with its charges, or its first fault: no image may follow
abbrev pub Gives : List ℕ → Result JobParts JobFault → Type 0
Gives text answer = job_at text ≡ answer

-- The plan is right by its check. So no service of a thread costs more than the bound of its task, the path that is told of forward code takes as much as any,
-- a charge with its least accesses has a scan that is answered, and a service by straight code stays just so far below its bound. Of equal paths it tells the
-- lowest.
pub record IsPlanOf (program : Program) (plan : EnergyPlan) : Type 0 where
  pub right : is_plan program plan ≡ true
  pub bounds : BoundsServices program plan
  pub heaviest : TellsHeaviest program plan
  pub least : LeastSuffices program plan
  pub slack : TellsSlack program plan
  pub lowest : TakesLowest program plan

-- the plan of the job's program
abbrev pub Makes : Given → Record → Type 0
Makes (Job job) (Plan plan) = IsPlanOf job.program plan
Makes _ _ = ⊥

-- a line for each task of the program, and the least
abbrev pub text : Flags → Given → Record → List ℕ
text flags (Job job) (Plan plan) = plan_text job.program plan
text flags _ _ = []

-- it has no flags
abbrev pub plan : ModeForm
plan = record {
  word = codes "plan";
  allowed = record { journal = false; json = false; bounds = false; image = false; seed = false };
  gives = λ text. Alone (Gives text);
  makes = Makes;
  text = text;
}
