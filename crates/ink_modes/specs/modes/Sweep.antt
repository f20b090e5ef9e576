-- `sweep`: the board of the job on the source is run once for each number of turns of its first charge, with this charge cut behind them, and a line of
-- numbers is written for each run.
use Rattle.std.specs.Prelude.{◌≡◌, ℕ, false, List, [], codes, Option, Some, None, Result, Ok, Err}
use Rattle.ink_base.specs.Gives.{◌>>◌}
use Rattle.ink_base.specs.declared.fault.Cause.TheVariants.{OverLimit}
use Rattle.ink_base.specs.declared.fault.JobFault.{JobFault}
use Rattle.job_parts.specs.Job.{JobParts}
use Rattle.power_trace.specs.Parse.{parts_at}
use Rattle.ink_report.specs.declared.flags.Flags.{Flags}
use Rattle.ink_report.specs.Sweep.{sweep_text}
use Rattle.ink_image.specs.Whole.{image_tails, IsJobOf}
use Rattle.cut_sweep.specs.Limit.{line_past}
use Rattle.cut_sweep.specs.Sweep.{IsSweepOf}
use Rattle.ink_modes.specs.declared.finish.Record.{Record}
use Rattle.ink_modes.specs.declared.finish.Record.TheVariants.{Sweep}
use Rattle.ink_modes.specs.declared.given.Given.{Given}
use Rattle.ink_modes.specs.declared.given.Given.TheVariants.{Job}
use Rattle.ink_modes.specs.Given.{Alone}
use Rattle.ink_modes.specs.Form.{ModeForm}

-- the line of the charge with which the charges of a text list more turns than a sweep may have
unfoldable pub past_at : List ℕ → Result (Option ℕ) JobFault
past_at text = parts_at image_tails text >> (λ x. Ok (line_past 0 x.0.job.charges x.0.charge_lines))

-- a job of more turns is refused there
abbrev pub unless_past : JobParts → Option ℕ → Result JobParts JobFault
unless_past job None = Ok job
unless_past job (Some line) = Err (record { line = line; cause = OverLimit })

-- the job of the text or its first fault; a job that has none is refused where its turns are more
abbrev pub Gives : List ℕ → Result JobParts JobFault → Type 0
Gives text answer = (whole : Result JobParts JobFault) × IsJobOf text whole × (answer ≡ (whole >> (λ job. past_at text >> (λ line. unless_past job line))))

-- the table of the job's runs
abbrev pub Makes : Given → Record → Type 0
Makes (Job job) (Sweep table) = IsSweepOf job table
Makes _ _ = ⊥

-- a line for each of its rows
abbrev pub text : Flags → Given → Record → List ℕ
text flags given (Sweep table) = sweep_text table
text flags given _ = []

-- it has no flags
abbrev pub sweep : ModeForm
sweep = record {
  word = codes "sweep";
  allowed = record { journal = false; json = false; bounds = false; image = false; seed = false };
  gives = λ text. Alone (Gives text);
  makes = Makes;
  text = text;
}
