-- `audit`: a claim behind the job on the source is judged, and whether it is the text of a run of the job is written.
use Rattle.std.specs.Prelude.{◌≡◌, ℕ, ◌+◌, true, false, List, [], ◌++◌, length, drop, codes, decimal, Option, Some, None, Result, Ok, Err}
use Rattle.ink_base.specs.Gives.{◌>>◌}
use Rattle.ink_base.specs.Lines.{lines}
use Rattle.ink_base.specs.declared.fault.Cause.TheVariants.{Missing}
use Rattle.ink_base.specs.declared.fault.JobFault.{JobFault}
use Rattle.job_parts.specs.Job.{JobParts}
use Rattle.power_trace.specs.declared.tails.Tails.{Tails}
use Rattle.ink_report.specs.declared.flags.Flags.{Flags}
use Rattle.ink_image.specs.Whole.{image_tails}
use Rattle.ink_image.specs.Before.{IsJobBefore}
use Rattle.ink_audit.specs.declared.verdict.Verdict.{Verdict}
use Rattle.ink_audit.specs.declared.verdict.Verdict.TheVariants.{Yes, No}
use Rattle.ink_audit.specs.Verdicts.{IsVerdict}
use Rattle.ink_modes.specs.declared.given.Given.{Given}
use Rattle.ink_modes.specs.declared.given.Given.TheVariants.{Claimed}
use Rattle.ink_modes.specs.declared.finish.Record.{Record}
use Rattle.ink_modes.specs.declared.finish.Record.TheVariants.{Audit}
use Rattle.ink_modes.specs.Form.{ModeForm}

-- a claim may follow the charges, or an image
abbrev pub claim_tails : Tails
claim_tails = record image_tails { claim = true }

-- the bytes behind the line `[claim]` are the claim; a text without such a line lacks it
abbrev pub with_claim : List ℕ → JobParts × Option ℕ → Result Given JobFault
with_claim text (job, Some at) = Ok (Claimed job (drop at text))
with_claim text (job, None) = Err (record { line = length (lines text) + 1; cause = Missing })

-- the job before the claim and the claim, or the first fault, all faults of the job first
abbrev pub Gives : List ℕ → Result Given JobFault → Type 0
Gives text answer = (before : Result (JobParts × Option ℕ) JobFault) × IsJobBefore claim_tails text before × (answer ≡ (before >> with_claim text))

-- the verdict on the claim
abbrev pub Makes : Given → Record → Type 0
Makes (Claimed job claim) (Audit verdict) = IsVerdict job claim verdict
Makes _ _ = ⊥

-- whether the claim is right, and where it is wrong
abbrev pub verdict_text : Verdict → List ℕ
verdict_text Yes = codes "audit yes\n"
verdict_text (No line) = codes "audit no " ++ decimal line ++ codes "\n"

-- the line of the verdict
abbrev pub text : Flags → Given → Record → List ℕ
text flags given (Audit verdict) = verdict_text verdict
text flags given _ = []

-- it has no flags
abbrev pub audit : ModeForm
audit = record {
  word = codes "audit";
  allowed = record { journal = false; json = false; bounds = false; image = false; seed = false };
  gives = Gives;
  makes = Makes;
  text = text;
}
