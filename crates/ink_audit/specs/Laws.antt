-- What the verdicts say.
use Rattle.std.specs.Prelude.{◌≡◌, ℕ, List, All, IsTrue}
use Rattle.ink_base.specs.declared.entry.Entry.{Entry}
use Rattle.task_isa.specs.Names.{is_name}
use Rattle.task_isa.specs.declared.program.ThreadDef.{ThreadDef}
use Rattle.task_isa.specs.declared.program.Program.{Program}
use Rattle.job_parts.specs.Job.{JobParts, IsJob}
use Rattle.ink_audit.specs.declared.verdict.Verdict.{Verdict}
use Rattle.ink_audit.specs.declared.verdict.Verdict.TheVariants.{Yes}
use Rattle.ink_audit.specs.Verdicts.{IsLegalIn, text_of, IsVerdict}

-- the names of a program's threads are names
abbrev pub HasNames : Program → Type 0
HasNames program = All (λ (t : ThreadDef). IsTrue (is_name t.name)) program.threads

-- the claim is what a run of the job prints that writes a legal journal
pub record IsTextOfRun (job : JobParts) (claim : List ℕ) : Type 0 where
  pub journal : List Entry
  pub legal : IsLegalIn job journal
  pub text : claim ≡ text_of job journal

-- whatever a run of the job prints that writes a legal journal gets Yes
abbrev pub EveryTextIsRight : Type 0
EveryTextIsRight = (job : JobParts) (claim : List ℕ) → IsJob job → HasNames job.program → IsTextOfRun job claim → IsVerdict job claim Yes

-- and no other verdict
abbrev pub NoTextIsWrong : Type 0
NoTextIsWrong = (job : JobParts) (claim : List ℕ) (v : Verdict) → IsJob job → HasNames job.program → IsTextOfRun job claim → IsVerdict job claim v → v ≡ Yes

-- nothing else gets Yes
abbrev pub NoOtherIsRight : Type 0
NoOtherIsRight = (job : JobParts) (claim : List ℕ) → IsVerdict job claim Yes → IsTextOfRun job claim

-- a claim has no two verdicts
abbrev pub OneVerdict : Type 0
OneVerdict = (job : JobParts) (claim : List ℕ) (v w : Verdict) → IsJob job → IsVerdict job claim v → IsVerdict job claim w → v ≡ w
