-- What an audit says of the runs of jobs.
use Rattle.std.specs.Prelude.{◌≡◌, IsTrue}
use Rattle.task_isa.specs.Names.{is_name}
use Rattle.task_isa.specs.declared.program.ThreadDef.{ThreadDef}
use Rattle.job_parts.specs.Job.{JobParts, IsJob}
use Rattle.kernel_core.specs.declared.run_record.RunRecord.{RunRecord}
use Rattle.ink_audit.specs.declared.verdict.Verdict.{Verdict}
use Rattle.ink_audit.specs.declared.verdict.Verdict.TheVariants.{Yes}
use Rattle.ink_audit.specs.Verdicts.{IsVerdict, with_journal}
use Rattle.ink_audit.specs.Laws.{HasNames}
use Rattle.ink_modes.specs.Run.{IsRunOf, run_text_of}

-- what a run prints with its journal is right
abbrev pub RunsAreRight : Type 0
RunsAreRight = (job : JobParts) (r : RunRecord) → IsJob job → HasNames job.program → IsRunOf job r → IsVerdict job (run_text_of r with_journal) Yes

-- and nothing else is said of it
abbrev pub NoRunIsWrong : Type 0
NoRunIsWrong = (job : JobParts) (r : RunRecord) (v : Verdict) → IsJob job → HasNames job.program → IsRunOf job r → IsVerdict job (run_text_of r with_journal) v → v ≡ Yes

-- the thread has a name
abbrev pub IsNamed : ThreadDef → Type 0
IsNamed thread = IsTrue (is_name thread.name)
