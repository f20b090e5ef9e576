-- What a run prints with its journal is the text of a legal journal.
use Rattle.std.specs.Prelude.{ℕ, List, length}
use Rattle.job_parts.specs.Job.{JobParts, first_of}
use Rattle.kernel_core.specs.declared.run_record.RunRecord.{RunRecord}
use Rattle.never_cut.specs.Journal.{after}
use Rattle.ink_report.specs.Report as report
use Rattle.ink_audit.specs.Laws.{IsTextOfRun, EveryTextIsRight, NoTextIsWrong}
use Rattle.ink_audit.specs.Verdicts.{with_journal}
use Rattle.ink_modes.specs.Run.{IsRunOf, journal_in, run_text_of}
use Rattle.audited_runs.specs.Audited.{NoRunIsWrong, RunsAreRight}

-- the text of the record of this job's run, by its journal
abbrev text_by : JobParts → RunRecord → List ℕ
text_by job r = report.run_text job.program (after job.program job.readings (first_of job) (journal_in r)) (journal_in r) (length job.charges) with_journal

told : (job : JobParts) (r : RunRecord) → IsRunOf job r → IsTextOfRun job (run_text_of r with_journal)
told job r run = record { journal = journal_in r; legal = run.legal; text = λ k. text_by (run.job_is k) r }

pub runs_right : EveryTextIsRight → RunsAreRight
runs_right every job r is named run = every job (run_text_of r with_journal) is named (told job r run)

pub no_run_wrong : NoTextIsWrong → NoRunIsWrong
no_run_wrong none job r v is named run = none job (run_text_of r with_journal) v is named (told job r run)
