-- The verdicts on texts of legal journals.
use Rattle.ink_audit.proofs.Common.{ℕ, List, length, map, sym, subst, Entry, HasJournal, AreLinesOf}
use Rattle.never_cut.specs.declared.model.Model.{Model}
use Rattle.never_cut.specs.Journal.{after}
use Rattle.job_parts.specs.Job.{JobParts, first_of}
use Rattle.ink_audit.specs.Laws.{HasNames, IsTextOfRun, EveryTextIsRight, NoTextIsWrong}
use Rattle.ink_audit.specs.declared.verdict.Verdict.TheVariants.{Yes}
use Rattle.ink_audit.specs.Verdicts.{Right}
use Rattle.ink_audit.proofs.Entries.{spelled}
use Rattle.ink_audit.proofs.Once.{one_verdict}
use Rattle.ink_audit.proofs.Texts.{lines_told, text_has_journal, legal_lines}

-- a claim that is such a text has its journal, and these are the journal's lines
record IsTold (job : JobParts) (claim : List ℕ) (journal : List Entry) : Type 0 where
  before : List (List ℕ)
  parts : HasJournal claim before (map (spelled job.program) journal)
  are : AreLinesOf job.program journal (map (spelled job.program) journal)

told : (job : JobParts) (claim : List ℕ) → HasNames job.program → (h : IsTextOfRun job claim) → IsTold job claim h.journal
told job claim named h =
    let m : Model = after job.program job.readings (first_of job) h.journal in
    let before : List (List ℕ) = lines_told job.program m h.journal (length job.charges) in
    record {
      before = before;
      parts = subst (λ (t : List ℕ). HasJournal t before (map (spelled job.program) h.journal)) (sym h.text) (text_has_journal job.program m h.journal (length job.charges) named);
      are = legal_lines job.program job.readings (first_of job) h.journal h.legal;
    }

pub every_text : EveryTextIsRight
every_text job claim is named h =
    let t = told job claim named h in
    Right t.before (map (spelled job.program) h.journal) h.journal t.parts t.are h.legal h.text

pub no_text : NoTextIsWrong
no_text job claim v is named h other = one_verdict job claim v Yes is other (every_text job claim is named h)
