use Rattle.ink_audit.proofs.Common.{◌≡◌, ℕ, List, length, sym, ap, ◌∙◌, subst, arith, Entry, Program, lines, AreLinesOf}
use Rattle.std.proofs.lemmas.Result.{err_from_is_err_and}
use Rattle.never_cut.specs.declared.model.Model.{Model}
use Rattle.job_parts.specs.declared.charge.Charge.{Charge}
use Rattle.ink_report.specs.Conditions.{IsReportable}
use Rattle.ink_report.specs.Report.{run_text}
use Rattle.ink_audit.specs.Verdicts.{IsVerdict, text_of, with_journal}
use Rattle.ink_audit.specs.declared.verdict.Verdict.TheVariants.{Yes, No}
use Rattle.ink_audit.specs.kept.Told.{DiffersAt, IllegalAt, IsFirstNoLine, LacksJournal}
use Rattle.ink_audit.proofs.Judged.{objects_more, result_more, lacks_journal, has_no_entry, is_illegal, is_other, is_right}
use Rattle.ink_audit.proofs.Read.{few_entries}
use Rattle.ink_audit.proofs.Starts.{legal_told}
use Rattle.ink_audit.proofs.auditing.judge.Goals as goal

pub returns-in_err-journal : goal.returns-in_err-journal
returns-in_err-journal c =
    let job = c.args.job.now in
    let claim : List ℕ = c.args.claim.now in
    let p = err_from_is_err_and c.from_residual.result c.from_residual.ensures.1 in
    rw (p.1, p.2) (objects_more (LacksJournal claim) (λ line. IsVerdict job claim (No line)) c.in_err-journal.field-0.0 (lacks_journal job claim) c.in_err-journal.ensures.found)

pub returns-in_err-entries : goal.returns-in_err-entries
returns-in_err-entries c =
    let job = c.args.job.now in
    let claim : List ℕ = c.args.claim.now in
    let journal = c.in_ok-journal.journal in
    let p = err_from_is_err_and c.from_residual-in_err-entries.result c.from_residual-in_err-entries.ensures.1 in
    rw (p.1, p.2)
    (objects_more (IsFirstNoLine c.accepted.result.now (lines journal.text.now) journal.first) (λ line. IsVerdict job claim (No line)) c.in_err-entries.field-0.0
    (λ line h. has_no_entry job claim journal.first journal.text.now c.in_ok-journal.ensures.found line
    (subst (λ (program : Program). IsFirstNoLine program (lines journal.text.now) journal.first line) c.accepted.ensures.same h)) c.in_err-entries.ensures)

pub state_after-requires : goal.state_after-requires
state_after-requires c =
    omega (
      arith,
      few_entries c.accepted.result.now c.in_ok-entries.entries.items c.in_ok-journal.journal.text.now c.in_ok-entries.ensures,
      c.as_slice-entries.ensures.len,
      ap (λ (es : List Entry). length es) c.as_slice-entries.ensures.value,
      c.in_ok-journal.ensures.room,
    )

pub returns-in_err-model : goal.returns-in_err-model
returns-in_err-model c =
    let job = c.args.job.now in
    let claim : List ℕ = c.args.claim.now in
    let journal = c.in_ok-journal.journal in
    let entries : List Entry = c.as_slice-entries.result.now in
    let p = err_from_is_err_and c.from_residual-in_err-model.result c.from_residual-in_err-model.ensures.1 in
    let are = subst (λ (z : Program × List Entry). AreLinesOf z.0 z.1 (lines journal.text.now)) (λ k. (c.accepted.ensures.same k, sym c.as_slice-entries.ensures.value k)) c.in_ok-entries.ensures in
    rw (p.1, p.2)
    (objects_more (IllegalAt job entries journal.first) (λ line. IsVerdict job claim (No line)) c.in_err-model.field-0.0
    (is_illegal job claim journal.first journal.text.now c.in_ok-journal.ensures.found entries are) c.in_err-model.ensures)

pub run_text-requires : goal.run_text-requires
run_text-requires c =
    let job = c.args.job.now in
    let entries : List Entry = c.as_slice-entries.result.now in
    subst (λ (z : Program × Model). IsReportable z.0 z.1 entries) (λ k. (sym c.accepted-2.ensures.same k, sym c.in_ok-model.ensures.1 k))
    (legal_told job entries c.accepted-2.ensures.job c.in_ok-model.ensures.0)

pub returns : goal.returns
returns c =
    let job = c.args.job.now in
    let claim : List ℕ = c.args.claim.now in
    let journal = c.in_ok-journal.journal in
    let entries : List Entry = c.as_slice-entries.result.now in
    let legal = c.in_ok-model.ensures.0 in
    let are = subst (λ (z : Program × List Entry). AreLinesOf z.0 z.1 (lines journal.text.now)) (λ k. (c.accepted.ensures.same k, sym c.as_slice-entries.ensures.value k)) c.in_ok-entries.ensures in
    let charges : length c.charges.result.now ≡ length job.charges = ap (λ (l : List Charge). length l) c.charges.ensures.same in
    let text : c.as_slice.result.now ≡ text_of job entries =
    c.as_slice.ensures.value ∙ c.in_ok-text.ensures ∙ (λ k. run_text (c.accepted-2.ensures.same k) (c.in_ok-model.ensures.1 k) entries (charges k) with_journal) in
    result_more (claim ≡ c.as_slice.result.now) (IsVerdict job claim Yes) (DiffersAt claim c.as_slice.result.now) (λ line. IsVerdict job claim (No line)) c.compare.result
    (λ same. is_right job claim journal.first journal.text.now c.in_ok-journal.ensures.found entries are legal (same ∙ text))
    (λ line h. is_other job claim journal.first journal.text.now c.in_ok-journal.ensures.found entries are line legal (subst (λ (t : List ℕ). DiffersAt claim t line) text h))
    c.compare.ensures
