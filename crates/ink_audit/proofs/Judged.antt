-- What each step of the reading tells of the verdict.
use Rattle.ink_audit.proofs.Common.{◌≡◌, ℕ, ◌+◌, List, length, Result, Ok, Err, sym, subst, arith, Entry, lines, HasJournal, AreLinesOf}
use Rattle.std.specs.Prelude.{MatchResult}
use Rattle.job_parts.specs.Job.{JobParts}
use Rattle.ink_audit.specs.declared.objection.Objection.{Objection}
use Rattle.ink_audit.specs.declared.objection.Objection.TheVariants as objections
use Rattle.ink_audit.specs.declared.verdict.Verdict.TheVariants.{Yes, No}
use Rattle.ink_audit.specs.Verdicts.{IsVerdict, IsLegalIn, text_of, NoJournal, NoEntry, Illegal, OtherText, Right}
use Rattle.ink_audit.specs.kept.Told.{Objects, LacksJournal, IsJournalAt, IsFirstNoLine, DiffersAt, IllegalAt}

pub objects_more : (P Q : ℕ → Type 0) (o : Objection) → ((line : ℕ) → P line → Q line) → Objects P o → Objects Q o
objects_more P Q (objections.Line line) more h = more line h
objects_more P Q objections.NoMemory more h = tt

pub result_more : (P Q : Type 0) (R S : ℕ → Type 0) (r : Result (Unit {0}) Objection) → (P → Q) → ((line : ℕ) → R line → S line) → MatchResult r (λ _. P) (Objects R) → MatchResult r (λ _. Q) (Objects S)
result_more P Q R S (Ok x) right wrong h = right h
result_more P Q R S (Err o) right wrong h = objects_more R S o wrong h

module _ (job : JobParts) (claim : List ℕ) where
  at_line : (n line : ℕ) → line ≡ n → IsVerdict job claim (No n) → IsVerdict job claim (No line)
  at_line n line same h = subst (λ (m : ℕ). IsVerdict job claim (No m)) (sym same) h

  pub lacks_journal : (line : ℕ) → LacksJournal claim line → IsVerdict job claim (No line)
  lacks_journal line h = at_line _ line h.number (NoJournal h.none)

  module _ (first : ℕ) (text : List ℕ) (at : IsJournalAt claim first text) where
    pub has_no_entry : (line : ℕ) → IsFirstNoLine job.program (lines text) first line → IsVerdict job claim (No line)
    has_no_entry line h =
        at_line (length at.before + 2 + length h.read) line (omega (arith, h.number, at.number))
        (NoEntry at.before h.read h.rest h.words h.entries (subst (λ (ls : List (List ℕ)). HasJournal claim at.before ls) h.parts at.journal) h.are h.none)

    module _ (entries : List Entry) (are : AreLinesOf job.program entries (lines text)) where
      pub is_illegal : (line : ℕ) → IllegalAt job entries first line → IsVerdict job claim (No line)
      is_illegal line h =
          at_line (length at.before + 2 + h.index) line (omega (arith, h.number, at.number)) (Illegal at.before (lines text) entries h.index at.journal are h.illegal)

      pub is_other : (line : ℕ) → IsLegalIn job entries → DiffersAt claim (text_of job entries) line → IsVerdict job claim (No line)
      is_other line legal h = at_line (h.same + 1) line h.number (OtherText at.before (lines text) entries h.same at.journal are legal h.differ)

      pub is_right : IsLegalIn job entries → claim ≡ text_of job entries → IsVerdict job claim Yes
      is_right legal same = Right at.before (lines text) entries at.journal are legal same
