-- What is said of a claim, by the job and the bytes of the claim alone.
use Rattle.std.specs.Prelude.{◌≡◌, ℕ, ◌+◌, true, List, ◌∷◌, ◌++◌, All, length}
use Rattle.ink_base.specs.Lines.{lines}
use Rattle.ink_base.specs.declared.entry.Entry.{Entry}
use Rattle.never_cut.specs.Journal.{after, IsLegal}
use Rattle.never_cut.specs.Replay.{IsFirstIllegal}
use Rattle.job_parts.specs.Job.{JobParts, first_of}
use Rattle.ink_report.specs.declared.flags.Flags.{Flags}
use Rattle.ink_report.specs.Conditions.{no_flags}
use Rattle.ink_report.specs.Report.{run_text}
use Rattle.ink_audit.specs.declared.verdict.Verdict.{Verdict}
use Rattle.ink_audit.specs.declared.verdict.Verdict.TheVariants.{Yes, No}
use Rattle.ink_audit.specs.Claim.{IsOther, HasJournal, AreLinesOf, IsNoLine}
use Rattle.ink_audit.specs.Differences.{DifferBehind}

-- the flags of a text that shows its journal, and nothing else besides outputs and summary
abbrev pub with_journal : Flags
with_journal = record no_flags { journal = true }

-- each entry is legal in its place, from the state at which the run of the job begins
abbrev pub IsLegalIn : JobParts → List Entry → Type 0
IsLegalIn job entries = IsLegal job.program job.readings (first_of job) entries

-- what a run of the job prints that writes these entries in its journal
abbrev pub text_of : JobParts → List Entry → List ℕ
text_of job entries = run_text job.program (after job.program job.readings (first_of job) entries) entries (length job.charges) with_journal

-- The verdict on a claim. In each case those above it don't apply.
pub data IsVerdict (job : JobParts) (claim : List ℕ) : Verdict → Type 0 where
  -- no line is in front of a journal: No behind the last line
  NoJournal : All IsOther (lines claim) → IsVerdict job claim (No (length (lines claim) + 1))
  -- a line of the journal isn't that of an entry, and all before it are: No at that line
  NoEntry : (before read rest : List (List ℕ)) (line : List ℕ) (entries : List Entry) → HasJournal claim before (read ++ line ∷ rest) →
      AreLinesOf job.program entries read → IsNoLine job.program line → IsVerdict job claim (No (length before + 2 + length read))
  -- an entry isn't legal in its place: No at the line of the first
  Illegal : (before journal : List (List ℕ)) (entries : List Entry) (n : ℕ) → HasJournal claim before journal → AreLinesOf job.program entries journal →
      IsFirstIllegal job.program job.readings (first_of job) entries n → IsVerdict job claim (No (length before + 2 + n))
  -- the claim isn't the text of its journal: No at the first line that differs
  OtherText : (before journal : List (List ℕ)) (entries : List Entry) (n : ℕ) → HasJournal claim before journal → AreLinesOf job.program entries journal →
      IsLegalIn job entries → DifferBehind claim (text_of job entries) n → IsVerdict job claim (No (n + 1))
  -- else Yes
  Right : (before journal : List (List ℕ)) (entries : List Entry) → HasJournal claim before journal → AreLinesOf job.program entries journal →
      IsLegalIn job entries → claim ≡ text_of job entries → IsVerdict job claim Yes
