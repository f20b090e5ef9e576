-- What the steps of a reading tell.
use Rattle.std.specs.Prelude.{◌≡◌, ◌≢◌, ℕ, ◌+◌, List, ◌∷◌, ◌++◌, Option, Some, None, All, length, decimal}
use Rattle.ink_base.specs.Lines.{lines}
use Rattle.ink_base.specs.declared.entry.Entry.{Entry}
use Rattle.ink_base.specs.declared.ids.SourceId.{SourceId}
use Rattle.ink_base.specs.declared.ids.ThreadId.{ThreadId}
use Rattle.task_isa.specs.declared.program.Program.{Program}
use Rattle.prog_check.specs.Lookup.{thread_def}
use Rattle.never_cut.specs.Replay.{IsFirstIllegal}
use Rattle.job_parts.specs.Job.{JobParts, first_of}
use Rattle.ink_audit.specs.declared.objection.Objection.{Objection}
use Rattle.ink_audit.specs.declared.objection.Objection.TheVariants as objections
use Rattle.ink_audit.specs.Claim.{IsOther, HasJournal, AreLinesOf, IsNoLine}
use Rattle.ink_audit.specs.Differences.{DifferBehind}

-- a word names one of these things, or none
abbrev pub Names : {X : Type 0} → (X → List ℕ) → (X → Type 0) → List ℕ → Option X → Type 0
Names written may word (Some x) = may x × (word ≡ written x)
Names {X} written may word None = (x : X) → may x → word ≢ written x

-- S and the number of a source
abbrev pub source_word : SourceId → List ℕ
source_word source = 83 ∷ decimal source.0

-- the name of a thread
abbrev pub thread_word : Program → ThreadId → List ℕ
thread_word program thread = (thread_def program thread.0).name

-- what is told of the line of an objection, if memory was found
abbrev pub Objects : (ℕ → Type 0) → Objection → Type 0
Objects Told (objections.Line line) = Told line
Objects Told objections.NoMemory = Unit {0}

-- the claim has no journal, and this is the number behind that of its last line
pub record LacksJournal (claim : List ℕ) (line : ℕ) : Type 0 where
  pub none : All IsOther (lines claim)
  pub number : line ≡ length (lines claim) + 1

-- the text of a claim's journal, and the number of its first line
pub record IsJournalAt (claim : List ℕ) (first : ℕ) (text : List ℕ) : Type 0 where
  pub before : List (List ℕ)
  pub number : first ≡ length before + 2
  pub journal : HasJournal claim before (lines text)

-- the first line of a journal that is no entry's, where its lines are counted from this number on
pub record IsFirstNoLine (program : Program) (journal : List (List ℕ)) (first : ℕ) (line : ℕ) : Type 0 where
  pub read : List (List ℕ)
  pub words : List ℕ
  pub rest : List (List ℕ)
  pub entries : List Entry
  pub parts : journal ≡ read ++ words ∷ rest
  pub are : AreLinesOf program entries read
  pub none : IsNoLine program words
  pub number : line ≡ first + length read

-- the line is the first in which two texts differ
pub record DiffersAt (a b : List ℕ) (line : ℕ) : Type 0 where
  pub same : ℕ
  pub differ : DifferBehind a b same
  pub number : line ≡ same + 1

-- the line of the first entry that isn't legal in its place, where the first entry stands in this one
pub record IllegalAt (job : JobParts) (entries : List Entry) (first : ℕ) (line : ℕ) : Type 0 where
  pub index : ℕ
  pub illegal : IsFirstIllegal job.program job.readings (first_of job) entries index
  pub number : line ≡ first + index
