-- What stands in a claim: its journal, and the lines of entries.
use Rattle.std.specs.Prelude.{◌≡◌, ◌≢◌, ℕ, ◌<◌, ◌^◌, List, ◌∷◌, ◌++◌, map, All, codes}
use Rattle.ink_base.specs.Lines.{lines}
use Rattle.ink_base.specs.declared.entry.Entry.{Entry}
use Rattle.ink_base.specs.declared.entry.Entry.TheVariants.{Tick}
use Rattle.task_isa.specs.declared.program.Program.{Program}
use Rattle.ink_report.specs.Conditions.{NamesPart}
use Rattle.ink_report.specs.Journal.{entry_line}

-- the line in front of a journal
abbrev pub header : List ℕ
header = codes "[journal]"

-- the line isn't that in front of a journal
abbrev pub IsOther : List ℕ → Type 0
IsOther line = line ≢ header

-- The lines of a claim that has a journal: those before the first header, the header, and those of the journal.
pub record HasJournal (claim : List ℕ) (before journal : List (List ℕ)) : Type 0 where
  pub lines : lines claim ≡ before ++ header ∷ journal
  pub first : All IsOther before

-- ticks are counted in 64 bits
abbrev pub HasTicks : Entry → Type 0
HasTicks (Tick by) = by < 2 ^ 64
HasTicks _ = Unit {0}

-- an entry that a journal of the program may have: it names parts of the program, and its ticks can be counted
pub record IsEntryOf (program : Program) (e : Entry) : Type 0 where
  pub names : NamesPart program e
  pub ticks : HasTicks e

-- a line with its line feed
abbrev pub ended : List ℕ → List ℕ
ended line = line ++ codes "\n"

-- the entry's line, but for the line feed
pub record IsLineOf (program : Program) (e : Entry) (line : List ℕ) : Type 0 where
  pub entry : IsEntryOf program e
  pub same : entry_line program e ≡ ended line

-- no entry has this line
abbrev pub IsNoLine : Program → List ℕ → Type 0
IsNoLine program line = (e : Entry) → ¬ IsLineOf program e line

-- the lines of these entries, in order
pub record AreLinesOf (program : Program) (entries : List Entry) (ls : List (List ℕ)) : Type 0 where
  pub each : All (IsEntryOf program) entries
  pub same : map (entry_line program) entries ≡ map ended ls
