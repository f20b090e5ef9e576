-- The journal in a text, as bytes.
use Rattle.std.specs.Prelude.{List, ◌++◌, ℕ, flat_map, codes, decimal}
use Rattle.ink_base.specs.declared.entry.Entry.{Entry}
use Rattle.ink_base.specs.declared.entry.Entry.TheVariants.{Push, Refuse, Skip, Tick, Scan, Look, Commit, Release}
use Rattle.ink_base.specs.declared.ids.SourceId.{SourceId}
use Rattle.ink_base.specs.declared.ids.ThreadId.{ThreadId}
use Rattle.task_isa.specs.declared.program.Program.{Program}
use Rattle.prog_check.specs.Lookup.{thread_def}

-- KIND Si
abbrev pub source_entry : List ℕ → SourceId → List ℕ
source_entry kind source = kind ++ codes " S" ++ decimal source.0 ++ codes "\n"

-- KIND NAME
abbrev pub thread_entry : Program → List ℕ → ThreadId → List ℕ
thread_entry program kind thread = kind ++ codes " " ++ (thread_def program thread.0).name ++ codes "\n"

-- the line of an entry
abbrev pub entry_line : Program → Entry → List ℕ
entry_line program (Push source) = source_entry (codes "Push") source
entry_line program (Refuse source) = source_entry (codes "Refuse") source
entry_line program (Skip source) = source_entry (codes "Skip") source
entry_line program (Tick by) = codes "Tick " ++ decimal by ++ codes "\n"
entry_line program Scan = codes "Scan\n"
entry_line program (Look thread) = thread_entry program (codes "Look") thread
entry_line program (Commit thread) = thread_entry program (codes "Commit") thread
entry_line program (Release thread) = thread_entry program (codes "Release") thread

-- a line for each entry, in order
abbrev pub entry_lines : Program → List Entry → List ℕ
entry_lines program journal = flat_map (entry_line program) journal
