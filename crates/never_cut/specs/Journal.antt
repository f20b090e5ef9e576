-- A journal: when it is legal, and the state after it.
use Rattle.std.specs.Prelude.{List, [], ◌∷◌, ◌++◌, Option, Some, None}
use Rattle.ink_base.specs.declared.entry.Entry.{Entry}
use Rattle.task_isa.specs.declared.program.Program.{Program}
use Rattle.never_cut.specs.declared.model.Model.{Model}
use Rattle.never_cut.specs.Entries.{Readings, Legal, effect}

-- the state after these entries, from a first one on
abbrev pub after : Program → Readings → Model → List Entry → Model
after program readings first [] = first
after program readings first (e ∷ entries) = after program readings (effect program readings first e) entries

-- each entry is legal in its place
abbrev pub IsLegal : Program → Readings → Model → List Entry → Type 0
IsLegal program readings first [] = Unit {0}
IsLegal program readings first (e ∷ entries) = Legal program readings first e × IsLegal program readings (effect program readings first e) entries

-- an entry that an access makes, or none
abbrev pub noted : List Entry → Option Entry → List Entry
noted journal None = journal
noted journal (Some e) = journal ++ e ∷ []

-- the state after a turn that wrote an entry, or none
abbrev pub moved : Program → Readings → Model → Option Entry → Model
moved program readings m None = m
moved program readings m (Some e) = effect program readings m e

-- the entry that a turn wrote, if any, was legal
abbrev pub MayNote : Program → Readings → Model → Option Entry → Type 0
MayNote program readings m None = Unit {0}
MayNote program readings m (Some e) = Legal program readings m e
