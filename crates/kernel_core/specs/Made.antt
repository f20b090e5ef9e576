-- What a turn makes: its access, the word that it finds, and the entry that it adds to the journal.
use Rattle.std.specs.Prelude.{ℕ, if◌then◌else◌, length, Option, Some, None}
use Rattle.ink_base.specs.declared.actor.Actor.{Actor}
use Rattle.ink_base.specs.declared.actor.Actor.TheVariants as actors
use Rattle.ink_base.specs.declared.entry.Entry.TheVariants.{Tick}
use Rattle.fram_words.specs.declared.access.Access.{Access}
use Rattle.ink_layout.specs.Points.{entry_of_point}
use Rattle.push_core.specs.Table.{is_left, point_of}
use Rattle.source_laws.specs.Rows.{port_of}
use Rattle.never_cut.specs.Entries.{readings_of}
use Rattle.kernel_core.specs.declared.made.Made.{Made}
use Rattle.kernel_core.specs.Kernel.{point_found}
use Rattle.kernel_core.specs.Board.{Setup, Board, sides, finds, kernel_access, source_access, clock_access, row_of, entry_of_source}

-- what the kernel makes in a turn: its access, the word found, and the entry
abbrev pub kernel_made : Setup → Board → Made
kernel_made s b =
    let word = finds b (kernel_access s b) in
    record { access = Some (kernel_access s b); word = word; entry = entry_of_point (point_found s.program b.kernel word) }

-- what a source makes that has an access left
abbrev pub access_made : Setup → Board → ℕ → Made
access_made s b i =
    let word = finds b (source_access s b i) in
    record { access = Some (source_access s b i); word = word; entry = entry_of_source i (point_of (port_of (sides s) i).queue.places (row_of b i).stage word) }

-- nothing, by a source that has settled all its readings
abbrev pub nothing_made : Made
nothing_made = record { access = None; word = 0; entry = None }

-- what a source makes in a turn
abbrev pub source_makes : Setup → Board → ℕ → Made
source_makes s b i = if is_left (length (readings_of s.readings i)) (row_of b i) then access_made s b i else nothing_made

-- what the clock makes
abbrev pub clock_made : Setup → Board → Made
clock_made s b = record { access = Some (clock_access s 1); word = finds b (clock_access s 1); entry = Some (Tick 1) }

-- what an actor makes in a turn
abbrev pub made_by : Setup → Board → Actor → Made
made_by s b actors.Kernel = kernel_made s b
made_by s b (actors.Source i) = source_makes s b i.0
made_by s b actors.Clock = clock_made s b

-- how many accesses a turn made: one, or none
abbrev pub one_if : Option Access → ℕ
one_if (Some access) = 1
one_if None = 0

-- so many accesses were made
abbrev pub accesses_in : Made → ℕ
accesses_in made = one_if made.access
