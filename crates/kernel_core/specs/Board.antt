-- The board: its words, where each actor is in its access table, and what each charge left behind; its turns and its cuts.
use Rattle.std.specs.Prelude.{ℕ, ◌+◌, ◌-◌, if◌then◌else◌, List, [], ◌∷◌, length, replicate, slice_index, slice_index_or, slice_set, Option, Some, None}
use Rattle.ink_base.specs.declared.actor.Actor.{Actor}
use Rattle.ink_base.specs.declared.actor.Actor.TheVariants as actors
use Rattle.ink_base.specs.declared.entry.Entry.{Entry}
use Rattle.ink_base.specs.declared.entry.Entry.TheVariants.{Push, Refuse, Skip}
use Rattle.task_isa.specs.declared.program.Program.{Program}
use Rattle.fram_words.specs.Places.{Clock}
use Rattle.fram_words.specs.Places as places
use Rattle.fram_words.specs.Shape.{Shape}
use Rattle.fram_words.specs.declared.access.Access.{Access}
use Rattle.fram_words.specs.Words.{performed, address_of}
use Rattle.fram_words.specs.Accesses.{at_address}
use Rattle.ink_layout.specs.Shape.{shape_of}
use Rattle.ink_layout.specs.Points.{entry_of_point}
use Rattle.prog_check.specs.Lookup.{thread_def, source_thread}
use Rattle.push_core.specs.declared.row.Row.{Row}
use Rattle.push_core.specs.declared.point.Point.{Point}
use Rattle.push_core.specs.declared.point.Point.TheVariants as points
use Rattle.push_core.specs.Table.{first_row, access_of, take_of, point_of, is_left}
use Rattle.source_laws.specs.Model as sources
use Rattle.source_laws.specs.Rows.{port_of}
use Rattle.never_cut.specs.declared.model.Model.{Model}
use Rattle.never_cut.specs.Entries.{Readings, readings_of}
use Rattle.kernel_core.specs.declared.kernel.Kernel.{Kernel}
use Rattle.kernel_core.specs.Kernel.{first_kernel, wants, takes, point_found}
use Rattle.kernel_core.specs.Record.{ChargeRecord, not_begun, begun, with_kernel, with_source, with_tick, charge_of, journal_of}

-- what never changes in a run
pub record Setup : Type 0 where
  pub program : Program
  pub readings : Readings
  -- the state at which the run begins
  pub first : Model

-- how many words of each kind the board has
abbrev pub shape : Setup → Shape
shape s = shape_of s.program

-- the run as the sources see it
abbrev pub sides : Setup → sources.Board
sides s = record { shape = shape s; places = λ t. (thread_def s.program t).queue; queue_of = source_thread s.program; readings = readings_of s.readings }

-- the charges from 0 on; the first so many have begun
pub record Board : Type 0 where
  pub words : List ℕ
  pub kernel : Kernel
  pub rows : List Row
  pub charges : List ChargeRecord
  pub begun : ℕ

-- the entries so far, charge by charge
abbrev pub journal : Board → List Entry
journal b = journal_of b.charges b.begun

-- the word that an access finds
abbrev pub finds : Board → Access → ℕ
finds b access = slice_index b.words (address_of access)

-- the charge at hand is the last that has begun
abbrev pub charged : Board → (ChargeRecord → ChargeRecord) → List ChargeRecord
charged b f = slice_set b.charges (b.begun - 1) (f (charge_of b.charges (b.begun - 1)))

-- the access that the kernel makes next
abbrev pub kernel_access : Setup → Board → Access
kernel_access s b = at_address (shape s) (wants s.program b.kernel)

-- the kernel makes its next access
abbrev pub kernel_turn : Setup → Board → Board
kernel_turn s b =
    let word = finds b (kernel_access s b) in
    record {
      words = performed (kernel_access s b) b.words;
      kernel = takes s.program b.kernel word;
      rows = b.rows;
      charges = charged b (with_kernel (entry_of_point (point_found s.program b.kernel word)));
      begun = b.begun;
    }

-- the registers of a source
abbrev pub row_of : Board → ℕ → Row
row_of b i = slice_index_or b.rows i first_row

-- the entry that a point of source i stands for
abbrev pub entry_of_source : ℕ → Point → Option Entry
entry_of_source i points.Nothing = None
entry_of_source i points.Pushed = Some (Push (record { 0 = i }))
entry_of_source i points.Refused = Some (Refuse (record { 0 = i }))
entry_of_source i points.Skipped = Some (Skip (record { 0 = i }))

-- the access that a source makes next
abbrev pub source_access : Setup → Board → ℕ → Access
source_access s b i = access_of (port_of (sides s) i) (readings_of s.readings i) (row_of b i)

-- source i makes the access of its row
abbrev pub source_made : Setup → Board → ℕ → Board
source_made s b i =
    let word = finds b (source_access s b i) in
    record {
      words = performed (source_access s b i) b.words;
      kernel = b.kernel;
      rows = slice_set b.rows i (take_of (port_of (sides s) i) (length (readings_of s.readings i)) (row_of b i) word);
      charges = charged b (with_source i (entry_of_source i (point_of (port_of (sides s) i).queue.places (row_of b i).stage word)));
      begun = b.begun;
    }

-- a source that is booted and has settled all its readings makes none
abbrev pub source_turn : Setup → Board → ℕ → Board
source_turn s b i = if is_left (length (readings_of s.readings i)) (row_of b i) then source_made s b i else b

-- the access of the clock that adds so many ticks
abbrev pub clock_access : Setup → ℕ → Access
clock_access s by = at_address (shape s) (places.Add Clock by)

-- the clock adds a tick
abbrev pub clock_turn : Setup → Board → Board
clock_turn s b = record b { words = performed (clock_access s 1) b.words; charges = charged b with_tick }

-- the board after a turn of this actor
abbrev pub turn : Setup → Board → Actor → Board
turn s b actors.Kernel = kernel_turn s b
turn s b (actors.Source i) = source_turn s b i.0
turn s b actors.Clock = clock_turn s b

-- all registers are lost, the clock has gone on in the dark, and a charge begins
abbrev pub cut : Setup → Board → ℕ → Board
cut s b off =
    record {
      words = performed (clock_access s off) b.words;
      kernel = first_kernel;
      rows = replicate (length s.program.sources) first_row;
      charges = slice_set b.charges b.begun (begun off (charge_of b.charges b.begun));
      begun = b.begun + 1;
    }

-- what a job lists: cuts, and turns of one access each
pub data Move : Type 0 where
  Cut : (off : ℕ) → Move
  Turn : (actor : Actor) → Move

-- the board after a cut or a turn
abbrev pub move : Setup → Board → Move → Board
move s b (Cut off) = cut s b off
move s b (Turn actor) = turn s b actor

-- the board after all of these, in order
abbrev pub moved_by : Setup → Board → List Move → Board
moved_by s b [] = b
moved_by s b (m ∷ rest) = moved_by s (move s b m) rest

-- the board before the first charge, with the words of the first image
abbrev pub first_board : Setup → List ℕ → ℕ → Board
first_board s words charges =
    record {
      words = words;
      kernel = first_kernel;
      rows = replicate (length s.program.sources) first_row;
      charges = replicate charges (not_begun (length s.program.sources));
      begun = 0;
    }
