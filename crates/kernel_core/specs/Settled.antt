-- How many readings a source settles in a charge, by the accesses that it makes in it.
use Rattle.std.specs.Prelude.{ℕ, ◌+◌, ◌*◌, ◌<◌, ◌≤◌, ◌==◌, ◌&&◌, not, Bool, false, List, length, count_by, slice_index}
use Rattle.task_isa.specs.declared.program.Program.{Program}
use Rattle.ink_base.specs.declared.entry.Entry.{Entry}
use Rattle.ink_base.specs.declared.entry.Entry.TheVariants.{Push, Skip}
use Rattle.prog_check.specs.Lookup.{thread_def, source_thread}
use Rattle.kernel_core.specs.Record.{ChargeRecord, charge_of}
use Rattle.kernel_core.specs.Board.{Setup, Move, moved_by, first_board}
use Rattle.kernel_core.specs.First.{IsSetup, StandsFirst}
use Rattle.kernel_core.specs.Moves.{AreMoves, IsInRange, ticks, turns}

-- the entry settles a reading of source i: it is pushed, or skipped after its refusal
abbrev pub settles : ℕ → Entry → Bool
settles i (Push source) = source.0 == i
settles i (Skip source) = source.0 == i
settles i _ = false

-- the entry is the push of another source into the queue that source i feeds
abbrev pub pushes_beside : Program → ℕ → Entry → Bool
pushes_beside program i (Push source) = not (source.0 == i) && (source_thread program source.0 == source_thread program i)
pushes_beside program i _ = false

-- The accesses in which a source of a queue of so many places settles m readings, while the others push so many events into it: five for each
-- reading, four for each event of another, and once the loads of all slots and six more. Those are for SRC, ACK, a store of SRC that a cut
-- held off, and a tail that a cut held back.
abbrev pub enough_for : (places others m : ℕ) → ℕ
enough_for places others m = places + 6 + 5 * m + 4 * others

-- with so many accesses in a charge source i settles m readings there at least
abbrev pub SettlesEnough : Program → ℕ → ChargeRecord → Type 0
SettlesEnough program i charge =
    (m : ℕ) → enough_for (thread_def program (source_thread program i)).queue (count_by (pushes_beside program i) charge.entries) m ≤ slice_index charge.source_steps i →
    m ≤ count_by (settles i) charge.entries

-- and so does each source in each charge
abbrev pub ChargesSettle : Program → List ChargeRecord → Type 0
ChargesSettle program charges = (n i : ℕ) → i < length program.sources → SettlesEnough program i (charge_of charges n)

-- from any words that stand for a state at which a run can begin, whatever order of turns and cuts is listed
abbrev pub SourcesSettle : Type 0
SourcesSettle =
    (s : Setup) (words : List ℕ) (charges : ℕ) (moves : List Move) → IsSetup s → StandsFirst s words → AreMoves s charges 0 moves → IsInRange s.first (ticks moves) (turns moves) →
    ChargesSettle s.program (moved_by s (first_board s words charges) moves).charges
