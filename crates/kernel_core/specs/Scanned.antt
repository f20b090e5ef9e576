-- Each commit of a charge stands behind a scan of the same charge: no pick outlives a cut.
use Rattle.std.specs.Prelude.{◌≡◌, ℕ, ◌<◌, List, slice_index_or}
use Rattle.ink_base.specs.declared.ids.ThreadId.{ThreadId}
use Rattle.ink_base.specs.declared.entry.Entry.{Entry}
use Rattle.ink_base.specs.declared.entry.Entry.TheVariants.{Tick, Scan, Commit}
use Rattle.kernel_core.specs.Record.{ChargeRecord, charge_of}
use Rattle.kernel_core.specs.Board.{Setup, Move, moved_by, first_board}
use Rattle.kernel_core.specs.Moves.{AreMoves}

-- one of the entries; behind the last a tick, which is neither a scan nor a commit
abbrev pub entry_at : List Entry → ℕ → Entry
entry_at entries k = slice_index_or entries k (Tick 0)

-- before each commit there is a scan
abbrev pub CommitsAreScanned : List Entry → Type 0
CommitsAreScanned entries = (k : ℕ) (thread : ThreadId) → entry_at entries k ≡ Commit thread → (j : ℕ) × (j < k) × (entry_at entries j ≡ Scan)

-- and so in each charge, by the charge's own entries
abbrev pub ChargesAreScanned : List ChargeRecord → Type 0
ChargesAreScanned charges = (n : ℕ) → CommitsAreScanned (charge_of charges n).entries

-- whatever order of turns and cuts is listed, of whatever program and from whatever words on
abbrev pub EveryCommitScanned : Type 0
EveryCommitScanned = (s : Setup) (words : List ℕ) (charges : ℕ) (moves : List Move) → AreMoves s charges 0 moves → ChargesAreScanned (moved_by s (first_board s words charges) moves).charges
