-- The words that a machine finds that goes on ahead of its board: those of its thread's block are kept beside the board.
use Rattle.std.specs.Prelude.{◌≡◌, ◌≢◌, ℕ, ◌+◌, ◌*◌, ◌<◌, ◌≤◌, ◌==◌, false, if◌then◌else◌, List, slice_index, slice_set}
use Rattle.fram_words.specs.Places.{Place, Page, Log, Ring, Memory, Access, Load, Store}
use Rattle.task_isa.specs.declared.program.Program.{Program}
use Rattle.prog_check.specs.Lookup.{thread_def}
use Rattle.ink_layout.specs.Shape.{pages_of}
use Rattle.task_run.specs.declared.machine.TaskMachine.{TaskMachine}
use Rattle.task_run.specs.Remaining.{alone, is_committed, phase_after}
use Rattle.task_run.specs.kept.LeftMost.{left_most}

-- where a word of a page stands in the block: the copies of a page one after the other
abbrev pub block_index : (page copy word : ℕ) → ℕ
block_index page copy word = 16 * page + 8 * copy + word

-- the word of a place
abbrev pub found_at : Memory → (t : ℕ) → (block : List ℕ) → Place → ℕ
found_at words t block (Page u page copy word) = if u == t then slice_index block (block_index page copy word) else words (Page u page copy word)
found_at words t block place = words place

-- the word that an access finds; what a store finds is not looked at
abbrev pub found_by : Memory → (t : ℕ) → (block : List ℕ) → Access → ℕ
found_by words t block (Load place) = found_at words t block place
found_by words t block _ = 0

-- the block with a word that is stored at a place, where that is one of its own
abbrev pub kept_at : (t : ℕ) → (block : List ℕ) → Place → ℕ → List ℕ
kept_at t block (Page u page copy word) value = if u == t then slice_set block (block_index page copy word) value else block
kept_at t block place value = block

-- the block after an access
abbrev pub kept_by : (t : ℕ) → (block : List ℕ) → Access → List ℕ
kept_by t block (Store place value) = kept_at t block place value
kept_by t block _ = block

-- every place but the thread's pages, the logs and the rings, of which a service loads none but its thread's pages
abbrev pub IsElsewhere : (t : ℕ) → Place → Type 0
IsElsewhere t (Page u page copy word) = u ≢ t
IsElsewhere t (Log u n) = ⊥
IsElsewhere t (Ring q n) = ⊥
IsElsewhere t _ = Unit {0}

-- the words that accesses have come to are those of the block, and elsewhere those of the board
pub record IsAhead (program : Program) (words : Memory) (t : ℕ) (block : List ℕ) (now : Memory) : Type 0 where
  pub elsewhere : (p : Place) → IsElsewhere t p → now p ≡ words p
  pub pages : (page copy word : ℕ) → page < pages_of (thread_def program t) → copy < 2 → word < 8 →
      now (Page t page copy word) ≡ slice_index block (block_index page copy word)

-- the machine ahead has made so many accesses, all of them up to the commit: its registers are those of the machine alone
pub record GoesAhead (program : Program) (words : Memory) (self : TaskMachine) (count : ℕ) (r : TaskMachine) (block : List ℕ) : Type 0 where
  pub machine : r ≡ (alone program count (record { words = words; machine = self })).machine
  pub pick : r.pick ≡ self.pick
  pub ahead : is_committed r.phase ≡ false → IsAhead program words self.pick.thread.0 block (alone program count (record { words = words; machine = self })).words
  pub before : (k : ℕ) → k < count → is_committed (phase_after program words self k) ≡ false
  pub bound : count + left_most program r ≤ left_most program self
