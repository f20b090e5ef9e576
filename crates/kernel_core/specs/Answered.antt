-- A charge with enough accesses of the kernel answers so many scans: each is followed by a commit, or shows that no thread has an event to serve.
use Rattle.std.specs.Prelude.{◌≡◌, ◌≢◌, ◌⊎◌, ℕ, ◌+◌, ◌*◌, ◌<◌, ◌≤◌, List, ◌++◌, length, take, None}
use Rattle.ink_base.specs.declared.ids.ThreadId.{ThreadId}
use Rattle.ink_base.specs.declared.entry.Entry.{Entry}
use Rattle.ink_base.specs.declared.entry.Entry.TheVariants.{Scan, Look, Commit}
use Rattle.never_cut.specs.declared.model.Model.{Model}
use Rattle.never_cut.specs.Bounds.{boot_bound, round_bound}
use Rattle.never_cut.specs.Journal.{after}
use Rattle.never_cut.specs.Pending.{pending}
use Rattle.kernel_core.specs.Record.{ChargeRecord, charge_of, journal_of}
use Rattle.kernel_core.specs.Board.{Setup, Move, moved_by, first_board}
use Rattle.kernel_core.specs.First.{IsSetup, StandsFirst}
use Rattle.kernel_core.specs.Moves.{AreMoves, ticks, turns, IsInRange}
use Rattle.kernel_core.specs.Scanned.{entry_at}

-- the state after the entries of the charges before, and after the first so many of the charge's own
abbrev pub state_after : Setup → (before entries : List Entry) → (count : ℕ) → Model
state_after s before entries count = after s.program s.readings s.first (before ++ take count entries)

-- between these places a commit stands
abbrev pub HasCommit : List Entry → (from to : ℕ) → Type 0
HasCommit entries from to = (j : ℕ) × (from < j) × (j < to) × (thread : ThreadId) × (entry_at entries j ≡ Commit thread)

-- between these places a look at thread t stands
abbrev pub HasLook : List Entry → (from to t : ℕ) → Type 0
HasLook entries from to t = (j : ℕ) × (from < j) × (j < to) × (entry_at entries j ≡ Look (record { 0 = t }))

-- between these places every thread was looked at, and after them no thread has a pending event
pub record IsAllQuiet (s : Setup) (before entries : List Entry) (from to : ℕ) : Type 0 where
  pub looks : (t : ℕ) → t < length s.program.threads → HasLook entries from to t
  pub nothing : (t : ℕ) → t < length s.program.threads → pending s.program (state_after s before entries to) t ≡ None

-- A scan among a charge's entries is answered: before the next scan and within the charge a commit follows, or looks at all threads follow after which no
-- thread has a pending event.
pub record IsAnswered (s : Setup) (before entries : List Entry) (at : ℕ) : Type 0 where
  pub scan : entry_at entries at ≡ Scan
  pub to : ℕ
  pub behind : at < to
  pub within : to ≤ length entries
  pub last : (j : ℕ) → at < j → j < to → entry_at entries j ≢ Scan
  pub answer : HasCommit entries at to ⊎ IsAllQuiet s before entries at to

-- so many scans of the charge are answered, at places that rise
pub record HasAnswered (s : Setup) (before entries : List Entry) (count : ℕ) : Type 0 where
  pub place : ℕ → ℕ
  pub rising : (a b : ℕ) → a < b → b < count → place a < place b
  pub answered : (a : ℕ) → a < count → IsAnswered s before entries (place a)

-- A charge with the accesses of a boot and of so many rounds has as many answered scans, and one with more than those of a boot has a scan.
pub record IsPaced (s : Setup) (before : List Entry) (charge : ChargeRecord) : Type 0 where
  pub boots : boot_bound s.program < charge.kernel_steps → (j : ℕ) × (j < length charge.entries) × (entry_at charge.entries j ≡ Scan)
  pub answers : (count : ℕ) → boot_bound s.program + count * round_bound s.program ≤ charge.kernel_steps → HasAnswered s before charge.entries count

-- and so each charge
abbrev pub ChargesArePaced : Setup → List ChargeRecord → Type 0
ChargesArePaced s charges = (n : ℕ) → IsPaced s (journal_of charges n) (charge_of charges n)

-- From any words that stand for a state at which a run can begin, and whatever order of turns and cuts is listed.
abbrev pub EveryChargePaced : Type 0
EveryChargePaced =
    (s : Setup) (words : List ℕ) (charges : ℕ) (moves : List Move) → IsSetup s → StandsFirst s words → AreMoves s charges 0 moves → IsInRange s.first (ticks moves) (turns moves) →
    ChargesArePaced s (moved_by s (first_board s words charges) moves).charges
