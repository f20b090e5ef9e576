-- Each place that a source wants is one of the board.
use Rattle.kernel_core.proofs.Common.{ℕ, ◌%◌, ◌<◌, length, arith, mod-lt, Memory, place_of, thread_def, source_thread, Row, Stage, LoadSrc, LoadSlots, LoadAck, LoadTail, LoadSlot, Publish, MoveTail, HelpTail, StoreSkip, StoreAccepted, access, access_at, places_for, Near, Kept, IsOnBoard, Model, Setup, sides, seen, IsSetup}
use Rattle.source_laws.specs.kept.Knows.{KnowsAt}

-- the slot to load in the boot is one of the queue
abbrev IsSlotOf : ℕ → Stage → Type 0
IsSlotOf places (LoadSlots n found) = n < places
IsSlotOf places stage = Unit {0}

slot_there : (s : Setup) (i p : ℕ) → IsSetup s → i < length s.program.sources →
    (source_thread s.program i < length s.program.threads) × (p % places_for (sides s) i < (thread_def s.program (source_thread s.program i)).queue)
slot_there s i p g lt =
    let known = g.accepted.sources i lt in
    let few = (g.accepted.threads (source_thread s.program i) known).queue_least in
    (known, mod-lt p (omega arith))

stage_on : (s : Setup) (i a k : ℕ) (stage : Stage) → IsSetup s → i < length s.program.sources → IsSlotOf (thread_def s.program (source_thread s.program i)).queue stage →
    IsOnBoard s.program (place_of (access_at (sides s) i a k stage))
stage_on s i a k LoadSrc g lt h = lt
stage_on s i a k (LoadSlots n found) g lt h = (g.accepted.sources i lt, h)
stage_on s i a k (LoadAck found) g lt h = lt
stage_on s i a k LoadTail g lt h = g.accepted.sources i lt
stage_on s i a k (LoadSlot p) g lt h = slot_there s i p g lt
stage_on s i a k (Publish p) g lt h = slot_there s i p g lt
stage_on s i a k (MoveTail p) g lt h = g.accepted.sources i lt
stage_on s i a k (HelpTail p) g lt h = g.accepted.sources i lt
stage_on s i a k StoreSkip g lt h = lt
stage_on s i a k StoreAccepted g lt h = lt

slot_known : (i places readings : ℕ) (n : Near) (a k : ℕ) (stage : Stage) → KnowsAt i places readings n a k stage → IsSlotOf places stage
slot_known i places readings n a k (LoadSlots slot found) h = h.1
slot_known i places readings n a k _ h = tt

pub source_on : (s : Setup) (words : Memory) (m : Model) (rows : ℕ → Row) (i : ℕ) → IsSetup s → i < length s.program.sources → Kept (sides s) (seen words m rows) →
    IsOnBoard s.program (place_of (access (sides s) i (rows i)))
source_on s words m rows i g lt h =
    stage_on s i (rows i).accepted (rows i).next (rows i).stage g lt
    (slot_known i (places_for (sides s) i) _ _ (rows i).accepted (rows i).next (rows i).stage (h.sources i).knows)
