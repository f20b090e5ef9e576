-- What the pace of a source tells, and the rows that it goes through.
use Rattle.kernel_core.proofs.Common.{◌≡◌, ℕ, ◌+◌, ◌%◌, ◌≤◌, ◌==◌, ◌&&◌, ◌||◌, cond, nat_lt, Bool, true, false, Option, Some, None, arith, Stage, LoadSrc, LoadSlots, LoadAck, LoadTail, LoadSlot, Publish, MoveTail, HelpTail, StoreSkip, StoreAccepted, Near, empty_word, slot_in}
use Rattle.push_core.specs.Queue.{published}
use Rattle.push_core.specs.Table.{after_slot, shows_own, take_at}
use Rattle.push_core.specs.declared.port.Port.{Port}
use Rattle.push_core.specs.declared.slot.Slot.{Slot}
use Rattle.push_core.specs.declared.slot.Slot.TheVariants.{Empty, Full}
use Rattle.source_laws.specs.kept.Knows.{KnowsAt}
use Rattle.kernel_core.specs.Settled.{enough_for}
use Rattle.kernel_core.specs.kept.Paces.{spent, reach, IsPaced}

-- a row that a source can be in: no access of its boot is too many, and it has come no further than the events
within_row : (i places readings a k : ℕ) (n : Near) (stage : Stage) → KnowsAt i places readings n a k stage → n.tail ≤ published n.queue → (spent places stage ≤ places + 6) × (reach n.tail stage ≤ published n.queue)
within_row i places readings a k n LoadSrc knows low = omega arith
within_row i places readings a k n (LoadSlots slot seen) knows low = let lt = knows.1 in (omega arith, low)
within_row i places readings a k n (LoadAck seen) knows low = omega arith
within_row i places readings a k n LoadTail knows low = omega arith
within_row i places readings a k n (LoadSlot p) knows low = let at = knows.2 in omega arith
within_row i places readings a k n (Publish p) knows low = let at = knows.2 in omega arith
within_row i places readings a k n (MoveTail p) knows low = let at = knows.1 in omega arith
within_row i places readings a k n (HelpTail p) knows low = let at = knows.2 in omega arith
within_row i places readings a k n StoreSkip knows low = omega arith
within_row i places readings a k n StoreAccepted knows low = omega arith

-- so it has settled as many readings as its accesses are worth
pub paced_enough : (i places readings a k : ℕ) (n : Near) (stage : Stage) (made settled others m : ℕ) → KnowsAt i places readings n a k stage → n.tail ≤ published n.queue →
    IsPaced places made settled others n.tail (published n.queue) stage → enough_for places others m ≤ made → m ≤ settled
paced_enough i places readings a k n stage made settled others m knows low p enough =
    let w = within_row i places readings a k n stage knows low in
    omega (arith, w.0, w.1, p.accesses, p.tails)

-- the tail rises
reach_up : (tail next : ℕ) (stage : Stage) → tail ≤ next → reach tail stage ≤ reach next stage
reach_up tail next (LoadSlot p) up = omega arith
reach_up tail next (Publish p) up = omega arith
reach_up tail next (MoveTail p) up = omega arith
reach_up tail next (HelpTail p) up = omega arith
reach_up tail next _ up = up

-- an access of another leaves the pace, where each event more that stands in the queue is the push of another
pub others_pace : (places made settled others tail events : ℕ) (stage : Stage) (same more beside up now : ℕ) → same ≤ made → settled ≤ more → tail ≤ up → now + others ≤ events + beside →
    IsPaced places made settled others tail events stage → IsPaced places same more beside up now stage
others_pace places made settled others tail events stage same more beside up now fewer further rises few p =
    record { helped = p.helped; accesses = omega (arith, p.accesses); tails = let r = reach_up tail up stage rises in omega (arith, p.tails) }

-- a boot begins
pub boot_pace : (places tail events : ℕ) → events ≤ tail + 1 → IsPaced places 0 0 0 tail events LoadSrc
boot_pace places tail events near = record { helped = 0; accesses = omega arith; tails = omega arith }

-- an access leads to another row
after_slot_moves : (places p : ℕ) (o : Option Slot) → after_slot places p o ≡ LoadSlot p → ⊥
after_slot_moves places p None e = cc
after_slot_moves places p (Some (Empty q)) e = by_test (q == p) e
  where
    by_test : (b : Bool) → cond b (Publish p) (HelpTail p) ≡ LoadSlot p → ⊥
    by_test true e = cc
    by_test false e = cc
after_slot_moves places p (Some (Full q i c v)) e = by_test (q + places == p) e
  where
    by_test : (b : Bool) → cond b StoreSkip (HelpTail p) ≡ LoadSlot p → ⊥
    by_test true e = cc
    by_test false e = cc

pub row_moves : (port : Port) (number a k : ℕ) (stage : Stage) (word : ℕ) → (take_at port number a k stage word).stage ≡ stage → ⊥
row_moves port number a k LoadSrc word e = cc
row_moves port number a k (LoadSlots n seen) word e = by_test (nat_lt (n + 1) port.queue.places) (seen || shows_own port.source a (slot_in word)) e
  where
    by_test : (b now : Bool) → cond b (LoadSlots (n + 1) now) (LoadAck now) ≡ LoadSlots n seen → ⊥
    by_test true now e = let same : n + 1 ≡ n = cc in omega arith
    by_test false now e = cc
row_moves port number a k (LoadAck seen) word e = by_test (nat_lt k number && (seen || word == (a + 1) % 64)) e
  where
    by_test : (b : Bool) → cond b StoreAccepted LoadTail ≡ LoadAck seen → ⊥
    by_test true e = cc
    by_test false e = cc
row_moves port number a k LoadTail word e = cc
row_moves port number a k (LoadSlot p) word e = after_slot_moves port.queue.places p (slot_in word) e
row_moves port number a k (Publish p) word e = by_test (word == empty_word p) e
  where
    by_test : (b : Bool) → cond b (MoveTail p) (HelpTail p) ≡ Publish p → ⊥
    by_test true e = cc
    by_test false e = cc
row_moves port number a k (MoveTail p) word e = cc
row_moves port number a k (HelpTail p) word e = cc
row_moves port number a k StoreSkip word e = cc
row_moves port number a k StoreAccepted word e = cc
