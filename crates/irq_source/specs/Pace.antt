-- How many readings a source settles in a charge, by the accesses that it makes in it.
use Rattle.std.specs.Prelude.{◌≡◌, ◌⊎◌, ℕ, ◌+◌, ◌*◌, ◌/◌, ◌^◌, ◌≤◌, length}
use Rattle.push_core.specs.Table.{IsSettled, first_row}
use Rattle.event_queue.specs.Calls.{Knows}
use Rattle.irq_source.specs.Rows.{Place}

-- The accesses in which a source of a queue of so many places settles m readings, where the others have so many events in it: five for each
-- reading, four for each event of another, and once the loads of all slots and six more. Those are for SRC, ACK, a store of SRC that a cut
-- held off, and a tail that a cut held back.
abbrev pub enough_for : (places others m : ℕ) → ℕ
enough_for places others m = places + 6 + 5 * m + 4 * others

-- of the positions that the seat knows to be published, at most so many are not its own
abbrev pub KnowsOthers : (others : ℕ) → Knows → Type 0
KnowsOthers others s = s.out ≤ length s.mine + others

-- With so many accesses from a cut on, SRC counts m readings more as settled, or all readings are settled
abbrev pub SettlesEnough : (places number budget : ℕ) → (old new : Place) → Knows → Type 0
SettlesEnough places number budget old new s =
    old.row ≡ first_row → (m others : ℕ) → enough_for places others m ≤ budget → KnowsOthers others s → (old.src / 2 ^ 32 + m ≤ new.src / 2 ^ 32) ⊎ IsSettled number new.row
