-- A pipe by its counts: how many items were written and taken since the start, and the ring of words that holds those between.
use Rattle.std.specs.Prelude.{ℕ, ◌+◌, ◌-◌, ◌%◌, nat_lt, Bool}

-- the ring word of the item of this number
abbrev pub ring_index : (places count : ℕ) → ℕ
ring_index places count = count % places

-- an item was written and not yet taken
abbrev pub has_item : (written taken : ℕ) → Bool
has_item written taken = nat_lt taken written

-- fewer items wait than the pipe has places
abbrev pub has_room : (places written taken : ℕ) → Bool
has_room places written taken = nat_lt (written - taken) places
