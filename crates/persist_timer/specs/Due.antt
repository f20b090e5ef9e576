-- A timer by its word, which is 0 for off and else the tick at which it is due, plus 1; and when a chain has run too long.
use Rattle.std.specs.Prelude.{ℕ, ◌+◌, ◌-◌, ◌==◌, ◌&&◌, nat_lt, nat_le, Bool, if◌then◌else◌, Some}
use Rattle.fram_words.specs.Held.{due_word}

-- due at or before a time
abbrev pub is_due : (word time : ℕ) → Bool
is_due word time = nat_lt 0 word && nat_le (word - 1) time

-- the word once a due timer is consumed: one period later, or off where it has none
abbrev pub after_service : (word period : ℕ) → ℕ
after_service word period = if period == 0 then 0 else word + period

-- the word of a timer that is set at a time, to be due after a delay
abbrev pub armed : (time delay : ℕ) → ℕ
armed time delay = due_word (Some (time + delay))

-- more ticks went by since the chain's first commit than it may take
abbrev pub is_expired : (expires first time : ℕ) → Bool
is_expired expires first time = nat_lt expires (time - first)
