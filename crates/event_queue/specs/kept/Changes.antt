-- A table, or the calls in one role, change at one key.
use Rattle.std.specs.Prelude.{◌≡◌, ◌≢◌, ◌==◌, ℕ, List, if◌then◌else◌}
use Rattle.event_queue.specs.declared.view.Call.{Call}
use Rattle.event_queue.specs.Rule.{Calls}

-- new has this value at the key, and what old has elsewhere
pub record Becomes {K V : Type 0} (key : K) (value : V) (old new : K → V) : Type 0 where
  pub here : new key ≡ value
  pub elsewhere : (k : K) → k ≢ key → new k ≡ old k

-- the table with this value at this number
abbrev pub put : {A : Type 0} → (ℕ → A) → ℕ → A → ℕ → A
put f i x j = if j == i then x else f j

-- the calls of one source become others
abbrev pub with_source : Calls → ℕ → List Call → Calls
with_source h i calls = record { kernel = h.kernel; clock = h.clock; source = put h.source i calls }

-- the calls of the kernel become others
abbrev pub with_kernel : Calls → List Call → Calls
with_kernel h calls = record { kernel = calls; clock = h.clock; source = h.source }

-- the calls of the clock become others
abbrev pub with_clock : Calls → List Call → Calls
with_clock h calls = record { kernel = h.kernel; clock = calls; source = h.source }
