-- What the parts of a source are asked.
use Rattle.std.specs.Prelude.{◌≡◌, ℕ, ◌+◌, ◌-◌, ◌%◌, ◌≤◌, Option, Some, None}
use Rattle.ink_base.specs.declared.event.Event.{Event}
use Rattle.ink_base.specs.declared.event.Origin.{Origin}
use Rattle.push_core.specs.Queue.{event_source, event_count}

-- the event isn't of source i, or it has the count behind so many of the own events that it holds, of so many accepted ones
abbrev pub HasCount : (i : ℕ) → Event → (accepted own before : ℕ) → Type 0
HasCount i e accepted own before = event_source e ≡ i → (own ≤ accepted) × (event_count e ≡ (accepted - own + before) % 64)

-- there is an event, of this origin
abbrev pub HasOrigin : Origin → Option Event → Type 0
HasOrigin origin None = ⊥
HasOrigin origin (Some e) = e.origin ≡ origin
