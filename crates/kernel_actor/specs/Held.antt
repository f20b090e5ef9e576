-- What a queue holds, by what the kernel has seen of it.
use Rattle.std.specs.Prelude.{◌≡◌, ℕ, List, [], ◌∷◌, Option, Some, None}
use Rattle.ink_base.specs.declared.event.Event.{Event}
use Rattle.push_core.specs.Queue.{event_word}

-- the queue holds the event that was seen next, if any, and no other
abbrev pub IsHeld : Option ℕ → ℕ → List Event → Type 0
IsHeld None r held = held ≡ []
IsHeld (Some w) r held = (e : Event) × (held ≡ e ∷ []) × (w ≡ event_word r e)
