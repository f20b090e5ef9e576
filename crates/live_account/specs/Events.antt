-- The events that a queue has had, by what it accepted.
use Rattle.std.specs.Prelude.{ℕ, ◌==◌, Bool, List, [], ◌∷◌, ◌++◌, count_by}
use Rattle.ink_base.specs.declared.accept.Accept.{Accept}
use Rattle.ink_base.specs.declared.event.Event.{Event}
use Rattle.push_core.specs.Queue.{reading_event}

-- it is of source i
abbrev pub is_of : ℕ → Accept → Bool
is_of i a = a.source.0 == i

-- how many of these are of source i
abbrev pub number_of : ℕ → List Accept → ℕ
number_of i accepts = count_by (is_of i) accepts

-- the event of what was accepted behind these: it has as its count, modulo 64, the number of those of its own source
abbrev pub event_behind : List Accept → Accept → Event
event_behind before a = reading_event a.source.0 (number_of a.source.0 before) a.value

-- the events of what was accepted behind these, in order
abbrev pub events_behind : (before accepts : List Accept) → List Event
events_behind before [] = []
events_behind before (a ∷ accepts) = event_behind before a ∷ events_behind (before ++ a ∷ []) accepts

-- all events of a queue, in order
abbrev pub events_of : List Accept → List Event
events_of accepts = events_behind [] accepts
