-- What a queue accepted, and the entries of its rule.
use Rattle.std.specs.Prelude.{◌≡◌, List, map}
use Rattle.ink_base.specs.declared.accept.Accept.{Accept}
use Rattle.ink_base.specs.declared.event.Event.{Event}
use Rattle.ink_base.specs.declared.event.Origin.TheVariants as origins
use Rattle.event_queue.specs.Events.{Entry}

-- the event of an entry
abbrev pub event_of : Entry → Event
event_of e = record { origin = origins.Source (record { 0 = e.source }) e.count; value = e.value }

-- what was accepted, by an entry
abbrev pub accept_of : Entry → Accept
accept_of e = record { source = record { 0 = e.source }; reading = e.reading; value = e.value }

-- what was accepted are these entries, in order
abbrev pub AreOf : List Entry → List Accept → Type 0
AreOf entries accepts = accepts ≡ map accept_of entries
