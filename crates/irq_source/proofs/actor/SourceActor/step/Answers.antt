use Rattle.irq_source.proofs.Common.{◌≡◌, ℕ, ◌-◌, ◌<◌, ◌≤◌, known, settled_of, List, length, sym, ◌∙◌, subst, Point, point_of, take_of, gone_of, view, HasMade, IsLeft, calls_of, tail_in, slice_index}
use Rattle.irq_source.specs.Acting.{Acting, knows}
use Rattle.irq_source.specs.Rows.{Grows, Place, LeadsOne}
use Rattle.irq_source.proofs.Accounts.{settled_kept}
use Rattle.irq_source.proofs.Growth.{grows_one}
use Rattle.irq_source.proofs.Steps.{HasNoted, room_pushed, actor_stepped, actor_accounted}
use Rattle.irq_source.proofs.actor.SourceActor.step.Goals as goal

-- the access, the row that follows, and the lists, by the actor's own readings
made : (c : goal.After-note) → HasMade c.args.set.now c.self.inside.pusher.port c.self.inside.readings.items c.self.inside.pusher.row c.self.inside.src c.self.inside.seat c.make_access-word.new.seat c.make_access-word.result c.make_access-word.new.src
made c = subst (λ (rs : List ℕ). HasMade c.args.set.now c.self.inside.pusher.port rs c.self.inside.pusher.row c.self.inside.src c.self.inside.seat c.make_access-word.new.seat c.make_access-word.result c.make_access-word.new.src) c.as_slice-readings.ensures.value c.make_access-word.ensures

follows : (c : goal.After-note) → c.take-point.new.self.row ≡ take_of c.self.inside.pusher.port (length c.self.inside.readings.items) c.self.inside.pusher.row c.make_access-word.result
follows c = subst (λ (rs : List ℕ). c.take-point.new.self.row ≡ take_of c.self.inside.pusher.port (length rs) c.self.inside.pusher.row c.make_access-word.result) c.as_slice-readings.ensures.value c.take-point.ensures.row

noted : (c : goal.After-note) → HasNoted c.self.inside.readings.items (c.self.inside.begun - 1) c.self.inside.pusher.row (point_of c.self.inside.pusher.port.queue.places c.self.inside.pusher.row.stage c.make_access-word.result) c.self.inside.lists c.note.new.self
noted c =
    subst (λ (z : List ℕ × Point). HasNoted z.0 (c.self.inside.begun - 1) c.self.inside.pusher.row z.1 c.self.inside.lists c.note.new.self) (λ j. (c.as_slice-readings.ensures.value j, c.take-point.ensures.point j))
    (record { accepted = c.note.ensures.accepted; refused = c.note.ensures.refused; accepted_room = c.note.ensures.accepted_room; refused_room = c.note.ensures.refused_room })

pub note-requires-clause-pushed : goal.note-requires-clause-pushed
note-requires-clause-pushed c e =
    let fits = room_pushed {pusher = c.self.inside.pusher} c.make_access-word.result c.self.invariant (sym c.take-point.ensures.point ∙ e) in
    (subst (λ (rs : List ℕ). c.self.inside.pusher.row.next < length rs) (sym c.as_slice-readings.ensures.value) fits.0, fits.1)

pub invariant_of-self : goal.invariant_of-self
invariant_of-self c =
    actor_stepped {pusher = c.self.inside.pusher} c.make_access-word.result c.take-point.new.self c.note.new.self (subst (λ (a : Acting). 0 < a.begun) (sym c.self.view_is) c.requires.begun) (made c) c.take-point.ensures.port (follows c) (noted c) c.self.invariant

pub returns-clause-leads : goal.returns-clause-leads
returns-clause-leads c =
    let new : Place = record { row = c.take-point.new.self.row; src = c.make_access-word.new.src; calls = calls_of (view c.make_access-word.new.seat); accepted = c.note.new.self.accepted; refused = c.note.new.self.refused } in
    subst (λ (a : Acting). LeadsOne a.port a.readings (a.begun - 1) a.place new) c.self.view_is
    (record {
      left = subst (λ (a : Acting). IsLeft (length a.readings) a.place.row) (sym c.self.view_is) c.requires.left;
      word = c.make_access-word.result;
      found = (made c).found;
      row = follows c;
      accepted = (noted c).accepted;
      refused = (noted c).refused;
    })

pub returns-clause-grows : goal.returns-clause-grows
returns-clause-grows c =
    let new : Place = record { row = c.take-point.new.self.row; src = c.make_access-word.new.src; calls = calls_of (view c.make_access-word.new.seat); accepted = c.note.new.self.accepted; refused = c.note.new.self.refused } in
    subst (λ (a : Acting). Grows a.port.queue.places (knows a).gone (a.begun - 1) a.place new) c.self.view_is
    (grows_one c.self.inside.pusher.port.queue.places (gone_of (view c.self.inside.seat) c.self.inside.seat.source.0) (c.self.inside.begun - 1) (tail_in c.self.inside.pusher.row.stage) c.self.inside.pusher.row.next
    (slice_index c.self.inside.readings.items c.self.inside.pusher.row.next) _ new (point_of c.self.inside.pusher.port.queue.places c.self.inside.pusher.row.stage c.make_access-word.result) (made c).refuses (noted c).accepted (noted c).refused)

pub returns-clause-settles : goal.returns-clause-settles
returns-clause-settles c =
    subst (λ (a : Acting). settled_of a.place.src (knows a) ≤ settled_of c.make_access-word.new.src (known (view c.make_access-word.new.seat) c.make_access-word.new.seat.source.0)) c.self.view_is
    (settled_kept c.self.inside.pusher.row.stage (made c) c.self.invariant.stands)

pub returns-clause-account : goal.returns-clause-account
returns-clause-account c = actor_accounted {pusher = c.take-point.new.self} {charges = c.self.inside.charges} (invariant_of-self c)
