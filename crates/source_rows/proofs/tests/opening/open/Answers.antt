use Rattle.std.proofs.Common.{sym, subst, ap, length}
use Rattle.event_queue.specs.Seats.{IsNewSource, IsSeatOf}
use Rattle.source_rows.proofs.Opened.{is_port, is_port_of, first_seat}
use Rattle.source_rows.proofs.tests.opening.open.Goals as goal

-- the seat of the queue's source
seat_is : (c : goal.After-swap_remove-seat) → IsNewSource c.in_ok-set.set 0 c.swap_remove-seat.result
seat_is c = first_seat c.in_ok-set.set c.in_ok-set.seats.items _ c.swap_remove-seat.result c.in_ok-set.ensures.sources.1 c.in_ok-set.ensures.sources.0 (ap length c.in_ok-shape.ensures.1) c.swap_remove-seat.ensures.value

pub new-requires-2-clause-seat : goal.new-requires-2-clause-seat
new-requires-2-clause-seat c = (seat_is c).calls

pub new-requires-2-clause-port : goal.new-requires-2-clause-port
new-requires-2-clause-port c = (is_port c.args.places c.requires.places.0 c.requires.places.1, is_port_of c.in_ok-set.set c.in_ok-shape.shape c.args.places c.swap_remove-seat.result c.in_ok-set.ensures.shape c.in_ok-shape.ensures (seat_is c))

pub returns-clause-source : goal.returns-clause-source
returns-clause-source c =
    let seat : IsNewSource c.in_ok-set.set 0 c.swap_remove-seat.result =
    first_seat c.in_ok-set.set c.in_ok-set.seats.items _ c.swap_remove-seat.result c.in_ok-set.ensures.sources.1 c.in_ok-set.ensures.sources.0 (ap length c.in_ok-shape.ensures.1) c.swap_remove-seat.ensures.value in
    (subst (IsSeatOf c.in_ok-set.set) (sym c.in_ok-source.ensures.source.1) seat.of, c.in_ok-source.ensures.charges.1, c.in_ok-source.ensures.charges.0)
