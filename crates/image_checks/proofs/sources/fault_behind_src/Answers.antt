use Rattle.std.proofs.Common.{sym, subst}
use Rattle.fram_words.specs.Places.{Memory}
use Rattle.image_checks.specs.Board.{board}
use Rattle.image_checks.specs.Failing.{IsSourceFault, EventFails, AckFails}
use Rattle.image_checks.proofs.Tests.{refused}
use Rattle.image_checks.proofs.sources.fault_behind_src.Goals as goal

pub returns-in-Some-clause-fault : goal.returns-in-Some-clause-fault
returns-in-Some-clause-fault c =
    let words : Memory = board c.args.plan.now.accepted c.args.words.now in
    subst (IsSourceFault c.args.plan.now.accepted words c.args.source.0) (sym c.held_place.ensures.place) (EventFails c.in-Some.j c.requires.src c.in-Some.ensures)

pub returns-else-is_ack_right-clause-fault : goal.returns-else-is_ack_right-clause-fault
returns-else-is_ack_right-clause-fault c = AckFails c.requires.src c.in-None.ensures (refused c.if-is_ack_right.ensures)
