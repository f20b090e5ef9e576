use Rattle.std.proofs.Common.{sym, subst}
use Rattle.fram_words.specs.Places.{Memory}
use Rattle.image_checks.specs.Board.{board}
use Rattle.image_checks.proofs.Tests.{granted, refused}
use Rattle.old_image.specs.Failing.{IsOldSourceFault, ReadingFails, AckFails}
use Rattle.old_image.proofs.sources.source_fault.Goals as goal

pub returns-in-Some-clause-fault : goal.returns-in-Some-clause-fault
returns-in-Some-clause-fault c =
    let words : Memory = board c.args.plan.now.accepted c.args.words.now in
    subst (IsOldSourceFault c.args.plan.now.accepted words c.args.source.0) (sym c.held_slot.ensures.place) (ReadingFails c.in-Some.place c.in-Some.ensures)

pub returns-then-is_ack_right-clause-none : goal.returns-then-is_ack_right-clause-none
returns-then-is_ack_right-clause-none c = record { rising = c.in-None.ensures; ack = granted c.if-is_ack_right.ensures }

pub returns-else-is_ack_right-clause-fault : goal.returns-else-is_ack_right-clause-fault
returns-else-is_ack_right-clause-fault c = AckFails c.in-None.ensures (refused c.if-is_ack_right.ensures)
