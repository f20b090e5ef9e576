use Rattle.std.proofs.Common.{sym, subst}
use Rattle.fram_words.specs.Places.{Memory}
use Rattle.image_checks.specs.Board.{board}
use Rattle.image_checks.specs.Failing.{IsPipeFault, CountFails, ItemFails}
use Rattle.image_checks.proofs.Tests.{granted, refused}
use Rattle.image_checks.proofs.pipes.failing_in.Goals as goal

pub returns-then-not-has_right_counts-clause-fault : goal.returns-then-not-has_right_counts-clause-fault
returns-then-not-has_right_counts-clause-fault c =
    let words : Memory = board c.args.plan.now.accepted c.args.words.now in
    subst (IsPipeFault c.args.plan.now.accepted words c.args.pipe.0) (sym c.written_place.ensures) (CountFails (refused c.if-not-has_right_counts.ensures))

pub returns-in-Some-clause-fault : goal.returns-in-Some-clause-fault
returns-in-Some-clause-fault c =
    let words : Memory = board c.args.plan.now.accepted c.args.words.now in
    subst (IsPipeFault c.args.plan.now.accepted words c.args.pipe.0) (sym c.item_place.ensures.place)
    (ItemFails c.in-Some.item (granted c.if-not-has_right_counts.ensures) c.in-Some.ensures)
