use Rattle.old_image.proofs.Common.{Memory}
use Rattle.fram_words.specs.Steps.{place_of}
use Rattle.ink_layout.specs.Shape.{IsOnBoard}
use Rattle.image_checks.specs.Board.{board}
use Rattle.old_image.specs.Failing.{IsFirstFailingOld}
use Rattle.old_image.proofs.Faults.{failing_there, some_map}
use Rattle.old_image.proofs.failing.first_failing_old.Goals as goal

pub returns-in-Some-clause-there : goal.returns-in-Some-clause-there
returns-in-Some-clause-there c =
    failing_there c.args.plan.now.accepted (board c.args.plan.now.accepted c.args.words.now) (place_of c.in-Some.place) c.program-program.ensures.accepted c.in-Some.ensures.first

pub returns-in-None-clause-there : goal.returns-in-None-clause-there
returns-in-None-clause-there c =
    let words : Memory = board c.args.plan.now.accepted c.args.words.now in
    some_map (λ place. IsFirstFailingOld c.args.plan.now.accepted words (place_of place)) (λ place. IsOnBoard c.args.plan.now.accepted (place_of place))
    c.failing_shared.result (λ place first. failing_there c.args.plan.now.accepted words (place_of place) c.program-program.ensures.accepted first)
    c.failing_shared.ensures.first
