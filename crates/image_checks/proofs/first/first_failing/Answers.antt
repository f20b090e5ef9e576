use Rattle.std.proofs.Common.{subst, IfNone, IfSome, Option}
use Rattle.fram_words.specs.Places.{Memory}
use Rattle.fram_words.specs.Steps.{place_of}
use Rattle.fram_words.specs.declared.place.Place.{Place}
use Rattle.never_cut.specs.Image.{IsImage}
use Rattle.image_checks.specs.Board.{board}
use Rattle.image_checks.specs.Failing.{IsFirstFailing}
use Rattle.image_checks.proofs.Firsts.{failing_there}
use Rattle.image_checks.proofs.first.first_failing.Goals as goal

pub returns-clause-none : goal.returns-clause-none
returns-clause-none c = λ e.
    let words : Memory = board c.args.plan.now.accepted c.args.words.now in
    subst (λ (found : Option Place). IfNone found (IsImage c.args.plan.now.accepted words)) e c.failing_check.ensures.none

pub returns-clause-first : goal.returns-clause-first
returns-clause-first c = λ place e.
    let words : Memory = board c.args.plan.now.accepted c.args.words.now in
    subst (λ (found : Option Place). IfSome found (λ p. IsFirstFailing c.args.plan.now.accepted words (place_of p))) e c.failing_check.ensures.first

pub returns-clause-there : goal.returns-clause-there
returns-clause-there c = λ place e.
    let words : Memory = board c.args.plan.now.accepted c.args.words.now in
    failing_there c.args.plan.now.accepted words (place_of place) c.program-program.ensures.accepted
    (subst (λ (found : Option Place). IfSome found (λ p. IsFirstFailing c.args.plan.now.accepted words (place_of p))) e c.failing_check.ensures.first)
