use Rattle.old_image.proofs.Common.{◌≡◌, length, take, ap, ◌∙◌, arith, Memory, old_held, old_held_for, own_old}
use Rattle.image_checks.specs.Board.{board}
use Rattle.old_image.proofs.NewWords.{inside, places_few}
use Rattle.old_image.proofs.renewing.count_of.Goals as goal

pub own_before-requires-clause-held : goal.own_before-requires-clause-held
own_before-requires-clause-held c =
    let words : Memory = board c.args.plan.now.accepted c.args.words.now in
    let held = c.requires.held in
    let same : length (old_held_for c.args.plan.now.accepted words c.args.source.0) ≡ length (old_held c.args.plan.now.accepted words c.args.thread.0) =
    ap (λ t. length (old_held c.args.plan.now.accepted words t)) c.requires.own in
    omega arith

pub overflow_cast-result : goal.overflow_cast-result
overflow_cast-result c =
    let within = inside c.args.plan.now.accepted (board c.args.plan.now.accepted c.args.words.now) c.args.thread.0 c.args.place c.requires.held in
    let few = places_few c.args.plan.now.accepted c.args.thread.0 c.program-program.ensures.accepted c.requires.fed in
    omega (arith, c.own_before.ensures.few, within, few)

pub returns-clause-own : goal.returns-clause-own
returns-clause-own c =
    let words : Memory = board c.args.plan.now.accepted c.args.words.now in
    c.own_before.ensures.own ∙ ap (λ t. own_old c.args.source.0 (take c.args.place (old_held c.args.plan.now.accepted words t))) c.requires.own

pub returns-clause-few : goal.returns-clause-few
returns-clause-few c =
    let within = inside c.args.plan.now.accepted (board c.args.plan.now.accepted c.args.words.now) c.args.thread.0 c.args.place c.requires.held in
    let few = places_few c.args.plan.now.accepted c.args.thread.0 c.program-program.ensures.accepted c.requires.fed in
    omega (arith, c.own_before.ensures.few, within, few)
