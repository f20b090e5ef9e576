use Rattle.old_image.proofs.Common.{◌≡◌, Some, None, sym, ◌∙◌, arith, same_Some, Memory, old_event_at, old_held}
use Rattle.image_checks.specs.Board.{board}
use Rattle.old_image.proofs.Walks.{event_here, position_fits}
use Rattle.old_image.proofs.held.old_held_event.Goals as goal

pub overflow_add-first : goal.overflow_add-first
overflow_add-first c =
    let words : Memory = board c.args.plan.now.accepted c.args.words.now in
    let first = c.old_released-first.ensures in
    let held = c.requires.held in
    let fits = position_fits c.args.plan.now.accepted words c.args.thread.0 c.args.place (omega arith) (omega arith) in omega (arith, first, fits)

pub unreachable-requires : goal.unreachable-requires
unreachable-requires c =
    let words : Memory = board c.args.plan.now.accepted c.args.words.now in
    let here = event_here c.args.plan.now.accepted words c.args.thread.0 c.old_released-first.result c.args.place c.old_released-first.ensures c.requires.held in
    let clash : None ≡ Some (old_event_at (old_held c.args.plan.now.accepted words c.args.thread.0) c.args.place) = sym c.in-None.is ∙ (c.old_event_at.ensures.event ∙ here) in cc

pub returns : goal.returns
returns c =
    let words : Memory = board c.args.plan.now.accepted c.args.words.now in
    let here = event_here c.args.plan.now.accepted words c.args.thread.0 c.old_released-first.result c.args.place c.old_released-first.ensures c.requires.held in
    same_Some _ _ (sym c.in-Some.is ∙ (c.old_event_at.ensures.event ∙ here))
