use Rattle.old_image.proofs.Common.{◌≡◌, ap, ◌∙◌, arith, Memory, source_thread, old_released}
use Rattle.image_checks.specs.Board.{board}
use Rattle.old_image.proofs.Walks.{position_fits}
use Rattle.old_image.proofs.sources.held_slot.Goals as goal

pub overflow_add-first : goal.overflow_add-first
overflow_add-first c =
    let words : Memory = board c.args.plan.now.accepted c.args.words.now in
    let first : c.old_released-first.result ≡ old_released c.args.plan.now.accepted words (source_thread c.args.plan.now.accepted c.args.source.0) =
    c.old_released-first.ensures ∙ ap (λ t. old_released c.args.plan.now.accepted words t) c.fed-thread.ensures.thread in
    let held = c.requires.held in
    let fits = position_fits c.args.plan.now.accepted words (source_thread c.args.plan.now.accepted c.args.source.0) c.args.place (omega arith) (omega arith) in omega arith
