use Rattle.std.proofs.Common.{◌≡◌, ap, ◌∙◌, arith}
use Rattle.fram_words.specs.Places.{Memory}
use Rattle.prog_check.specs.Lookup.{source_thread}
use Rattle.never_cut.specs.ReadOff.{told_released}
use Rattle.image_told.proofs.Walks.{position_fits}
use Rattle.image_checks.specs.Board.{board}
use Rattle.image_checks.proofs.sources.held_place.Goals as goal

pub overflow_add-first : goal.overflow_add-first
overflow_add-first c =
    let words : Memory = board c.args.plan.now.accepted c.args.words.now in
    let first : c.released-first.result ≡ told_released c.args.plan.now.accepted words (source_thread c.args.plan.now.accepted c.args.source.0) =
    c.released-first.ensures ∙ ap (λ t. told_released c.args.plan.now.accepted words t) c.fed-thread.ensures.thread in
    let held = c.requires.held in
    let fits = position_fits c.args.plan.now.accepted words (source_thread c.args.plan.now.accepted c.args.source.0) c.args.j (omega arith) (omega arith) in omega arith
