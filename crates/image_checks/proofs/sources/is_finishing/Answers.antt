use Rattle.std.proofs.Common.{sym, ◌∙◌, subst, ◌↔◌, IsTrue, ℕ}
use Rattle.fram_words.specs.Places.{Memory}
use Rattle.push_core.specs.Queue.{IsFinishing}
use Rattle.never_cut.specs.ReadOff.{told_queue}
use Rattle.image_checks.specs.Board.{board}
use Rattle.image_checks.proofs.FirstEvents.{finishing}
use Rattle.image_checks.proofs.sources.is_finishing.Goals as goal

pub returns-then-is_finished : goal.returns-then-is_finished
returns-then-is_finished c =
    let words : Memory = board c.args.plan.now.accepted c.args.words.now in
    subst (λ (t : ℕ). IsTrue c.has_origin.result ↔ IsFinishing c.args.source.0 c.args.count (told_queue c.args.plan.now.accepted words t)) c.fed-thread.ensures.thread
    (finishing c.args.source.0 c.args.count (told_queue c.args.plan.now.accepted words c.fed-thread.result.0) c.held_event.result c.held_event.ensures
    (sym c.is_finished.ensures ∙ c.if-is_finished.true) c.has_origin.ensures)
