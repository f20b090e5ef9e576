use Rattle.std.proofs.Common.{◌≡◌, Some, None, sym, ◌∙◌, arith}
use Rattle.std.proofs.lemmas.Option.{same_Some}
use Rattle.fram_words.specs.Places.{Memory}
use Rattle.fram_words.specs.Shape.{memory_of}
use Rattle.ink_layout.specs.Shape.{shape_of}
use Rattle.push_core.specs.Queue.{event_at}
use Rattle.never_cut.specs.ReadOff.{told_held}
use Rattle.image_told.proofs.Walks.{event_here, position_fits}
use Rattle.image_told.proofs.events.held_at.Goals as goal

pub overflow_add-first : goal.overflow_add-first
overflow_add-first c =
    let words : Memory = memory_of (shape_of c.args.plan.now.accepted) c.args.words.now in
    let first = c.released-first.ensures in
    let held = c.requires.held in
    let fits = position_fits c.args.plan.now.accepted words c.args.thread.0 c.args.place (omega arith) (omega arith) in omega (arith, first, fits)

pub unreachable-requires : goal.unreachable-requires
unreachable-requires c =
    let words : Memory = memory_of (shape_of c.args.plan.now.accepted) c.args.words.now in
    let here = event_here c.args.plan.now.accepted words c.args.thread.0 c.released-first.result c.args.place c.released-first.ensures c.requires.held in
    let clash : None ≡ Some (event_at (told_held c.args.plan.now.accepted words c.args.thread.0) c.args.place) = sym c.in-None.is ∙ (c.event_at.ensures.event ∙ here) in cc

pub returns : goal.returns
returns c =
    let words : Memory = memory_of (shape_of c.args.plan.now.accepted) c.args.words.now in
    let here = event_here c.args.plan.now.accepted words c.args.thread.0 c.released-first.result c.args.place c.released-first.ensures c.requires.held in
    same_Some _ _ (sym c.in-Some.is ∙ (c.event_at.ensures.event ∙ here))
