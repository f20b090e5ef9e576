use Rattle.std.proofs.Common.{◌≡◌, ◌==◌, ap, ◌∙◌, List, arith}
use Rattle.ink_base.specs.declared.event.Event.{Event}
use Rattle.fram_words.specs.Places.{Memory}
use Rattle.fram_words.specs.Shape.{memory_of}
use Rattle.ink_layout.specs.Shape.{shape_of}
use Rattle.push_core.specs.Queue.{event_at, event_source}
use Rattle.never_cut.specs.Image.{held_for}
use Rattle.never_cut.specs.ReadOff.{told_held}
use Rattle.image_told.proofs.Walks.{byte_few, one_own, own_few}
use Rattle.image_told.proofs.events.own_before.Goals as goal

pub overflow_add-own : goal.overflow_add-own
overflow_add-own c =
    let words : Memory = memory_of (shape_of c.args.plan.now.accepted) c.args.words.now in
    let few = own_few c.args.source.0 (held_for c.args.plan.now.accepted words c.args.source.0) c.loop-k.k in
    let own = c.loop-k.invariant in
    let one = byte_few c.is_of.result in omega arith

pub loop-k-preserved : goal.loop-k-preserved
loop-k-preserved c =
    let words : Memory = memory_of (shape_of c.args.plan.now.accepted) c.args.words.now in
    let within = c.requires.held in
    let held : List Event = held_for c.args.plan.now.accepted words c.args.source.0 in
    let same : told_held c.args.plan.now.accepted words c.fed-thread.result.0 ≡ held = ap (λ t. told_held c.args.plan.now.accepted words t) c.fed-thread.ensures.thread in
    let event : c.held_at.result ≡ event_at held c.loop-k.k = c.held_at.ensures ∙ ap (λ events. event_at events c.loop-k.k) same in
    one_own c.args.source.0 held c.loop-k.k c.loop-k.own c.is_of.result (omega arith) c.loop-k.invariant
    (c.is_of.ensures ∙ ap (λ e. event_source e == c.args.source.0) event)

pub returns-clause-few : goal.returns-clause-few
returns-clause-few c =
    let words : Memory = memory_of (shape_of c.args.plan.now.accepted) c.args.words.now in
    let few = own_few c.args.source.0 (held_for c.args.plan.now.accepted words c.args.source.0) c.loop-k.k in
    let own = c.loop-k.invariant in omega arith
