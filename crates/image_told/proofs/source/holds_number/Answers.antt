use Rattle.std.proofs.Common.{◌≡◌, ◌||◌, Bool, false, ap, sym, ◌∙◌, List, length, take_all, arith}
use Rattle.std.specs.List.{list_any}
use Rattle.std.proofs.lemmas.List.Folds.{list_any_more}
use Rattle.ink_base.specs.declared.event.Event.{Event}
use Rattle.fram_words.specs.Places.{Memory}
use Rattle.fram_words.specs.Shape.{memory_of}
use Rattle.ink_layout.specs.Shape.{shape_of}
use Rattle.push_core.specs.Queue.{event_at, no_event}
use Rattle.never_cut.specs.Image.{held_for}
use Rattle.never_cut.specs.ReadOff.{has_number, told_held}
use Rattle.image_told.proofs.source.holds_number.Goals as goal

pub loop-k-preserved : goal.loop-k-preserved
loop-k-preserved c =
    let words : Memory = memory_of (shape_of c.args.plan.now.accepted) c.args.words.now in
    let held : List Event = held_for c.args.plan.now.accepted words c.args.source.0 in
    let same : told_held c.args.plan.now.accepted words c.fed-thread.result.0 ≡ held = ap (λ t. told_held c.args.plan.now.accepted words t) c.fed-thread.ensures.thread in
    let count : c.held_count-k-end.result ≡ length held = c.held_count-k-end.ensures.number ∙ ap (λ (events : List Event). length events) same in
    let event : c.held_at.result ≡ event_at held c.loop-k.k = c.held_at.ensures ∙ ap (λ events. event_at events c.loop-k.k) same in
    let other : has_number c.args.source.0 c.args.number (event_at held c.loop-k.k) ≡ false =
    ap (has_number c.args.source.0 c.args.number) (sym event) ∙ (sym c.has_number.ensures ∙ c.if-has_number.false) in
    list_any_more (has_number c.args.source.0 c.args.number) held c.loop-k.k no_event (omega arith)
    ∙ (ap (λ (b : Bool). b || has_number c.args.source.0 c.args.number (event_at held c.loop-k.k)) c.loop-k.invariant ∙ other)

pub returns : goal.returns
returns c =
    let words : Memory = memory_of (shape_of c.args.plan.now.accepted) c.args.words.now in
    let held : List Event = held_for c.args.plan.now.accepted words c.args.source.0 in
    let same : told_held c.args.plan.now.accepted words c.fed-thread.result.0 ≡ held = ap (λ t. told_held c.args.plan.now.accepted words t) c.fed-thread.ensures.thread in
    let count : c.held_count-k-end.result ≡ length held = c.held_count-k-end.ensures.number ∙ ap (λ (events : List Event). length events) same in
    sym c.loop-k.invariant ∙ ap (λ events. list_any (has_number c.args.source.0 c.args.number) events) (take_all c.loop-k.k held (omega arith))
