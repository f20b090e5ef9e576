use Rattle.irq_source.proofs.Common.{◌≡◌, ⊎_elim, calls_of, out_of, view, HelpTail}
use Rattle.push_core.specs.declared.stage.Stage.TheVariants as stages
use Rattle.irq_source.proofs.Arms.{Called, at_stage, made_move, made_help, moved_by_us, moved_before}
use Rattle.irq_source.proofs.access.move_tail.Goals as goal

pub returns-in-Ok : goal.returns-in-Ok
returns-in-Ok c =
    let p = c.args.tail in
    let called : Called c.args.seat.now c.help_tail.new.self (HelpTail p p) = (c.in-Ok.ensures.seat, c.in-Ok.ensures.calls) in
    let moved = moved_by_us p (calls_of (view c.args.seat.now)) in
    ⊎_elim
    (λ (st : c.args.row.stage ≡ stages.MoveTail c.args.tail). at_stage c.args.row (stages.MoveTail p) st c.requires.ready (λ ready. made_move p p ready called moved))
    (λ (st : c.args.row.stage ≡ stages.HelpTail c.args.tail). at_stage c.args.row (stages.HelpTail p) st c.requires.ready (λ ready. made_help p p ready called moved))
    c.requires.stage

pub returns-in-Err : goal.returns-in-Err
returns-in-Err c =
    let p = c.args.tail in
    let w = c.in-Err.moved.word in
    let called : Called c.args.seat.now c.help_tail.new.self (HelpTail p w) = (c.in-Err.ensures.seat, c.in-Err.ensures.calls) in
    let other = c.in-Err.ensures.moved in
    let calls = calls_of (view c.args.seat.now) in
    let out = out_of (view c.args.seat.now) c.args.seat.now.source.0 in
    ⊎_elim
    (λ (st : c.args.row.stage ≡ stages.MoveTail c.args.tail). at_stage c.args.row (stages.MoveTail p) st c.requires.ready (λ ready. made_move w p ready called (moved_before p w out calls other.0 other.1 ready.stands.at.2)))
    (λ (st : c.args.row.stage ≡ stages.HelpTail c.args.tail). at_stage c.args.row (stages.HelpTail p) st c.requires.ready (λ ready. made_help w p ready called (moved_before p w out calls other.0 other.1 ready.stands.at.2)))
    c.requires.stage
