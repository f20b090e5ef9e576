use Rattle.irq_source.proofs.Common.{ℕ, ◌%◌, subst, sym, empty_word, ShowsSlot, view, HasMade}
use Rattle.push_core.specs.declared.stage.Stage.TheVariants as stages
use Rattle.irq_source.proofs.Arms.{at_stage, made_won, made_lost}
use Rattle.irq_source.proofs.access.publish.Goals as goal

pub returns-in-Ok : goal.returns-in-Ok
returns-in-Ok c =
    subst (λ (w : ℕ). HasMade c.args.set.now c.args.port.now c.args.readings.now c.args.row c.args.src c.args.seat.now c.publish.new.self w c.args.src) (sym c.empty.ensures)
    (at_stage c.args.row (stages.Publish c.args.tail) c.requires.stage c.requires.ready (λ ready. made_won c.args.tail ready (c.in-Ok.ensures.seat, c.in-Ok.ensures.calls)
    (subst (λ (n : ℕ). ShowsSlot (view c.args.seat.now) c.args.seat.now.source.0 (c.args.tail % n) (empty_word c.args.tail)) ready.port_is.ring c.in-Ok.ensures.shows)))

pub returns-in-Err : goal.returns-in-Err
returns-in-Err c =
    at_stage c.args.row (stages.Publish c.args.tail) c.requires.stage c.requires.ready (λ ready. made_lost c.in-Err.lost.word c.args.tail ready (c.in-Err.ensures.seat, c.in-Err.ensures.calls) c.in-Err.ensures.lost
    (subst (λ (n : ℕ). ShowsSlot (view c.args.seat.now) c.args.seat.now.source.0 (c.args.tail % n) c.in-Err.lost.word) ready.port_is.ring c.in-Err.ensures.shows))
