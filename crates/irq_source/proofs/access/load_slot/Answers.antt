use Rattle.push_core.specs.declared.stage.Stage.TheVariants as stages
use Rattle.irq_source.proofs.Arms.{at_stage, made_slot}
use Rattle.irq_source.proofs.access.load_slot.Goals as goal

pub returns : goal.returns
returns c = at_stage c.args.row (stages.LoadSlot c.args.tail) c.requires.stage c.requires.ready (λ ready. made_slot c.load_slot.result c.args.tail ready (c.load_slot.ensures.seat, c.load_slot.ensures.calls) c.load_slot.ensures.shows)
