use Rattle.push_core.specs.declared.stage.Stage.TheVariants as stages
use Rattle.irq_source.proofs.Arms.{at_stage, made_boot_slot}
use Rattle.irq_source.proofs.access.load_boot_slot.Goals as goal

pub returns : goal.returns
returns c = at_stage c.args.row (stages.LoadSlots c.args.slot c.args.seen) c.requires.stage c.requires.ready (λ ready. made_boot_slot c.load_slot.result c.args.slot c.args.seen ready (c.load_slot.ensures.seat, c.load_slot.ensures.calls) c.load_slot.ensures.shows)
