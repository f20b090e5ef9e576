use Rattle.push_core.specs.declared.stage.Stage.TheVariants as stages
use Rattle.irq_source.proofs.Arms.{at_stage, made_ack}
use Rattle.irq_source.proofs.access.load_ack.Goals as goal

pub returns : goal.returns
returns c = at_stage c.args.row (stages.LoadAck c.args.seen) c.requires.stage c.requires.ready (λ ready. made_ack c.load_ack.result c.args.seen ready (c.load_ack.ensures.seat, c.load_ack.ensures.calls) c.load_ack.ensures.shows)
