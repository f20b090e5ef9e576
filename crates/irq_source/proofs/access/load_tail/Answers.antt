use Rattle.push_core.specs.declared.stage.Stage.TheVariants as stages
use Rattle.irq_source.proofs.Arms.{at_stage, made_tail}
use Rattle.irq_source.proofs.access.load_tail.Goals as goal

pub returns : goal.returns
returns c = at_stage c.args.row (stages.LoadTail) c.requires.stage c.requires.ready (λ ready. made_tail c.load_tail.result ready (c.load_tail.ensures.seat, c.load_tail.ensures.calls) c.load_tail.ensures.shows)
