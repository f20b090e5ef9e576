-- No more readings are accepted than settled.
use Rattle.image_state.proofs.Common.{arith, by_place}
use Rattle.never_cut.proofs.ReadSources.{source_ordered}
use Rattle.image_state.proofs.devices.source_told.Goals as goal

pub overflow_cast-result-2 : goal.overflow_cast-result-2
overflow_cast-result-2 c =
    let program = c.args.plan.now.accepted in
    let ordered = source_ordered program (by_place program c.args.words.now) c.args.source.0 (c.requires.image.image.sources c.args.source.0 c.requires.known) in
    let few = c.requires.few c.args.source.0 c.requires.known in
    let is = c.told_source-told.ensures.accepted in
    omega (arith, ordered, few, is)
