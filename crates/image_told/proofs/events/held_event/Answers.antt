use Rattle.std.proofs.Common.{sym, arith}
use Rattle.std.proofs.lemmas.Option.{slice_get_past}
use Rattle.fram_words.specs.Places.{Memory}
use Rattle.fram_words.specs.Shape.{memory_of}
use Rattle.ink_layout.specs.Shape.{shape_of}
use Rattle.never_cut.specs.ReadOff.{told_held}
use Rattle.image_told.proofs.events.held_event.Goals as goal

pub returns-else-place-held_count : goal.returns-else-place-held_count
returns-else-place-held_count c =
    let words : Memory = memory_of (shape_of c.args.plan.now.accepted) c.args.words.now in
    let all = c.held_count.ensures.number in sym (slice_get_past (told_held c.args.plan.now.accepted words c.args.thread.0) c.args.place (omega arith))
