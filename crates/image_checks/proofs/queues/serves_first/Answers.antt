use Rattle.std.proofs.Common.{ap, sym, ◌∙◌}
use Rattle.fram_words.specs.Held.{origin_of}
use Rattle.fram_words.specs.Places.{Memory}
use Rattle.image_checks.specs.Board.{board}
use Rattle.never_cut.specs.ReadOff.{told_held}
use Rattle.image_checks.proofs.QueueSlots.{served_first}
use Rattle.image_checks.proofs.queues.serves_first.Goals as goal

pub returns-in-Source : goal.returns-in-Source
returns-in-Source c =
    let words : Memory = board c.args.plan.now.accepted c.args.words.now in
    served_first (told_held c.args.plan.now.accepted words c.args.thread.0) c.held_event.result c.in-Source.source c.in-Source.count c.held_event.ensures
    (ap origin_of (sym c.header_word.ensures) ∙ (sym c.read_origin.ensures.origin ∙ c.in-Source.is)) c.header_word-value.ensures c.is_event.ensures
