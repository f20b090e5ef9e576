use Rattle.std.proofs.Common.{ap, sym, ◌∙◌, subst}
use Rattle.fram_words.specs.Places.{Memory}
use Rattle.ink_layout.specs.Slots.{slot_place}
use Rattle.image_checks.specs.Board.{board}
use Rattle.old_image.specs.Failing.{IsOldQueueFault, SlotFails}
use Rattle.old_image.specs.kept.Parts.{IsFirstSlot}
use Rattle.old_image.proofs.queues.queue_fault.Goals as goal

pub returns-in-Some-clause-fault : goal.returns-in-Some-clause-fault
returns-in-Some-clause-fault c =
    let words : Memory = board c.args.plan.now.accepted c.args.words.now in
    let slot : IsFirstSlot c.args.plan.now.accepted words c.args.thread.0 c.in-Some.position = c.in-Some.ensures in
    subst (IsOldQueueFault c.args.plan.now.accepted words c.args.thread.0)
    (sym (c.slot_place.ensures.place ∙ ap (slot_place c.args.plan.now.accepted c.args.thread.0) slot.at)) (SlotFails slot.k slot.fault)
