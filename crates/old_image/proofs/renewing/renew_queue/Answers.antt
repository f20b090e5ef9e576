use Rattle.old_image.proofs.Common.{◌≡◌, ◌+◌, ◌∙◌, ap, subst, arith, Memory, Place, place_behind}
use Rattle.fram_words.specs.Changes.{Becomes}
use Rattle.fram_words.specs.Steps.{place_of}
use Rattle.ink_layout.specs.Slots.{slot_place}
use Rattle.image_checks.specs.Board.{board}
use Rattle.old_image.proofs.Stages.{slots_more}
use Rattle.old_image.proofs.renewing.renew_queue.Goals as goal

pub loop-k-preserved : goal.loop-k-preserved
loop-k-preserved c =
    let old : Memory = board c.args.plan.now.accepted c.args.words.now in
    let before : Memory = board c.args.plan.now.accepted c.args.new.now in
    let after : Memory = board c.args.plan.now.accepted c.loop-k.new in
    let next : Memory = board c.args.plan.now.accepted c.put.new.new in
    let at : place_of c.slot_place.result ≡ place_behind c.args.plan.now.accepted old c.args.thread.0 c.loop-k.k =
    c.slot_place.ensures.place ∙ ap (slot_place c.args.plan.now.accepted c.args.thread.0) c.position_behind-position.ensures.position in
    let places = c.places-k-end.ensures.places in
    record {
      renewed =
          slots_more c.args.plan.now.accepted old before c.args.thread.0 c.loop-k.k c.renewed_slot-word.result after next c.loop-k.invariant.renewed (omega arith)
          c.renewed_slot-word.ensures.held c.renewed_slot-word.ensures.empty (subst (λ (p : Place). Becomes p c.renewed_slot-word.result after next) at c.put.ensures);
      size = c.put.auto.new ∙ c.loop-k.invariant.size;
    }
