use Rattle.old_image.proofs.Common.{◌≡◌, max, sym, ap, ◌∙◌, arith, Memory, OldEvent, List, after_event, old_event_at, old_held_for}
use Rattle.image_checks.specs.Board.{board}
use Rattle.old_image.proofs.Walks.{after-more}
use Rattle.old_image.proofs.held.after_first.Goals as goal

pub loop-k-preserved : goal.loop-k-preserved
loop-k-preserved c =
    let words : Memory = board c.args.plan.now.accepted c.args.words.now in
    let within = c.requires.held in
    let held : List OldEvent = old_held_for c.args.plan.now.accepted words c.args.source.0 in
    let one : c.after_event.result ≡ after_event c.args.source.0 (old_event_at held c.loop-k.k) = c.after_event.ensures ∙ ap (after_event c.args.source.0) c.event_for.ensures in
    let more = after-more c.args.source.0 held c.loop-k.k (omega arith) in
    let so_far = c.loop-k.invariant in
    omega (arith, c.max-after.ensures, one, more, so_far)
