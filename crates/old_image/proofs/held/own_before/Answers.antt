use Rattle.old_image.proofs.Common.{◌≡◌, ap, ◌∙◌, List, arith, Memory, OldEvent, is_of, old_held_for}
use Rattle.image_checks.specs.Board.{board}
use Rattle.old_image.proofs.Lists.{own_few}
use Rattle.old_image.proofs.Walks.{byte_few, one_own}
use Rattle.old_image.proofs.held.own_before.Goals as goal

pub overflow_add-own : goal.overflow_add-own
overflow_add-own c =
    let words : Memory = board c.args.plan.now.accepted c.args.words.now in
    let few = own_few c.args.source.0 c.loop-k.k (old_held_for c.args.plan.now.accepted words c.args.source.0) in
    let own = c.loop-k.invariant in
    let one = byte_few c.is_of.result in omega arith

pub loop-k-preserved : goal.loop-k-preserved
loop-k-preserved c =
    let words : Memory = board c.args.plan.now.accepted c.args.words.now in
    let within = c.requires.held in
    let held : List OldEvent = old_held_for c.args.plan.now.accepted words c.args.source.0 in
    one_own c.args.source.0 held c.loop-k.k c.loop-k.own c.is_of.result (omega arith) c.loop-k.invariant
    (c.is_of.ensures ∙ ap (is_of c.args.source.0) c.event_for.ensures)

pub returns-clause-few : goal.returns-clause-few
returns-clause-few c =
    let words : Memory = board c.args.plan.now.accepted c.args.words.now in
    let few = own_few c.args.source.0 c.loop-k.k (old_held_for c.args.plan.now.accepted words c.args.source.0) in
    let own = c.loop-k.invariant in omega arith
