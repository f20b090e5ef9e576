use Rattle.old_image.proofs.Common.{◌≡◌, ◌+◌, ◌∙◌, ◌^◌, ◌<◌, subst, sym, ap, arith, ℕ, Memory, SourceId, OldEvent, source_thread, length, full_word, take, own_old, old_held, old_released, old_event_at, renewed_word}
use Rattle.image_checks.specs.Board.{board}
use Rattle.old_image.proofs.NewWords.{inside, made, read_at}
use Rattle.old_image.proofs.renewing.renewed_held.Goals as goal

pub count_of-count-requires-clause-known : goal.count_of-count-requires-clause-known
count_of-count-requires-clause-known c =
    let words : Memory = board c.args.plan.now.accepted c.args.words.now in
    (read_at c.args.plan.now.accepted words c.args.thread.0 c.args.place c.old_held_event-event.result c.requires.held c.old_held_event-event.ensures).known

pub count_of-count-requires-clause-own : goal.count_of-count-requires-clause-own
count_of-count-requires-clause-own c =
    let words : Memory = board c.args.plan.now.accepted c.args.words.now in
    (read_at c.args.plan.now.accepted words c.args.thread.0 c.args.place c.old_held_event-event.result c.requires.held c.old_held_event-event.ensures).own

pub position_behind-position-requires-clause-inside : goal.position_behind-position-requires-clause-inside
position_behind-position-requires-clause-inside c =
    inside c.args.plan.now.accepted (board c.args.plan.now.accepted c.args.words.now) c.args.thread.0 c.args.place c.requires.held

pub full-requires : goal.full-requires
full-requires c =
    let words : Memory = board c.args.plan.now.accepted c.args.words.now in
    let read = read_at c.args.plan.now.accepted words c.args.thread.0 c.args.place c.old_held_event-event.result c.requires.held c.old_held_event-event.ensures in
    record {
      position_fits = c.position_behind-position.ensures.fits;
      source_fits = read.fits.source_fits;
      count_fits = let few = c.count_of-count.ensures.few in omega arith;
    }

pub returns : goal.returns
returns c =
    let words : Memory = board c.args.plan.now.accepted c.args.words.now in
    let count : c.count_of-count.result ≡ own_old c.old_held_event-event.result.source.0 (take c.args.place (old_held c.args.plan.now.accepted words c.args.thread.0)) =
    c.count_of-count.ensures.own in
    c.full.ensures
    ∙ made c.position_behind-position.result (old_released c.args.plan.now.accepted words c.args.thread.0 + c.args.place) c.count_of-count.result c.args.place
    c.old_held_event-event.result (old_held c.args.plan.now.accepted words c.args.thread.0) c.position_behind-position.ensures.position c.old_held_event-event.ensures count
