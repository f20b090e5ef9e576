use Rattle.std.proofs.Common.{sym, subst}
use Rattle.fram_words.specs.Places.{Memory}
use Rattle.image_checks.specs.Board.{board}
use Rattle.image_checks.specs.Failing.{IsQueueFault, TailFails, OnlyFinishedFails, IdleFinishedFails, FirstServedFails}
use Rattle.image_checks.proofs.Tests.{granted, refused}
use Rattle.image_checks.proofs.queues.fault_behind_slots.Goals as goal

pub returns-then-not-is_tail_right-clause-fault : goal.returns-then-not-is_tail_right-clause-fault
returns-then-not-is_tail_right-clause-fault c = TailFails c.requires.slots (refused c.if-not-is_tail_right.ensures)

pub returns-then-not-is_only_finished-clause-fault : goal.returns-then-not-is_only_finished-clause-fault
returns-then-not-is_only_finished-clause-fault c =
    let words : Memory = board c.args.plan.now.accepted c.args.words.now in
    subst (IsQueueFault c.args.plan.now.accepted words c.args.thread.0) (sym c.header_place.ensures.place)
    (OnlyFinishedFails c.requires.slots (granted c.if-not-is_tail_right.ensures) (refused c.if-not-is_only_finished.ensures))

pub returns-then-not-is_idle_finished-clause-fault : goal.returns-then-not-is_idle_finished-clause-fault
returns-then-not-is_idle_finished-clause-fault c =
    let words : Memory = board c.args.plan.now.accepted c.args.words.now in
    subst (IsQueueFault c.args.plan.now.accepted words c.args.thread.0) (sym c.header_place-then-not-is_idle_finished.ensures.place)
    (IdleFinishedFails c.requires.slots (granted c.if-not-is_tail_right.ensures) (granted c.if-not-is_only_finished.ensures) (refused c.if-not-is_idle_finished.ensures))

pub returns-then-not-is_first_served-clause-fault : goal.returns-then-not-is_first_served-clause-fault
returns-then-not-is_first_served-clause-fault c =
    let words : Memory = board c.args.plan.now.accepted c.args.words.now in
    subst (IsQueueFault c.args.plan.now.accepted words c.args.thread.0) (sym c.header_place-then-not-is_first_served.ensures.place)
    (FirstServedFails c.requires.slots (granted c.if-not-is_tail_right.ensures) (granted c.if-not-is_only_finished.ensures) (granted c.if-not-is_idle_finished.ensures)
    (refused c.if-not-is_first_served.ensures))

pub returns-clause-none : goal.returns-clause-none
returns-clause-none c = record {
  slots = c.requires.slots;
  tail = granted c.if-not-is_tail_right.ensures;
  only = granted c.if-not-is_only_finished.ensures;
  idle = granted c.if-not-is_idle_finished.ensures;
  served = granted c.if-not-is_first_served.ensures;
}
