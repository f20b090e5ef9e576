-- The machine ahead makes the accesses of the machine alone.
use Rattle.task_run.proofs.Common.{◌≡◌, ◌+◌, ◌<◌, false, arith, sym, ap, subst, ◌∙◌, Memory, TaskMachine, want, take}
use Rattle.fram_words.specs.Shape.{memory_of}
use Rattle.fram_words.specs.Places.{place_of}
use Rattle.ink_layout.specs.Shape.{IsOnBoard, shape_of}
use Rattle.task_run.specs.Remaining.{is_committed}
use Rattle.task_run.specs.kept.Ahead.{found_by, kept_by, GoesAhead}
use Rattle.task_run.specs.kept.LeftMost.{left_most}
use Rattle.task_run.proofs.AheadWords.{begins_ahead}
use Rattle.task_run.proofs.LeftBounds.{left_few, access_lowers}
use Rattle.task_run.proofs.Goes.{fits_now, goes_next}
use Rattle.task_run.proofs.machine.TaskMachine.remaining.Goals as goal

pub begin-ahead-requires : goal.begin-ahead-requires
begin-ahead-requires c =
    let fits = c.requires 0 (sym (c.if-is_committed.ensures)) in (fits.wants.thread, omega arith, omega arith, omega arith)

pub loop-ahead-init : goal.loop-ahead-init
loop-ahead-init c =
    let fits = c.requires 0 (sym (c.if-is_committed.ensures)) in
    let self = c.args.self.now in
    let is = c.begin-ahead.ensures.machine in
    record {
      size = c.begin-ahead.ensures.size;
      goes = record {
        machine = is;
        pick = ap (λ (z : TaskMachine). z.pick) is;
        ahead = λ alive.
            begins_ahead c.args.plan.now.accepted c.args.plan.now.layout c.args.fram.now self.pick.thread.0 c.begin-ahead.result.block c.program-program.ensures.accepted c.program-program.ensures.layout
            fits.wants.thread c.begin-ahead.ensures.block;
        before = λ k lt. absurd (omega arith);
        bound = let same : left_most c.args.plan.now.accepted c.begin-ahead.result.machine ≡ left_most c.args.plan.now.accepted self = ap (left_most c.args.plan.now.accepted) is in omega arith;
      };
    }

pub loop-ahead-preserved : goal.loop-ahead-preserved
loop-ahead-preserved c =
    let program = c.args.plan.now.accepted in
    let words : Memory = memory_of (shape_of program) c.args.fram.now in
    let r = c.loop-ahead.ahead.machine in
    let block = c.loop-ahead.ahead.block in
    let step = c.wanted-step.ensures.step in
    let alive : is_committed r.phase ≡ false = sym c.loop-ahead-test.ensures in
    let there : IsOnBoard program (place_of (want program r)) = subst (λ a. IsOnBoard program (place_of a)) step c.wanted-step.ensures.there in
    let next = goes_next program words c.args.self.now c.loop-ahead.count r block c.loop-ahead.invariant.goes c.requires alive c.program-program.ensures.accepted c.loop-ahead.invariant.size there in
    let machine_is = c.take.ensures.registers ∙ ap (take program r) (c.found-word.ensures ∙ ap (found_by words r.pick.thread.0 block) step) in
    let block_is = c.take.ensures.block ∙ ap (kept_by r.pick.thread.0 block) step in
    record {
      size = c.take.ensures.size;
      goes =
          subst (λ z. GoesAhead program words c.args.self.now (c.loop-ahead.count + 1) z c.take.new.self.block) (sym machine_is)
          (subst (λ k. GoesAhead program words c.args.self.now (c.loop-ahead.count + 1) (take program r (found_by words r.pick.thread.0 block (want program r))) k) (sym block_is) next);
    }

pub overflow_add-count : goal.overflow_add-count
overflow_add-count c =
    let fits = c.requires 0 (sym (c.if-is_committed.ensures)) in
    let few = left_few c.args.plan.now.accepted c.args.self.now c.program-program.ensures.accepted fits.wants.thread in
    let bound = c.loop-ahead.invariant.goes.bound in
    omega arith

pub loop-ahead-smaller : goal.loop-ahead-smaller
loop-ahead-smaller c =
    let program = c.args.plan.now.accepted in
    let words : Memory = memory_of (shape_of program) c.args.fram.now in
    let r = c.loop-ahead.ahead.machine in
    let alive : is_committed r.phase ≡ false = sym c.loop-ahead-test.ensures in
    let there : IsOnBoard program (place_of (want program r)) = subst (λ a. IsOnBoard program (place_of a)) c.wanted-step.ensures.step c.wanted-step.ensures.there in
    let fits = fits_now program words c.args.self.now c.loop-ahead.count r c.loop-ahead.ahead.block c.loop-ahead.invariant.goes c.requires alive in
    let lowers = access_lowers program r c.found-word.result c.program-program.ensures.accepted fits there in
    subst (λ z. left_most program z < left_most program r) (sym c.take.ensures.registers) lowers
