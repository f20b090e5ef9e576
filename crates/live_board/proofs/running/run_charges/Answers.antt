use Rattle.std.proofs.Common.{◌≡◌, ◌+◌, ◌<◌, length, ap, subst, arith}
use Rattle.job_parts.specs.declared.charge.Charge.{Charge}
use Rattle.event_queue.specs.Calls.{sum_of}
use Rattle.live_account.specs.Turns.{charge_at}
use Rattle.live_board.specs.kept.Runs.{ticks}
use Rattle.live_board.proofs.Boards.{board_on, charge_is, kernel_can, dark_fits, clock_can}
use Rattle.live_board.proofs.running.run_charges.Goals as goal

pub begin_charge-requires-clause-sum : goal.begin_charge-requires-clause-sum
begin_charge-requires-clause-sum g c =
    let job = c.args.job.now in
    let n = c.loop-n.n in
    let charge = c.index-charges-n.result in
    let is = charge_is job c.charges-charges.result.now n charge c.charges-charges.ensures.same c.loop-n-test.true c.index-charges-n.is in
    let lt : n < length job.charges = let size = ap length c.charges-charges.ensures.same in let here = c.loop-n-test.true in omega (arith, size, here) in
    dark_fits job n charge c.loop-n.clock lt is c.loop-n.invariant.is_job c.loop-n.invariant.passed

pub run_at_once-requires-clause-kernel : goal.run_at_once-requires-clause-kernel
run_at_once-requires-clause-kernel g c κs within =
    let job = c.args.job.now in
    let n = c.loop-n.n in
    let charge = c.index-charges-n.result in
    let is = charge_is job c.charges-charges.result.now n charge c.charges-charges.ensures.same c.loop-n-test.true c.index-charges-n.is in
    let lt : n < length job.charges = let size = ap length c.charges-charges.ensures.same in let here = c.loop-n-test.true in omega (arith, size, here) in
    kernel_can job c.args.set.now n (ticks c.loop-n.clock + charge.off) charge c.loop-n.kernel c.begin_charge.new.kernel lt is c.loop-n.invariant.kernel_after c.begin_charge.ensures.kernel c.begin_charge.ensures.kernel_seat

pub run_at_once-requires-clause-clock : goal.run_at_once-requires-clause-clock
run_at_once-requires-clause-clock g c κs within =
    let job = c.args.job.now in
    let n = c.loop-n.n in
    let charge = c.index-charges-n.result in
    let is = charge_is job c.charges-charges.result.now n charge c.charges-charges.ensures.same c.loop-n-test.true c.index-charges-n.is in
    let lt : n < length job.charges = let size = ap length c.charges-charges.ensures.same in let here = c.loop-n-test.true in omega (arith, size, here) in
    let added : ticks c.begin_charge.new.clock ≡ ticks c.loop-n.clock + charge.off = let sum = ap sum_of c.begin_charge.ensures.calls in omega (arith, sum) in
    clock_can job c.args.set.now n charge c.loop-n.clock c.begin_charge.new.clock lt is c.loop-n.invariant.is_job c.loop-n.invariant.passed c.loop-n.invariant.clock_seat c.begin_charge.ensures.clock added

pub loop-n-preserved : goal.loop-n-preserved
loop-n-preserved g c =
    let job = c.args.job.now in
    let n = c.loop-n.n in
    let charge = c.index-charges-n.result in
    let is = charge_is job c.charges-charges.result.now n charge c.charges-charges.ensures.same c.loop-n-test.true c.index-charges-n.is in
    let lt : n < length job.charges = let size = ap length c.charges-charges.ensures.same in let here = c.loop-n-test.true in omega (arith, size, here) in
    let added : ticks c.begin_charge.new.clock ≡ ticks c.loop-n.clock + charge.off = let sum = ap sum_of c.begin_charge.ensures.calls in omega (arith, sum) in
    board_on job c.args.set.now n charge c.loop-n.sources c.begin_charge.new.sources c.run_at_once.new.sources c.loop-n.kernel c.begin_charge.new.kernel c.run_at_once.new.kernel c.loop-n.clock c.begin_charge.new.clock c.run_at_once.new.clock lt is
    c.begin_charge.ensures.sources c.begin_charge.ensures.kernel c.begin_charge.ensures.told c.begin_charge.ensures.clock added c.run_at_once.ensures.sources c.run_at_once.ensures.kernel c.run_at_once.ensures.clock c.loop-n.invariant
