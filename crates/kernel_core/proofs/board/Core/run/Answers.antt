use Rattle.kernel_core.proofs.Common.{◌<◌, ◌≤◌, length, refl, sym, ap, ◌∙◌, subst, arith, flat_map, JobParts, moved_by, moves_of, setup_of, charge_def}
use Rattle.kernel_core.proofs.CoreJobs.{taken}
use Rattle.kernel_core.proofs.CoreRuns.{charges_more}
use Rattle.kernel_core.proofs.board.Core.run.Goals as goal

pub loop-n-init : goal.loop-n-init
loop-n-init c = (refl, refl, c.requires)

pub run_charge-requires-clause-begun : goal.run_charge-requires-clause-begun
run_charge-requires-clause-begun c = c.loop-n.invariant.2

pub run_charge-requires-clause-known : goal.run_charge-requires-clause-known
run_charge-requires-clause-known c = subst (λ (z : JobParts). c.loop-n.n < length z.charges) (sym c.loop-n.invariant.0) (let e = ap length c.listed-n-end.ensures.same in let lt = c.loop-n-test.true in omega arith)

pub loop-n-preserved : goal.loop-n-preserved
loop-n-preserved c = (
  c.run_charge.ensures.job ∙ c.loop-n.invariant.0,
  c.run_charge.ensures.board
      ∙ ((λ i. moved_by (setup_of (c.loop-n.invariant.0 i)) (c.loop-n.invariant.1 i) (moves_of (charge_def (c.loop-n.invariant.0 i) c.loop-n.n)))
      ∙ sym (charges_more (setup_of c.args.self.now.job) c.args.self.now.board c.args.self.now.job.charges c.loop-n.n (let e = ap length c.listed-n-end.ensures.same in let lt = c.loop-n-test.true in omega arith))),
  c.run_charge.ensures.begun,
)

pub returns-clause-board : goal.returns-clause-board
returns-clause-board c =
    let end : length c.args.self.now.job.charges ≤ c.loop-n.n = let e = ap length c.listed-n-end.ensures.same in let le = c.loop-n-test.false in omega arith in
    c.loop-n.invariant.1 ∙ ap (λ l. moved_by (setup_of c.args.self.now.job) c.args.self.now.board (flat_map moves_of l)) (taken c.args.self.now.job.charges c.loop-n.n end)

pub returns-clause-job : goal.returns-clause-job
returns-clause-job c = c.loop-n.invariant.0
