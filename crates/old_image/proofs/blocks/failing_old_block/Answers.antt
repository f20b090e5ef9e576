use Rattle.std.proofs.Common.{◌≡◌, ap, sym, subst, length, arith, below_more}
use Rattle.task_isa.specs.declared.program.Program.{Program}
use Rattle.fram_words.specs.Places.{Memory}
use Rattle.image_checks.specs.Board.{board}
use Rattle.old_image.specs.Failing.{IsOldBlockFault, BlockFails}
use Rattle.old_image.proofs.blocks.failing_old_block.Goals as goal

pub returns-in-Some-clause-first : goal.returns-in-Some-clause-first
returns-in-Some-clause-first c =
    let words : Memory = board c.args.plan.now.accepted c.args.words.now in
    let same : length c.program.result.now.threads ≡ length c.args.plan.now.accepted.threads = ap (λ (p : Program). length p.threads) c.program.ensures.same in
    let all = c.len-t-end.ensures in
    record {
      part = c.loop-t.t;
      inside = omega arith;
      before = c.loop-t.invariant;
      fault = subst (IsOldBlockFault c.args.plan.now.accepted words c.loop-t.t) (sym c.block_place.ensures) (BlockFails c.in-Some.word c.in-Some.ensures);
    }

pub loop-t-preserved : goal.loop-t-preserved
loop-t-preserved c = below_more _ _ c.loop-t.invariant c.in_default.ensures
