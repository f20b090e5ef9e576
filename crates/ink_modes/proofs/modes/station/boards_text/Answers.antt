use Rattle.ink_modes.proofs.Common.{◌≡◌, ℕ, ◌<◌, get_or, length, subst, sym}
use Rattle.std.proofs.Common.{arith}
use Rattle.std.specs.Prelude.{Result, Vec, IfOk}
use Rattle.std.specs.declared.alloc.Global.{Global}
use Rattle.ink_base.specs.declared.memory.NoMemory.{NoMemory}
use Rattle.ink_modes.specs.Run.{run_text_of}
use Rattle.ink_modes.proofs.Stations.{told_more}
use Rattle.ink_modes.proofs.modes.station.boards_text.Goals as goal

pub loop-number-preserved : goal.loop-number-preserved
loop-number-preserved g c =
    let lt : c.loop-number.number < length c.args.records.now = let here = c.loop-number-test.true in let end = c.len-number-end.ensures in let number = c.in_ok-told.ensures.number in omega (arith, here, end, number) in
    let e = c.index.ensures in
    let all = c.in_ok-told.ensures.each in
    told_more c.args.flags c.loop-number.number c.args.records.now c.loop-number.text.items c.put_board.new.text.items c.index.result.now lt c.loop-number.invariant c.in_ok-put_board.ensures.made c.in_ok-put_board.ensures.text
    (λ r. subst (λ (x : Result (Vec ℕ Global) NoMemory). IfOk x (λ run. run.items ≡ run_text_of (get_or c.args.records.now c.loop-number.number r) c.args.flags)) (sym e) (all c.loop-number.number r c.index.result.now lt))
