use Rattle.image_state.proofs.Common.{sym, ap, ◌∙◌, length, arith, Program, by_place, wears_pipe}
use Rattle.image_state.proofs.Wears.{any_from, any_not}
use Rattle.image_state.proofs.worn.wears_pipes.Goals as goal

pub returns-then-wears_pipe : goal.returns-then-wears_pipe
returns-then-wears_pipe c =
    let program = c.args.plan.now.accepted in
    let count = ap (λ (p : Program). length p.pipes) c.program.ensures.same in
    sym (any_from (wears_pipe program (by_place program c.args.words.now)) (length program.pipes) c.loop-q.q (omega (arith, count))
    (sym c.wears_pipe.ensures ∙ c.if-wears_pipe.true))

pub loop-q-preserved : goal.loop-q-preserved
loop-q-preserved c =
    let program = c.args.plan.now.accepted in
    any_not (wears_pipe program (by_place program c.args.words.now)) c.loop-q.q c.loop-q.invariant (sym c.wears_pipe.ensures ∙ c.if-wears_pipe.false)
