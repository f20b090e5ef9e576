use Rattle.never_cut.proofs.Common.{length, ◌∙◌, sym, arith, has_due, model_of}
use Rattle.never_cut.proofs.Firsts.{found, passed_over}
use Rattle.never_cut.proofs.replaying.Replaying.first_timer.Goals as goal

pub returns-then-has_due-clause-first : goal.returns-then-has_due-clause-first
returns-then-has_due-clause-first c =
    found (has_due c.args.program.now (model_of c.args.self.now) c.args.t c.args.time) (length c.args.program.now.timers) c.loop-j.j (omega arith)
    c.loop-j.invariant (sym c.has_due.ensures ∙ c.if-has_due.true)

pub loop-j-preserved : goal.loop-j-preserved
loop-j-preserved c =
    passed_over (has_due c.args.program.now (model_of c.args.self.now) c.args.t c.args.time) (length c.args.program.now.timers) c.loop-j.j (omega arith)
    c.loop-j.invariant (sym c.has_due.ensures ∙ c.if-has_due.false)
