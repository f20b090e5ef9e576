use Rattle.never_cut.proofs.Common.{length, ◌∙◌, sym, arith, has_item, model_of}
use Rattle.never_cut.proofs.Firsts.{found, passed_over}
use Rattle.never_cut.proofs.replaying.Replaying.first_pipe.Goals as goal

pub returns-then-has_item-clause-first : goal.returns-then-has_item-clause-first
returns-then-has_item-clause-first c =
    found (has_item c.args.program.now (model_of c.args.self.now) c.args.t) (length c.args.program.now.pipes) c.loop-q.q (omega arith) c.loop-q.invariant
    (sym c.has_item.ensures ∙ c.if-has_item.true)

pub loop-q-preserved : goal.loop-q-preserved
loop-q-preserved c =
    passed_over (has_item c.args.program.now (model_of c.args.self.now) c.args.t) (length c.args.program.now.pipes) c.loop-q.q (omega arith) c.loop-q.invariant
    (sym c.has_item.ensures ∙ c.if-has_item.false)
