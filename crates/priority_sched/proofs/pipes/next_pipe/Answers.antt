use Rattle.priority_sched.proofs.Common.{length, ◌∙◌, sym, arith, is_reader}
use Rattle.priority_sched.proofs.Searches.{search_ends, search_goes_on}
use Rattle.priority_sched.proofs.pipes.next_pipe.Goals as goal

pub returns-then-is_reader-clause-first : goal.returns-then-is_reader-clause-first
returns-then-is_reader-clause-first c =
    search_ends (is_reader c.args.program.now c.args.thread.0) c.args.from (length c.args.program.now.pipes) c.loop-q.q (omega arith) c.loop-q.invariant
    (sym c.is_reader.ensures ∙ c.if-is_reader.true)

pub loop-q-preserved : goal.loop-q-preserved
loop-q-preserved c =
    search_goes_on (is_reader c.args.program.now c.args.thread.0) c.args.from (length c.args.program.now.pipes) c.loop-q.q (omega arith) c.loop-q.invariant
    (sym c.is_reader.ensures ∙ c.if-is_reader.false)
