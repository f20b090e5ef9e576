use Rattle.priority_sched.proofs.Common.{length, ◌∙◌, sym, arith, is_owner}
use Rattle.priority_sched.proofs.Searches.{search_ends, search_goes_on}
use Rattle.priority_sched.proofs.pipes.next_timer.Goals as goal

pub returns-then-is_owner-clause-first : goal.returns-then-is_owner-clause-first
returns-then-is_owner-clause-first c =
    search_ends (is_owner c.args.program.now c.args.thread.0) c.args.from (length c.args.program.now.timers) c.loop-j.j (omega arith) c.loop-j.invariant
    (sym c.is_owner.ensures ∙ c.if-is_owner.true)

pub loop-j-preserved : goal.loop-j-preserved
loop-j-preserved c =
    search_goes_on (is_owner c.args.program.now c.args.thread.0) c.args.from (length c.args.program.now.timers) c.loop-j.j (omega arith) c.loop-j.invariant
    (sym c.is_owner.ensures ∙ c.if-is_owner.false)
