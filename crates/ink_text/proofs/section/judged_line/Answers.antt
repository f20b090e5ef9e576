use Rattle.ink_base.proofs.Failing.{Fails-at}
use Rattle.ink_text.proofs.section.judged_line.Goals as goal

pub returns-in-Err-clause-given : goal.returns-in-Err-clause-given
returns-in-Err-clause-given g c = rw c.at.ensures (Fails-at c.args.number c.in-Err.e _ c.in-Err.ensures.given)
