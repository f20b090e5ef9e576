use Rattle.ink_base.proofs.Failing.{Fails-at}
use Rattle.ink_text.proofs.headers.judged_header.Goals as goal

pub returns-in-Err : goal.returns-in-Err
returns-in-Err c = rw c.at.ensures (Fails-at c.args.line c.in-Err.e _ c.in-Err.ensures)
