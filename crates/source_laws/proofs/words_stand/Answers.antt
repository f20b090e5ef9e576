use Rattle.source_laws.proofs.Common.{suc}
use Rattle.source_laws.proofs.Runs.{start_first, kept_run, tells}
use Rattle.source_laws.proofs.Steps.{source_step}
use Rattle.source_laws.proofs.Journals.{settled_in_order}
use Rattle.source_laws.proofs.words_stand.Goals as goal

pub returns-clause-first : goal.returns-clause-first
returns-clause-first c = λ board x w h. start_first board x w h

pub returns-clause-stands : goal.returns-clause-stands
returns-clause-stands c = λ board at w run n. record { queues = (kept_run board at w run n).queues; sources = λ i lt. tells board (at n) i w lt (kept_run board at w run n) }

pub returns-clause-legal : goal.returns-clause-legal
returns-clause-legal c = λ board at w run n i lt step. (source_step board (at n) (at (suc n)) i w lt (kept_run board at w run n) step).0

pub returns-clause-in_order : goal.returns-clause-in_order
returns-clause-in_order c = λ board i entries old new leads. settled_in_order board i entries old new leads
