use Rattle.audited_runs.proofs.Audited.{runs_right, no_run_wrong}
use Rattle.audited_runs.proofs.runs_are_right.Goals as goal

pub returns-clause-right : goal.returns-clause-right
returns-clause-right c = runs_right c.verdicts_are_right.ensures.right

pub returns-clause-never_wrong : goal.returns-clause-never_wrong
returns-clause-never_wrong c = no_run_wrong c.verdicts_are_right.ensures.never_wrong
