use Rattle.ink_audit.proofs.Lawful.{every_text, no_text}
use Rattle.ink_audit.proofs.Once.{one_verdict}
use Rattle.ink_audit.proofs.laws.verdicts_are_right.Goals as goal

pub returns-clause-right : goal.returns-clause-right
returns-clause-right c = every_text

pub returns-clause-never_wrong : goal.returns-clause-never_wrong
returns-clause-never_wrong c = no_text

pub returns-clause-one : goal.returns-clause-one
returns-clause-one c = one_verdict
