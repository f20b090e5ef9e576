use Rattle.image_checks.specs.Failing.{SrcFails}
use Rattle.image_checks.proofs.Tests.{refused}
use Rattle.image_checks.proofs.sources.source_fault.Goals as goal

pub returns-else-is_src_right-clause-fault : goal.returns-else-is_src_right-clause-fault
returns-else-is_src_right-clause-fault c = SrcFails (refused c.if-is_src_right.ensures)
