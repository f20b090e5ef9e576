use Rattle.ink_image.proofs.Once.{one_before}
use Rattle.ink_image.proofs.Telling.{last_told}
use Rattle.ink_image.proofs.Nothing.{whole_before}
use Rattle.ink_image.proofs.laws.befores_tell.Goals as goal

pub returns-clause-last : goal.returns-clause-last
returns-clause-last c = last_told

pub returns-clause-one : goal.returns-clause-one
returns-clause-one c = one_before

pub returns-clause-whole : goal.returns-clause-whole
returns-clause-whole c = whole_before
