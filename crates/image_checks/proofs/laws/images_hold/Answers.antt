use Rattle.image_checks.proofs.Firsts.{fails_nowhere}
use Rattle.image_checks.proofs.laws.images_hold.Goals as goal

pub returns : goal.returns
returns c = λ program words p image. fails_nowhere program words image p
