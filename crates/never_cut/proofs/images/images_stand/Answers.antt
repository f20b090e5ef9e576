-- The law of images, from the lemmas on each of their parts.
use Rattle.never_cut.proofs.ImagesStand.{every_image}
use Rattle.never_cut.proofs.StatesImage.{every_state}
use Rattle.never_cut.proofs.images.images_stand.Goals as goal

pub returns : goal.returns
returns c = record { stands = every_image; is_image = every_state }
