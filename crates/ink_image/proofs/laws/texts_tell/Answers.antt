use Rattle.ink_image.proofs.PlainTexts.{plain_text}
use Rattle.ink_image.proofs.Once.{one_answer}
use Rattle.ink_image.proofs.laws.texts_tell.Goals as goal

pub returns : goal.returns
returns c = record { plain = plain_text; one = one_answer }
