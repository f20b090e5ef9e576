-- As many zeros as the board has words.
use Rattle.ink_layout.proofs.Common.{length, ap, ◌∙◌, length-replicate}
use Rattle.ink_layout.proofs.image.first_image.Goals as goal

pub write_first_image-requires-clause-count : goal.write_first_image-requires-clause-count
write_first_image-requires-clause-count c = ap length c.in_ok-fram.ensures ∙ (length-replicate c.args.layout.now.words 0 ∙ c.requires.layout.words)
