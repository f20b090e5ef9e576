use Rattle.ink_image.proofs.Common.{◌∙◌, behind_settled}
use Rattle.ink_image.proofs.Begun.{begun_of}
use Rattle.ink_image.proofs.imaged.job_from.Goals as goal

pub new-requires : goal.new-requires
new-requires c =
    begun_of c.args.job c.args.start c.into_parts-accepted.result.0 c.in_ok-readings.readings c.into_parts-accepted.result.2 c.into_parts-accepted.ensures.job c.requires
    c.into_parts-accepted.ensures.program
    (c.in_ok-readings.ensures ∙ (λ i. behind_settled (c.as_slice.ensures i) ((c.as_slice-2.ensures ∙ c.into_parts-accepted.ensures.readings) i)))
    c.into_parts-accepted.ensures.charges
