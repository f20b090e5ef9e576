use Rattle.ink_image.proofs.Common.{◌≡◌, drop, take, ap, ◌∙◌}
use Rattle.ink_image.proofs.Places.{claim_at}
use Rattle.ink_image.proofs.bytes.is_claim.Goals as goal

pub returns : goal.returns
returns c =
    let line = c.args.line.now in
    let from : c.split_at.result.1.now ≡ drop c.blank_len.result line = c.split_at.ensures.back in
    rw (c.eq.ensures, c.as_slice.ensures)
    (claim_at line c.split_at.result.1.now c.split_at-2.result.0.now (from ∙ ap (λ n. drop n line) c.blank_len.ensures.count)
    (c.split_at-2.ensures.front ∙ ap (λ n. take n c.split_at.result.1.now) c.word_len.ensures.count))
