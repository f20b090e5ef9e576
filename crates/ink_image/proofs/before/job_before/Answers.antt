use Rattle.ink_image.proofs.Common.{List, Ok, sym, ap, ◌∙◌, token_lines}
use Rattle.ink_base.specs.declared.token.Token.{Token}
use Rattle.ink_image.specs.Before.{IsJobBefore}
use Rattle.ink_image.specs.Whole.{Answers}
use Rattle.ink_image.proofs.Judged.{before_told}
use Rattle.ink_image.proofs.Within.{last_within}
use Rattle.ink_image.proofs.before.job_before.Goals as goal

pub returns : goal.returns
returns c =
    let judged = c.judged_text-judged.result.now in
    let told : Answers (IsJobBefore c.args.tails c.args.text.now) c.made_before.result =
    before_told c.args.tails c.args.text.now judged c.in_ok-job.job (token_lines judged c.tokens_from.result.now) c.made_before.result c.judged_text-judged.ensures.bytes
    (c.in_ok-job.ensures.given ∙ ap (λ (ts : List Token). Ok (c.in_ok-job.job, token_lines judged ts)) (sym c.tokens_from.ensures)) c.made_before.ensures in
    record { told = told; within = last_within c.args.tails c.args.text.now c.made_before.result told }
