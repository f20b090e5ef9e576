use Rattle.old_image.proofs.Common.{length, subst, List, ℕ, Memory}
use Rattle.image_checks.specs.Board.{board}
use Rattle.old_image.specs.kept.Stages.{SourcesRenewed}
use Rattle.old_image.proofs.NewWords.{inside}
use Rattle.old_image.proofs.Stages.{all_renewed}
use Rattle.old_image.proofs.renewing.renew_all.Goals as goal

pub returns : goal.returns
returns c =
    let words : Memory = board c.args.plan.now.accepted c.args.words.now in
    let first : Memory = board c.args.plan.now.accepted c.renew_sources.new.new in
    let sources : SourcesRenewed c.args.plan.now.accepted words words first (length c.args.plan.now.accepted.sources) =
    subst (λ (n : List ℕ). SourcesRenewed c.args.plan.now.accepted words (board c.args.plan.now.accepted n) first (length c.args.plan.now.accepted.sources))
    c.requires.copied c.renew_sources.ensures in
    all_renewed c.args.plan.now.accepted words first (board c.args.plan.now.accepted c.renew_origins.new.new) (board c.args.plan.now.accepted c.renew_queues.new.new)
    sources c.renew_origins.ensures c.renew_queues.ensures (λ t k known lt. inside c.args.plan.now.accepted words t k lt)
