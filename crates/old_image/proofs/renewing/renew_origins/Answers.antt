use Rattle.old_image.proofs.Common.{◌≡◌, ◌+◌, ◌∙◌, length, sym, ap, subst, refl, arith, List, ℕ, Bool, true, false, Memory, Program, committed, without_reading, HasSourceChain}
use Rattle.fram_words.specs.Header as header
use Rattle.image_checks.specs.Board.{board}
use Rattle.old_image.specs.kept.Stages.{OriginsRenewed}
use Rattle.old_image.proofs.Stages.{origins_more, origins_over}
use Rattle.old_image.proofs.renewing.renew_origins.Goals as goal
use Rattle.old_image.proofs.renewing.renew_origins.Goals.{then-has_source_chain, else-has_source_chain}

pub loop-t-preserved : goal.loop-t-preserved
loop-t-preserved c =
    let old : Memory = board c.args.plan.now.accepted c.args.words.now in
    let before : Memory = board c.args.plan.now.accepted c.args.new.now in
    let after : Memory = board c.args.plan.now.accepted c.loop-t.new in
    record {
      renewed = elim c.if-has_source_chain.branch [
        | then-has_source_chain w ↦
            subst (λ (n : List ℕ). OriginsRenewed old before (board c.args.plan.now.accepted n) (c.loop-t.t + 1)) (sym w.new-is)
            (origins_more old before c.loop-t.t (without_reading (committed old c.loop-t.t header.origin)) after (board c.args.plan.now.accepted w.renew_origin.new.new)
            c.loop-t.invariant.renewed refl (c.has_source_chain.ensures.0 w.if-has_source_chain.true) w.renew_origin.ensures)
        | else-has_source_chain w ↦
            subst (λ (n : List ℕ). OriginsRenewed old before (board c.args.plan.now.accepted n) (c.loop-t.t + 1)) (sym w.new-is)
            (origins_over old before c.loop-t.t after c.loop-t.invariant.renewed
            (λ chain. absurd (let clash : false ≡ true = sym w.if-has_source_chain.false ∙ c.has_source_chain.ensures.1 chain in cc)))
      ];
      size = c.if-has_source_chain.auto.new ∙ c.loop-t.invariant.size;
    }

pub returns : goal.returns
returns c =
    let same : length c.program.result.now.threads ≡ length c.args.plan.now.accepted.threads = ap (λ (p : Program). length p.threads) c.program.ensures.same in
    let all : c.loop-t.t ≡ length c.args.plan.now.accepted.threads = omega (arith, c.len-t-end.ensures, c.loop-t-test.false, c.loop-t.auto.t-end) in
    subst (OriginsRenewed (board c.args.plan.now.accepted c.args.words.now) (board c.args.plan.now.accepted c.args.new.now) (board c.args.plan.now.accepted c.loop-t.new)) all
    c.loop-t.invariant.renewed
