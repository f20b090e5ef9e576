-- As the run of a core, with the first charge cut; the others are cut to more turns than they list, and so not at all.
use Rattle.std.proofs.Common.{◌≡◌, ◌-◌, ◌<◌, ◌≤◌, List, length, take, drop, get_or, sym, ap, ◌∙◌, subst, arith}
use Rattle.std.specs.List.{flat_map}
use Rattle.std.proofs.lemmas.List.{get_or_read, take_all}
use Rattle.ink_base.specs.declared.limits.TheConstants as limits
use Rattle.job_parts.specs.Job.{item_turns}
use Rattle.job_parts.specs.declared.charge.Charge.{Charge}
use Rattle.kernel_core.specs.Board.{moved_by}
use Rattle.kernel_core.specs.Core.{setup_of, no_charge}
use Rattle.kernel_core.specs.Listed.{moves_of}
use Rattle.kernel_core.proofs.CoreRuns.{charges_more}
use Rattle.cut_sweep.specs.Cut.{cut_charge}
use Rattle.cut_sweep.proofs.Cuts.{all_others, charge_whole, first_and_others, other_few}
use Rattle.cut_sweep.proofs.running.run_cut.Goals as goal

pub loop-charge-preserved : goal.loop-charge-preserved
loop-charge-preserved c =
    let others : take (length c.charges.result.now - 1) (drop 1 c.charges.result.now) ≡ drop 1 c.args.job.now.charges =
    all_others c.charges.result.now ∙ ap (λ (l : List Charge). drop 1 l) c.charges.ensures.same in
    let lt : c.loop-charge.charge-index < length (drop 1 c.args.job.now.charges) = subst (λ (l : List Charge). c.loop-charge.charge-index < length l) others c.loop-charge-test.true in
    let at : c.charge-item.result ≡ get_or (drop 1 c.args.job.now.charges) c.loop-charge.charge-index no_charge =
    get_or_read (drop 1 c.args.job.now.charges) c.loop-charge.charge-index c.charge-item.result lt
    (c.charge-item.is ∙ ap (λ (l : List Charge). get_or l c.loop-charge.charge-index c.charge-item.result) others) no_charge in
    let few : item_turns c.charge-item.result.items ≤ limits.TURNS =
    subst (λ (charge : Charge). item_turns charge.items ≤ limits.TURNS) (sym at) (other_few c.args.job.now.charges c.loop-charge.charge-index c.charges.ensures.job.charges.turns lt) in
    let whole : cut_charge limits.TURNS c.charge-item.result ≡ get_or (drop 1 c.args.job.now.charges) c.loop-charge.charge-index no_charge =
    charge_whole limits.TURNS c.charge-item.result few ∙ at in (
      c.run_charge-in-loop-charge.ensures.job ∙ c.loop-charge.invariant.0,
      c.run_charge-in-loop-charge.ensures.board
          ∙ ((λ i. moved_by (setup_of (c.loop-charge.invariant.0 i)) (c.loop-charge.invariant.1 i) (moves_of (whole i)))
          ∙ sym (charges_more (setup_of c.run_charge.new.core.job) c.run_charge.new.core.board (drop 1 c.args.job.now.charges) c.loop-charge.charge-index lt)),
      (let so_far = c.loop-charge.invariant.2 in let more = c.run_charge-in-loop-charge.ensures.begun in omega (arith, so_far, more)),
    )

pub returns-after-loop-charge-clause-board : goal.returns-after-loop-charge-clause-board
returns-after-loop-charge-clause-board c =
    let others : take (length c.charges.result.now - 1) (drop 1 c.charges.result.now) ≡ drop 1 c.args.job.now.charges =
    all_others c.charges.result.now ∙ ap (λ (l : List Charge). drop 1 l) c.charges.ensures.same in
    let end : length (drop 1 c.args.job.now.charges) ≤ c.loop-charge.charge-index = subst (λ (l : List Charge). length l ≤ c.loop-charge.charge-index) others c.loop-charge-test.false in
    let some : 0 < length c.args.job.now.charges = let least = c.charges.ensures.job.charges.least in omega (arith, least) in
    let first : c.first-item.result ≡ get_or c.args.job.now.charges 0 no_charge =
    get_or_read c.args.job.now.charges 0 c.first-item.result some
    (c.first-item.is ∙ ap (λ (l : List Charge). get_or l 0 c.first-item.result) c.charges.ensures.same) no_charge in
    c.loop-charge.invariant.1
    ∙ (ap (λ l. moved_by (setup_of c.run_charge.new.core.job) c.run_charge.new.core.board (flat_map moves_of l)) (take_all c.loop-charge.charge-index (drop 1 c.args.job.now.charges) end)
    ∙ ((λ i. moved_by (setup_of (c.run_charge.ensures.job i)) (c.run_charge.ensures.board i) (flat_map moves_of (drop 1 c.args.job.now.charges)))
    ∙ ((λ i. moved_by (setup_of (c.requires.same i)) (moved_by (setup_of (c.requires.same i)) c.args.core.now.board (moves_of (cut_charge c.args.turns (first i)))) (flat_map moves_of (drop 1 c.args.job.now.charges)))
    ∙ sym (first_and_others (setup_of c.args.job.now) c.args.core.now.board c.args.turns c.args.job.now.charges some))))
