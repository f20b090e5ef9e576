use Rattle.kernel_core.proofs.Common.{◌+◌, ◌≤◌, get_or, refl, sym, ap, ◌∙◌, subst, arith, sum_by_more, sum_by_more_le, Charge, Item, item_turns, no_item}
use Rattle.ink_base.specs.declared.limits.TheConstants as limits
use Rattle.kernel_core.proofs.CoreJobs.{turns_small, charge_is, taken_all}
use Rattle.kernel_core.proofs.start.turns_in.Goals as goal

pub loop-item-init : goal.loop-item-init
loop-item-init c = refl

pub overflow_add-turns : goal.overflow_add-turns
overflow_add-turns c =
    let all = sum_by_more_le (λ (item : Item). item.count) c.as_slice-item-items.result.now c.loop-item.item-index no_item c.loop-item-test.true in
    let few : item_turns c.as_slice-item-items.result.now ≤ limits.TURNS = subst (λ n. n ≤ limits.TURNS) (sym (ap (λ z. item_turns z) c.as_slice-item-items.ensures ∙ (ap (λ (z : Charge). item_turns z.items) (sym c.index-charges-k.is) ∙ charge_is c.args.charges.now c.args.k c.index-charges-k.result c.requires.known c.index-charges-k.is))) (turns_small c.args.charges.now c.args.k c.requires.few c.requires.known) in
    let so_far = c.loop-item.invariant in
    omega arith

pub loop-item-preserved : goal.loop-item-preserved
loop-item-preserved c =
    ap (λ n. n + (get_or c.as_slice-item-items.result.now c.loop-item.item-index no_item).count) c.loop-item.invariant
    ∙ sym (sum_by_more (λ (item : Item). item.count) c.as_slice-item-items.result.now c.loop-item.item-index no_item c.loop-item-test.true)

pub returns-clause-turns : goal.returns-clause-turns
returns-clause-turns c =
    c.loop-item.invariant ∙ (taken_all (λ (item : Item). item.count) c.as_slice-item-items.result.now c.loop-item.item-index c.loop-item-test.false ∙
    (ap (λ z. item_turns z) c.as_slice-item-items.ensures ∙ (ap (λ (z : Charge). item_turns z.items) (sym c.index-charges-k.is) ∙ charge_is c.args.charges.now c.args.k c.index-charges-k.result c.requires.known c.index-charges-k.is)))

pub returns-clause-few : goal.returns-clause-few
returns-clause-few c =
    subst (λ n. n ≤ limits.TURNS) (sym (c.loop-item.invariant ∙ (taken_all (λ (item : Item). item.count) c.as_slice-item-items.result.now c.loop-item.item-index c.loop-item-test.false ∙
    (ap (λ z. item_turns z) c.as_slice-item-items.ensures ∙ (ap (λ (z : Charge). item_turns z.items) (sym c.index-charges-k.is) ∙ charge_is c.args.charges.now c.args.k c.index-charges-k.result c.requires.known c.index-charges-k.is)))))
    (turns_small c.args.charges.now c.args.k c.requires.few c.requires.known)
