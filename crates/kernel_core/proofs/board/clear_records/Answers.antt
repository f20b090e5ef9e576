-- Each element that was passed is emptied, and the others are as they were.
use Rattle.kernel_core.proofs.Common.{◌≡◌, length, map, drop, set, refl, sym, ap, ◌∙◌, arith, take_at, Recorded, emptied}
use Rattle.std.proofs.lemmas.List.Edits.{map_over_more}
use Rattle.kernel_core.proofs.Mapped.{mapped_all}
use Rattle.kernel_core.proofs.board.clear_records.Goals as goal

pub loop-charge-init : goal.loop-charge-init
loop-charge-init c = refl

pub loop-charge-preserved : goal.loop-charge-preserved
loop-charge-preserved c =
    ap (λ (z : Recorded). set c.loop-charge.charge-items c.loop-charge.charge-index z) (c.clear.ensures ∙ ap (λ (z : Recorded). emptied z) (sym c.charge-item.is))
    ∙ map_over_more emptied c.deref_mut-charge-items.result.now c.loop-charge.charge-items c.loop-charge.charge-index c.charge-item.result c.loop-charge-test.true c.loop-charge.invariant c.charge-item.is

pub returns : goal.returns
returns c =
    let all : c.loop-charge.charge-items ≡ map emptied c.args.charges.now.items =
    c.loop-charge.invariant ∙ (mapped_all emptied c.deref_mut-charge-items.result.now c.loop-charge.charge-index c.loop-charge-test.false ∙ ap (λ z. map emptied z) c.deref_mut-charge-items.ensures.value) in
    take_at c.loop-charge.charge-items (drop (length c.loop-charge.charge-items) c.args.charges.now.items) c.args.charges.now.len
    (let e = c.deref_mut-charge-items.ensures.len in let f = c.loop-charge.auto.charge-items in omega arith)
    ∙ all
