-- As `run_charge` of the core, with as many turns of an item as are left.
use Rattle.std.proofs.Common.{◌≡◌, ◌-◌, ◌<◌, length, get_or, sym, ap, ◌∙◌, arith}
use Rattle.job_parts.specs.declared.item.Item.{Item}
use Rattle.kernel_core.specs.Board.{moved_by}
use Rattle.kernel_core.specs.Core.{setup_of, no_item}
use Rattle.kernel_core.specs.Listed.{turns_of}
use Rattle.kernel_core.proofs.CoreRuns.{item_room}
use Rattle.cut_sweep.specs.Cut.{cut_item}
use Rattle.cut_sweep.proofs.Cuts.{items_more, left_more}
use Rattle.cut_sweep.proofs.running.run_charge.Goals as goal

pub loop-item-preserved : goal.loop-item-preserved
loop-item-preserved c =
    let at : get_or c.as_slice-item-items.result.now c.loop-item.item-index no_item ≡ get_or c.args.charge.now.items c.loop-item.item-index no_item =
    ap (λ l. get_or l c.loop-item.item-index no_item) c.as_slice-item-items.ensures in
    let lt : c.loop-item.item-index < length c.args.charge.now.items =
    let e = ap length c.as_slice-item-items.ensures in let more = c.loop-item-test.true in omega arith in (
      c.run_item-left.ensures.job ∙ c.loop-item.invariant.0,
      c.run_item-left.ensures.board
          ∙ ((λ i. moved_by (setup_of (c.loop-item.invariant.0 i)) (c.loop-item.invariant.1 i) (turns_of (cut_item (c.loop-item.invariant.4 i) (at i))))
          ∙ sym (items_more (setup_of c.cut.new.self.job) c.cut.new.self.board c.args.turns c.args.charge.now.items c.loop-item.item-index lt)),
      c.run_item-left.ensures.begun ∙ c.loop-item.invariant.2,
      (
          let split = item_room c.args.charge.now.items c.loop-item.item-index lt in
          let same = ap (λ (z : Item). z.count) at in
          let room = c.loop-item.invariant.3 in
          let less = c.run_item-left.ensures.room in
          omega arith
          ),
      c.run_item-left.ensures.left
          ∙ ((λ i. c.loop-item.invariant.4 i - (at i).count)
          ∙ left_more c.args.turns c.args.charge.now.items c.loop-item.item-index lt),
    )
