use Rattle.kernel_core.proofs.Common.{◌≡◌, ◌+◌, ◌<◌, ◌≤◌, length, get_or, refl, sym, ap, ◌∙◌, subst, arith, flat_map, JobParts, Item, Board, cut, moved_by, turns_of, setup_of, charge_def, turns_in, no_item}
use Rattle.kernel_core.proofs.CoreJobs.{taken}
use Rattle.kernel_core.proofs.CoreRuns.{items_more, item_room}
use Rattle.kernel_core.proofs.board.Core.run_charge.Goals as goal

pub loop-k-init : goal.loop-k-init
loop-k-init c = (
  refl,
  refl,
  refl,
  (let e : c.cut.new.self.room ≡ turns_in c.cut.new.self.job c.args.n = c.cut.ensures.room ∙ (λ i. turns_in (sym c.cut.ensures.job i) (c.requires.begun i)) in omega arith),
)

pub item_at-requires-clause-charge : goal.item_at-requires-clause-charge
item_at-requires-clause-charge c = subst (λ (z : JobParts). c.args.n < length z.charges) (sym (c.loop-k.invariant.0 ∙ c.cut.ensures.job)) c.requires.known

pub item_at-requires-clause-item : goal.item_at-requires-clause-item
item_at-requires-clause-item c = subst (λ (z : JobParts). c.loop-k.k < length (charge_def z c.args.n).items) (sym c.loop-k.invariant.0) (let e = c.items_at-k-end.ensures in let lt = c.loop-k-test.true in omega arith)

pub run_item-requires-clause-known : goal.run_item-requires-clause-known
run_item-requires-clause-known c = c.item_at.ensures.known

pub run_item-requires-clause-begun : goal.run_item-requires-clause-begun
run_item-requires-clause-begun c =
    let e : c.loop-k.self.board.begun ≡ c.args.self.now.board.begun + 1 = c.loop-k.invariant.2 ∙ ap (λ (z : Board). z.begun) c.cut.ensures.board in omega arith

pub run_item-requires-clause-room : goal.run_item-requires-clause-room
run_item-requires-clause-room c =
    let same : c.item_at.result.count ≡ (get_or (charge_def c.cut.new.self.job c.args.n).items c.loop-k.k no_item).count = ap (λ (z : Item). z.count) (c.item_at.ensures.same ∙ ap (λ (z : JobParts). get_or (charge_def z c.args.n).items c.loop-k.k no_item) c.loop-k.invariant.0) in
    let split = item_room (charge_def c.cut.new.self.job c.args.n).items c.loop-k.k (let e = c.items_at-k-end.ensures in let lt = c.loop-k-test.true in omega arith) in
    let room = c.loop-k.invariant.3 in
    omega arith

pub loop-k-preserved : goal.loop-k-preserved
loop-k-preserved c = (
  c.run_item.ensures.job ∙ c.loop-k.invariant.0,
  c.run_item.ensures.board
      ∙ ((λ i. moved_by (setup_of (c.loop-k.invariant.0 i)) (c.loop-k.invariant.1 i) (turns_of ((c.item_at.ensures.same ∙ ap (λ (z : JobParts). get_or (charge_def z c.args.n).items c.loop-k.k no_item) c.loop-k.invariant.0) i)))
      ∙ sym (items_more (setup_of c.cut.new.self.job) c.cut.new.self.board (charge_def c.cut.new.self.job c.args.n).items c.loop-k.k (let e = c.items_at-k-end.ensures in let lt = c.loop-k-test.true in omega arith))),
  c.run_item.ensures.begun ∙ c.loop-k.invariant.2,
  (
      let same : c.item_at.result.count ≡ (get_or (charge_def c.cut.new.self.job c.args.n).items c.loop-k.k no_item).count = ap (λ (z : Item). z.count) (c.item_at.ensures.same ∙ ap (λ (z : JobParts). get_or (charge_def z c.args.n).items c.loop-k.k no_item) c.loop-k.invariant.0) in
      let split = item_room (charge_def c.cut.new.self.job c.args.n).items c.loop-k.k (let e = c.items_at-k-end.ensures in let lt = c.loop-k-test.true in omega arith) in
      let room = c.loop-k.invariant.3 in
      let less = c.run_item.ensures.room in
      omega arith
      ),
)

pub returns-clause-board : goal.returns-clause-board
returns-clause-board c =
    let end : length (charge_def c.cut.new.self.job c.args.n).items ≤ c.loop-k.k = let e = c.items_at-k-end.ensures in let le = c.loop-k-test.false in omega arith in
    c.loop-k.invariant.1
    ∙ (ap (λ l. moved_by (setup_of c.cut.new.self.job) c.cut.new.self.board (flat_map turns_of l)) (taken (charge_def c.cut.new.self.job c.args.n).items c.loop-k.k end)
    ∙ ((λ i. moved_by (setup_of (c.cut.ensures.job i)) (c.cut.ensures.board i) (flat_map turns_of (charge_def (c.cut.ensures.job i) c.args.n).items))
    ∙ ap (λ o. moved_by (setup_of c.args.self.now.job) (cut (setup_of c.args.self.now.job) c.args.self.now.board o) (flat_map turns_of (charge_def c.args.self.now.job c.args.n).items))
    c.off_at.ensures))

pub returns-clause-begun : goal.returns-clause-begun
returns-clause-begun c = c.loop-k.invariant.2 ∙ (ap (λ (z : Board). z.begun) c.cut.ensures.board ∙ ap (λ k. k + 1) c.requires.begun)

pub returns-clause-job : goal.returns-clause-job
returns-clause-job c = c.loop-k.invariant.0 ∙ c.cut.ensures.job
