use Rattle.kernel_core.proofs.Common.{◌<◌, List, length, get_or, sym, ap, ◌∙◌, subst, arith, begun, Recorded, KeepsRoom, cut, Charge, item_turns, View, setup_of, no_charge}
use Rattle.kernel_core.proofs.CoreSteps.{clock_within}
use Rattle.kernel_core.proofs.CoreCuts.{cut_fits, at_next, next_spare, board_of, core_of}
use Rattle.kernel_core.proofs.board.Core.begin_charge.Goals as goal

pub perform-self-inside-requires-clause-within : goal.perform-self-inside-requires-clause-within
perform-self-inside-requires-clause-within c = clock_within _ _ _ _ _ _ c.self.invariant.1

pub perform-self-inside-requires-clause-fits : goal.perform-self-inside-requires-clause-fits
perform-self-inside-requires-clause-fits c = cut_fits _ _ _ _ _ _ c.self.invariant.1 (subst (λ (z : View). z.board.begun < length z.job.charges) (sym c.self.view_is) c.requires) c.args.off (omega arith)

pub begin-requires : goal.begin-requires
begin-requires c = record { spare = next_spare _ _ _ _ _ _ c.self.invariant.1 (subst (λ (z : View). z.board.begun < length z.job.charges) (sym c.self.view_is) c.requires) c.args.off (omega arith) c.index_mut.result.now c.index_mut.ensures.value }

pub invariant_of-self : goal.invariant_of-self
invariant_of-self c = (
  c.self.invariant.0,
  core_of _ _ _ _ _ _ c.self.invariant.1 (subst (λ (z : View). z.board.begun < length z.job.charges) (sym c.self.view_is) c.requires) c.args.off (omega arith) c.perform-self-inside.new.self c.boot-self-inside.result c.lose_rows.new.pushers.items c.begin.new.self c.turns_in-self-inside.result
      c.perform-self-inside.ensures.after c.boot-self-inside.ensures.begun c.lose_rows.ensures
      (c.begin.ensures.charge ∙ ap (λ (z : Recorded). begun c.args.off z.charge) (at_next _ _ _ _ _ _ c.self.invariant.1 (subst (λ (z : View). z.board.begun < length z.job.charges) (sym c.self.view_is) c.requires) c.args.off (omega arith) c.index_mut.result.now c.index_mut.ensures.value))
      (subst (λ (z : Recorded). KeepsRoom z c.begin.new.self) (at_next _ _ _ _ _ _ c.self.invariant.1 (subst (λ (z : View). z.board.begun < length z.job.charges) (sym c.self.view_is) c.requires) c.args.off (omega arith) c.index_mut.result.now c.index_mut.ensures.value) (record { spare = c.begin.ensures.spare; capacity = c.begin.ensures.capacity }))
      (c.turns_in-self-inside.ensures.turns ∙ ap (λ (l : List Charge). item_turns (get_or l c.self.inside.begun no_charge).items) c.as_slice.ensures),
)

pub returns-clause-board : goal.returns-clause-board
returns-clause-board c =
    board_of _ _ _ _ _ _ c.self.invariant.1 (subst (λ (z : View). z.board.begun < length z.job.charges) (sym c.self.view_is) c.requires) c.args.off (omega arith) c.perform-self-inside.new.self c.boot-self-inside.result c.lose_rows.new.pushers.items c.begin.new.self
    c.perform-self-inside.ensures.after c.boot-self-inside.ensures.begun c.lose_rows.ensures
    (c.begin.ensures.charge ∙ ap (λ (z : Recorded). begun c.args.off z.charge) (at_next _ _ _ _ _ _ c.self.invariant.1 (subst (λ (z : View). z.board.begun < length z.job.charges) (sym c.self.view_is) c.requires) c.args.off (omega arith) c.index_mut.result.now c.index_mut.ensures.value))
    ∙ ap (λ (z : View). cut (setup_of z.job) z.board c.args.off) c.self.view_is
