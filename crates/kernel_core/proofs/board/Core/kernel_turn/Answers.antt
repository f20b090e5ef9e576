use Rattle.kernel_core.proofs.Common.{◌<◌, sym, ap, ◌∙◌, subst, entry_of_point, with_kernel, Recorded, KeepsRoom, kernel_turn, kernel_made, View, setup_of}
use Rattle.kernel_core.proofs.CoreSteps.{can_want, can_take, within, adds_nothing, kernel_turn_is, kernel_made_is, kernel_turn_core, at_hand, has_spare, kernel_counts}
use Rattle.kernel_core.proofs.board.Core.kernel_turn.Goals as goal

pub want-access-requires : goal.want-access-requires
want-access-requires c =
    can_want _ _ _ _ _ _ c.self.invariant.1 (subst (λ (z : View). 0 < z.room) (sym c.self.view_is) c.requires.room)

pub perform-word-requires-clause-within : goal.perform-word-requires-clause-within
perform-word-requires-clause-within c =
    within _ _ _ _ _ _ c.self.invariant.1 c.want-access.result (subst (λ (z : View). 0 < z.room) (sym c.self.view_is) c.requires.room)
    c.want-access.ensures.access

pub perform-word-requires-clause-fits : goal.perform-word-requires-clause-fits
perform-word-requires-clause-fits c =
    adds_nothing _ _ _ _ _ _ c.self.invariant.1 c.want-access.result (subst (λ (z : View). 0 < z.room) (sym c.self.view_is) c.requires.room)
    c.want-access.ensures.access

pub note_kernel-requires-clause-spare : goal.note_kernel-requires-clause-spare
note_kernel-requires-clause-spare c = has_spare _ _ _ _ _ _ c.self.invariant.1 (subst (λ (z : View). 0 < z.board.begun) (sym c.self.view_is) c.requires.begun) c.index_mut.result.now c.index_mut.ensures.value (subst (λ (z : View). 0 < z.room) (sym c.self.view_is) c.requires.room)

pub note_kernel-requires-clause-steps : goal.note_kernel-requires-clause-steps
note_kernel-requires-clause-steps c = kernel_counts _ _ _ _ _ _ c.self.invariant.1 (subst (λ (z : View). 0 < z.board.begun) (sym c.self.view_is) c.requires.begun) c.index_mut.result.now c.index_mut.ensures.value (subst (λ (z : View). 0 < z.room) (sym c.self.view_is) c.requires.room)

pub take-requires : goal.take-requires
take-requires c =
    can_take _ _ _ _ _ _ c.self.invariant.1 c.want-access.result c.perform-word.result (subst (λ (z : View). 0 < z.room) (sym c.self.view_is) c.requires.room)
    c.want-access.ensures.access
    c.perform-word.ensures.answer

pub invariant_of-self : goal.invariant_of-self
invariant_of-self c = (
  c.self.invariant.0,
  kernel_turn_core _ _ _ _ _ _ c.self.invariant.1 c.want-access.result c.perform-word.result c.perform-word.new.self c.take.new.self c.entry_of_point-entry.result c.note_kernel.new.self
      (subst (λ (z : View). 0 < z.board.begun) (sym c.self.view_is) c.requires.begun)
      (subst (λ (z : View). 0 < z.room) (sym c.self.view_is) c.requires.room)
      c.want-access.ensures.access
      c.perform-word.ensures.answer
      c.perform-word.ensures.after
      c.take.ensures.registers
      (c.entry_of_point-entry.ensures ∙ ap (λ z. entry_of_point z) (c.point-point.ensures c.self.inside.plan.accepted))
      (c.note_kernel.ensures.charge ∙ ap (λ (z : Recorded). with_kernel c.entry_of_point-entry.result z.charge)
      (at_hand _ _ _ _ _ _ c.self.invariant.1 (subst (λ (z : View). 0 < z.board.begun) (sym c.self.view_is) c.requires.begun) c.index_mut.result.now c.index_mut.ensures.value))
      (subst (λ (z : Recorded). KeepsRoom z c.note_kernel.new.self)
      (at_hand _ _ _ _ _ _ c.self.invariant.1 (subst (λ (z : View). 0 < z.board.begun) (sym c.self.view_is) c.requires.begun) c.index_mut.result.now c.index_mut.ensures.value) (record { spare = c.note_kernel.ensures.spare; capacity = c.note_kernel.ensures.capacity })),
)

pub returns-clause-board : goal.returns-clause-board
returns-clause-board c =
    kernel_turn_is _ _ _ _ _ _ c.self.invariant.1 c.want-access.result c.perform-word.result
    (subst (λ (z : View). 0 < z.room) (sym c.self.view_is) c.requires.room)
    c.want-access.ensures.access
    c.perform-word.ensures.answer
    c.perform-word.new.self c.take.new.self c.entry_of_point-entry.result c.note_kernel.new.self
    c.perform-word.ensures.after
    c.take.ensures.registers
    (c.entry_of_point-entry.ensures ∙ ap (λ z. entry_of_point z) (c.point-point.ensures c.self.inside.plan.accepted))
    (c.note_kernel.ensures.charge ∙ ap (λ (z : Recorded). with_kernel c.entry_of_point-entry.result z.charge)
    (at_hand _ _ _ _ _ _ c.self.invariant.1 (subst (λ (z : View). 0 < z.board.begun) (sym c.self.view_is) c.requires.begun) c.index_mut.result.now c.index_mut.ensures.value))
    ∙ ap (λ (z : View). kernel_turn (setup_of z.job) z.board) c.self.view_is

pub returns-clause-made : goal.returns-clause-made
returns-clause-made c =
    kernel_made_is _ _ _ _ _ _ c.self.invariant.1 c.want-access.result c.perform-word.result
    (subst (λ (z : View). 0 < z.room) (sym c.self.view_is) c.requires.room)
    c.want-access.ensures.access
    c.perform-word.ensures.answer
    c.entry_of_point-entry.result
    (c.entry_of_point-entry.ensures ∙ ap (λ z. entry_of_point z) (c.point-point.ensures c.self.inside.plan.accepted))
    ∙ ap (λ (z : View). kernel_made (setup_of z.job) z.board) c.self.view_is
