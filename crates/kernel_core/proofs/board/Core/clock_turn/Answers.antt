use Rattle.kernel_core.proofs.Common.{◌<◌, sym, ap, ◌∙◌, subst, with_tick, Recorded, KeepsRoom, clock_turn, clock_made, View, setup_of}
use Rattle.kernel_core.proofs.CoreSteps.{clock_within, clock_fits, clock_turn_is, clock_made_is, clock_turn_core, at_hand, has_spare, tick_counts}
use Rattle.kernel_core.proofs.board.Core.clock_turn.Goals as goal

pub perform-word-requires-clause-within : goal.perform-word-requires-clause-within
perform-word-requires-clause-within c = clock_within _ _ _ _ _ _ c.self.invariant.1

pub perform-word-requires-clause-fits : goal.perform-word-requires-clause-fits
perform-word-requires-clause-fits c = clock_fits _ _ _ _ _ _ c.self.invariant.1 (subst (λ (z : View). 0 < z.room) (sym c.self.view_is) c.requires.room)

pub note_tick-requires-clause-spare : goal.note_tick-requires-clause-spare
note_tick-requires-clause-spare c =
    has_spare _ _ _ _ _ _ c.self.invariant.1 (subst (λ (z : View). 0 < z.board.begun) (sym c.self.view_is) c.requires.begun) c.index_mut.result.now c.index_mut.ensures.value
    (subst (λ (z : View). 0 < z.room) (sym c.self.view_is) c.requires.room)

pub note_tick-requires-clause-steps : goal.note_tick-requires-clause-steps
note_tick-requires-clause-steps c =
    tick_counts _ _ _ _ _ _ c.self.invariant.1 (subst (λ (z : View). 0 < z.board.begun) (sym c.self.view_is) c.requires.begun) c.index_mut.result.now c.index_mut.ensures.value
    (subst (λ (z : View). 0 < z.room) (sym c.self.view_is) c.requires.room)

pub invariant_of-self : goal.invariant_of-self
invariant_of-self c = (
  c.self.invariant.0,
  clock_turn_core _ _ _ _ _ _ c.self.invariant.1 c.perform-word.new.self c.note_tick.new.self
      (subst (λ (z : View). 0 < z.board.begun) (sym c.self.view_is) c.requires.begun)
      (subst (λ (z : View). 0 < z.room) (sym c.self.view_is) c.requires.room)
      c.perform-word.ensures.after
      (c.note_tick.ensures.charge ∙ ap (λ (z : Recorded). with_tick z.charge)
      (at_hand _ _ _ _ _ _ c.self.invariant.1 (subst (λ (z : View). 0 < z.board.begun) (sym c.self.view_is) c.requires.begun) c.index_mut.result.now c.index_mut.ensures.value))
      (subst (λ (z : Recorded). KeepsRoom z c.note_tick.new.self)
      (at_hand _ _ _ _ _ _ c.self.invariant.1 (subst (λ (z : View). 0 < z.board.begun) (sym c.self.view_is) c.requires.begun) c.index_mut.result.now c.index_mut.ensures.value) (record { spare = c.note_tick.ensures.spare; capacity = c.note_tick.ensures.capacity })),
)

pub returns-clause-board : goal.returns-clause-board
returns-clause-board c =
    clock_turn_is _ _ _ _ _ _ c.self.invariant.1 c.perform-word.new.self c.note_tick.new.self c.perform-word.ensures.after
    (c.note_tick.ensures.charge ∙ ap (λ (z : Recorded). with_tick z.charge)
    (at_hand _ _ _ _ _ _ c.self.invariant.1 (subst (λ (z : View). 0 < z.board.begun) (sym c.self.view_is) c.requires.begun) c.index_mut.result.now c.index_mut.ensures.value))
    ∙ ap (λ (z : View). clock_turn (setup_of z.job) z.board) c.self.view_is

pub returns-clause-made : goal.returns-clause-made
returns-clause-made c =
    clock_made_is _ _ _ _ _ _ c.self.invariant.1 c.perform-word.result c.perform-word.ensures.answer
    ∙ ap (λ (z : View). clock_made (setup_of z.job) z.board) c.self.view_is
