use Rattle.kernel_core.proofs.Common.{◌≡◌, ℕ, ◌<◌, List, length, sym, ap, ◌∙◌, subst, arith, IsFew, IsLeft, IsRowFor, IsAnswer, take_of, readings_of, with_source, Recorded, KeepsRoom, row_of, source_access, source_made, access_made, View, setup_of}
use Rattle.kernel_core.proofs.CoreSteps.{at_hand, has_spare, source_counts, source_known}
use Rattle.kernel_core.proofs.CoreSources.{few, fits, left_in, source_within, source_adds_nothing, answer_in_range, source_made_is, access_made_is, source_made_core}
use Rattle.kernel_core.proofs.board.Core.source_made.Goals as goal

pub perform-word-requires-clause-within : goal.perform-word-requires-clause-within
perform-word-requires-clause-within c = source_within _ _ _ _ _ _ c.self.invariant.1 c.args.source.0 (subst (λ (z : View). c.args.source.0 < length z.job.program.sources) (sym c.self.view_is) c.requires.known) c.args.access (subst (λ (z : View). c.args.access ≡ source_access (setup_of z.job) z.board c.args.source.0) (sym c.self.view_is) c.requires.access)

pub perform-word-requires-clause-fits : goal.perform-word-requires-clause-fits
perform-word-requires-clause-fits c = source_adds_nothing _ _ _ _ _ _ c.self.invariant.1 c.args.source.0 (subst (λ (z : View). c.args.source.0 < length z.job.program.sources) (sym c.self.view_is) c.requires.known) c.args.access (subst (λ (z : View). c.args.access ≡ source_access (setup_of z.job) z.board c.args.source.0) (sym c.self.view_is) c.requires.access)

pub readings_at-readings-requires : goal.readings_at-readings-requires
readings_at-readings-requires c =
    let known : c.args.source.0 < length c.self.inside.plan.accepted.sources = subst (λ (z : View). c.args.source.0 < length z.job.program.sources) (sym c.self.view_is) c.requires.known in
    let same = c.self.invariant.0.0.sources in
    omega arith

pub take-point-requires-clause-few : goal.take-point-requires-clause-few
take-point-requires-clause-few c = subst (λ (z : List ℕ). IsFew z) (sym c.readings_at-readings.ensures) (few _ _ _ _ _ _ c.self.invariant.1 c.args.source.0 (subst (λ (z : View). c.args.source.0 < length z.job.program.sources) (sym c.self.view_is) c.requires.known))

pub take-point-requires-clause-row : goal.take-point-requires-clause-row
take-point-requires-clause-row c = subst (λ (z : List ℕ). IsRowFor c.index_mut.result.now.port (length z) c.index_mut.result.now.row) (sym c.readings_at-readings.ensures) (fits _ _ _ _ _ _ c.self.invariant.1 c.args.source.0 (subst (λ (z : View). c.args.source.0 < length z.job.program.sources) (sym c.self.view_is) c.requires.known) c.index_mut.result.now c.index_mut.ensures.value)

pub take-point-requires-clause-left : goal.take-point-requires-clause-left
take-point-requires-clause-left c = subst (λ (z : List ℕ). IsLeft (length z) c.index_mut.result.now.row) (sym c.readings_at-readings.ensures) (left_in _ _ _ _ _ _ c.self.invariant.1 c.args.source.0 (subst (λ (z : View). c.args.source.0 < length z.job.program.sources) (sym c.self.view_is) c.requires.known) c.index_mut.result.now c.index_mut.ensures.value (subst (λ (z : View). IsLeft (length (readings_of z.job.readings c.args.source.0)) (row_of z.board c.args.source.0)) (sym c.self.view_is) c.requires.has_left))

pub take-point-requires-clause-range : goal.take-point-requires-clause-range
take-point-requires-clause-range c = subst (λ (z : List ℕ). IsAnswer (length z) c.index_mut.result.now.row.stage c.perform-word.result) (sym c.readings_at-readings.ensures) (answer_in_range _ _ _ _ _ _ c.self.invariant.1 c.args.source.0 (subst (λ (z : View). c.args.source.0 < length z.job.program.sources) (sym c.self.view_is) c.requires.known) c.index_mut.result.now c.index_mut.ensures.value c.args.access (subst (λ (z : View). c.args.access ≡ source_access (setup_of z.job) z.board c.args.source.0) (sym c.self.view_is) c.requires.access) c.perform-word.result c.perform-word.ensures.answer)

pub note_source-requires-clause-spare : goal.note_source-requires-clause-spare
note_source-requires-clause-spare c = has_spare _ _ _ _ _ _ c.self.invariant.1 (subst (λ (z : View). 0 < z.board.begun) (sym c.self.view_is) c.requires.begun) c.index_mut-2.result.now c.index_mut-2.ensures.value (subst (λ (z : View). 0 < z.room) (sym c.self.view_is) c.requires.room)

pub note_source-requires-clause-known : goal.note_source-requires-clause-known
note_source-requires-clause-known c = source_known _ _ _ _ _ _ c.self.invariant.1 (subst (λ (z : View). 0 < z.board.begun) (sym c.self.view_is) c.requires.begun) c.index_mut-2.result.now c.index_mut-2.ensures.value c.args.source.0 (subst (λ (z : View). c.args.source.0 < length z.job.program.sources) (sym c.self.view_is) c.requires.known)

pub note_source-requires-clause-steps : goal.note_source-requires-clause-steps
note_source-requires-clause-steps c = source_counts _ _ _ _ _ _ c.self.invariant.1 (subst (λ (z : View). 0 < z.board.begun) (sym c.self.view_is) c.requires.begun) c.index_mut-2.result.now c.index_mut-2.ensures.value c.args.source.0 (subst (λ (z : View). 0 < z.room) (sym c.self.view_is) c.requires.room)

pub invariant_of-self : goal.invariant_of-self
invariant_of-self c = (
  c.self.invariant.0,
  source_made_core _ _ _ _ _ _ c.self.invariant.1 c.args.source.0 (subst (λ (z : View). c.args.source.0 < length z.job.program.sources) (sym c.self.view_is) c.requires.known) c.index_mut.result.now c.index_mut.ensures.value c.args.access (subst (λ (z : View). c.args.access ≡ source_access (setup_of z.job) z.board c.args.source.0) (sym c.self.view_is) c.requires.access) c.perform-word.result c.perform-word.ensures.answer c.take-point.new.self c.perform-word.new.self c.take-point.result c.entry_of_source-entry.result c.note_source.new.self
      (subst (λ (z : View). 0 < z.board.begun) (sym c.self.view_is) c.requires.begun) (subst (λ (z : View). 0 < z.room) (sym c.self.view_is) c.requires.room) (subst (λ (z : View). IsLeft (length (readings_of z.job.readings c.args.source.0)) (row_of z.board c.args.source.0)) (sym c.self.view_is) c.requires.has_left) c.perform-word.ensures.after c.take-point.ensures.port
      (subst (λ (z : List ℕ). c.take-point.new.self.row ≡ take_of c.index_mut.result.now.port (length z) c.index_mut.result.now.row c.perform-word.result) c.readings_at-readings.ensures c.take-point.ensures.row)
      c.take-point.ensures.point c.entry_of_source-entry.ensures
      (c.note_source.ensures.charge ∙ ap (λ (z : Recorded). with_source c.args.source.0 c.entry_of_source-entry.result z.charge) (at_hand _ _ _ _ _ _ c.self.invariant.1 (subst (λ (z : View). 0 < z.board.begun) (sym c.self.view_is) c.requires.begun) c.index_mut-2.result.now c.index_mut-2.ensures.value))
      (subst (λ (z : Recorded). KeepsRoom z c.note_source.new.self) (at_hand _ _ _ _ _ _ c.self.invariant.1 (subst (λ (z : View). 0 < z.board.begun) (sym c.self.view_is) c.requires.begun) c.index_mut-2.result.now c.index_mut-2.ensures.value) (record { spare = c.note_source.ensures.spare; capacity = c.note_source.ensures.capacity })),
)

pub returns-clause-board : goal.returns-clause-board
returns-clause-board c =
    source_made_is _ _ _ _ _ _ c.self.invariant.1 c.args.source.0 (subst (λ (z : View). c.args.source.0 < length z.job.program.sources) (sym c.self.view_is) c.requires.known) c.index_mut.result.now c.index_mut.ensures.value c.args.access (subst (λ (z : View). c.args.access ≡ source_access (setup_of z.job) z.board c.args.source.0) (sym c.self.view_is) c.requires.access) c.perform-word.result c.perform-word.ensures.answer c.take-point.new.self c.perform-word.new.self c.take-point.result c.entry_of_source-entry.result c.note_source.new.self c.perform-word.ensures.after
    (subst (λ (z : List ℕ). c.take-point.new.self.row ≡ take_of c.index_mut.result.now.port (length z) c.index_mut.result.now.row c.perform-word.result) c.readings_at-readings.ensures c.take-point.ensures.row)
    c.take-point.ensures.point c.entry_of_source-entry.ensures
    (c.note_source.ensures.charge ∙ ap (λ (z : Recorded). with_source c.args.source.0 c.entry_of_source-entry.result z.charge) (at_hand _ _ _ _ _ _ c.self.invariant.1 (subst (λ (z : View). 0 < z.board.begun) (sym c.self.view_is) c.requires.begun) c.index_mut-2.result.now c.index_mut-2.ensures.value))
    ∙ ap (λ (z : View). source_made (setup_of z.job) z.board c.args.source.0) c.self.view_is

pub returns-clause-made : goal.returns-clause-made
returns-clause-made c =
    access_made_is _ _ _ _ _ _ c.self.invariant.1 c.args.source.0 (subst (λ (z : View). c.args.source.0 < length z.job.program.sources) (sym c.self.view_is) c.requires.known) c.index_mut.result.now c.index_mut.ensures.value c.args.access (subst (λ (z : View). c.args.access ≡ source_access (setup_of z.job) z.board c.args.source.0) (sym c.self.view_is) c.requires.access) c.perform-word.result c.perform-word.ensures.answer c.take-point.result c.entry_of_source-entry.result c.take-point.ensures.point c.entry_of_source-entry.ensures
    ∙ ap (λ (z : View). access_made (setup_of z.job) z.board c.args.source.0) c.self.view_is
