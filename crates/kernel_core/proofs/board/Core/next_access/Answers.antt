use Rattle.kernel_core.proofs.Common.{◌≡◌, ℕ, ◌<◌, List, length, sym, ap, ◌∙◌, subst, arith, IsFew, IsRowFor, want_of, port_of, readings_of, sides, row_of, View, setup_of}
use Rattle.kernel_core.proofs.CoreSources.{few, fits, wanted_is}
use Rattle.kernel_core.proofs.board.Core.next_access.Goals as goal

pub readings_at-readings-requires : goal.readings_at-readings-requires
readings_at-readings-requires c =
    let known : c.args.source.0 < length c.self.inside.plan.accepted.sources = subst (λ (z : View). c.args.source.0 < length z.job.program.sources) (sym c.self.view_is) c.requires.known in
    let same = c.self.invariant.0.0.sources in
    omega arith

pub want-requires-clause-few : goal.want-requires-clause-few
want-requires-clause-few c = subst (λ (z : List ℕ). IsFew z) (sym c.readings_at-readings.ensures) (few _ _ _ _ _ _ c.self.invariant.1 c.args.source.0 (subst (λ (z : View). c.args.source.0 < length z.job.program.sources) (sym c.self.view_is) c.requires.known))

pub want-requires-clause-row : goal.want-requires-clause-row
want-requires-clause-row c = subst (λ (z : List ℕ). IsRowFor c.index.result.now.port (length z) c.index.result.now.row) (sym c.readings_at-readings.ensures) (fits _ _ _ _ _ _ c.self.invariant.1 c.args.source.0 (subst (λ (z : View). c.args.source.0 < length z.job.program.sources) (sym c.self.view_is) c.requires.known) c.index.result.now c.index.ensures)

pub returns : goal.returns
returns c =
    subst (λ (z : List ℕ). c.want.result ≡ want_of c.index.result.now.port z c.index.result.now.row) c.readings_at-readings.ensures c.want.ensures.access
    ∙ (wanted_is _ _ _ _ _ _ c.self.invariant.1 c.args.source.0 (subst (λ (z : View). c.args.source.0 < length z.job.program.sources) (sym c.self.view_is) c.requires.known) c.index.result.now c.index.ensures
    ∙ ap (λ (z : View). want_of (port_of (sides (setup_of z.job)) c.args.source.0) (readings_of z.job.readings c.args.source.0) (row_of z.board c.args.source.0)) c.self.view_is)
