use Rattle.std.proofs.Common.{◌∙◌, sym, subst}
use Rattle.task_isa.specs.declared.program.Program.{Program}
use Rattle.event_queue.specs.Views.{lay_of}
use Rattle.kernel_actor.specs.Lays.{IsLayOf}
use Rattle.live_board.proofs.Firsts.{board_before, lay_of_set, seats_of_set}
use Rattle.live_board.proofs.parts.prepare_live.Goals as goal

pub sources_of-requires-clause-seats : goal.sources_of-requires-clause-seats
sources_of-requires-clause-seats c =
    let made = c.in_ok-set.ensures in
    let lay = subst (λ (p : Program). IsLayOf p (lay_of c.in_ok-shape.shape)) c.accepted-2.ensures.same c.in_ok-shape.ensures.lay in
    seats_of_set c.args.job.program c.in_ok-set.set c.in_ok-shape.shape c.in_ok-set.seats.items lay made.shape made.sources.0 made.sources.1

pub kernel_of-requires-clause-lay : goal.kernel_of-requires-clause-lay
kernel_of-requires-clause-lay c =
    let made = c.in_ok-set.ensures in
    let same = c.accepted-2.ensures.same ∙ sym (c.in_ok-plan.ensures ∙ (c.in_ok-copy.ensures ∙ c.accepted.ensures.same)) in
    let lay = subst (λ (p : Program). IsLayOf p (lay_of c.in_ok-shape.shape)) same c.in_ok-shape.ensures.lay in
    subst (IsLayOf c.in_ok-plan.plan.accepted) (sym made.kernel.of.1) (lay_of_set c.in_ok-plan.plan.accepted c.in_ok-set.set c.in_ok-shape.shape lay made.shape)

pub kernel_of-requires-clause-calls : goal.kernel_of-requires-clause-calls
kernel_of-requires-clause-calls c = c.in_ok-set.ensures.kernel.calls

pub returns-clause-board : goal.returns-clause-board
returns-clause-board c =
    let made = c.in_ok-set.ensures in
    let lay = subst (λ (p : Program). IsLayOf p (lay_of c.in_ok-shape.shape)) c.accepted-2.ensures.same c.in_ok-shape.ensures.lay in
    board_before c.args.job c.in_ok-set.set c.in_ok-shape.shape c.in_ok-set.seats.items c.in_ok-set.kernel c.in_ok-set.clock c.in_ok-sources.sources.items c.in_ok-kernel.kernel c.new-4.result c.accepted.ensures.job
    lay made.shape made.sources.0 made.sources.1 made.kernel made.clock c.in_ok-sources.ensures c.in_ok-kernel.ensures.seat c.in_ok-kernel.ensures.after c.new-4.ensures
