use Rattle.std.proofs.Common.{◌∙◌, map, ap, List}
use Rattle.ink_base.specs.declared.actor.Actor.TheVariants as actors
use Rattle.job_parts.specs.declared.charge.Charge.{Charge}
use Rattle.live_account.specs.Turns.{turns_for}
use Rattle.live_board.proofs.Firsts.{kernel_after}
use Rattle.live_board.proofs.parts.kernel_of.Goals as goal

pub returns-clause-after : goal.returns-clause-after
returns-clause-after c =
    let made = c.in_ok-kernel.ensures in
    let budgets = c.in_ok-budgets.ensures ∙ ap (λ (l : List Charge). map (turns_for actors.Kernel) l) c.charges.ensures.same in
    kernel_after c.args.job.now c.as_slice.result.now c.in_ok-kernel.kernel c.charges.ensures.job (c.as_slice.ensures.value ∙ budgets) (made.program ∙ c.requires.plan) made.done made.rooms made.left c.ends.ensures
