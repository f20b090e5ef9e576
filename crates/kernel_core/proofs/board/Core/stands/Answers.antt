use Rattle.kernel_core.proofs.Common.{subst, BoardStands, View, setup_of}
use Rattle.kernel_core.specs.Costed.{PickCosts}
use Rattle.kernel_core.specs.Settled.{ChargesSettle}
use Rattle.kernel_core.proofs.Costed.{pick_costs}
use Rattle.kernel_core.proofs.CoreSteps.{stands}
use Rattle.kernel_core.proofs.board.Core.stands.Goals as goal

pub returns-clause-stands : goal.returns-clause-stands
returns-clause-stands c = subst (λ (z : View). BoardStands (setup_of z.job) z.board) c.self.view_is (stands _ _ _ _ _ _ c.self.invariant.1)

pub returns-clause-settled : goal.returns-clause-settled
returns-clause-settled c = subst (λ (z : View). ChargesSettle z.job.program z.board.charges) c.self.view_is c.self.invariant.1.settling.all

pub returns-clause-picked : goal.returns-clause-picked
returns-clause-picked c = subst (λ (z : View). PickCosts (setup_of z.job) z.board) c.self.view_is (pick_costs _ _ _ c.self.invariant.1.is_setup c.self.invariant.1.holds)
