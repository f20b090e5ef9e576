use Rattle.kernel_core.proofs.Common.{map, sym, ◌∙◌, subst, Kernel, IsSetup, setup_of, job_of, IsCore, row_in, charge_in}
use Rattle.kernel_core.proofs.JobMoves.{job_setup}
use Rattle.kernel_core.proofs.Starts.{first_core, first_fields}
use Rattle.kernel_core.proofs.board.Core.begin.Goals as goal

is_setup : (c : goal.After-boot) → IsSetup (setup_of (job_of c.args.parts.plan.accepted c.args.parts.readings c.args.parts.listed c.args.parts.start))
is_setup c = job_setup (job_of c.args.parts.plan.accepted c.args.parts.readings c.args.parts.listed c.args.parts.start) c.requires.job

pub invariant_of-result : goal.invariant_of-result
invariant_of-result c = (
  (c.requires.job, c.requires.empty, c.requires.space),
  subst (λ (k : Kernel). IsCore (job_of c.args.parts.plan.accepted c.args.parts.readings c.args.parts.listed c.args.parts.start) c.args.parts.plan.layout (record { words = c.args.parts.fram; kernel = k; rows = map row_in c.args.parts.pushers.items; charges = map charge_in c.args.parts.charges.items; begun = 0 }) 0 c.args.parts.pushers.items c.args.parts.charges.items)
      (sym c.boot.ensures.begun)
      (first_core (job_of c.args.parts.plan.accepted c.args.parts.readings c.args.parts.listed c.args.parts.start) c.args.parts.fram c.args.parts.pushers.items c.args.parts.charges.items (is_setup c) c.requires.job c.requires.first c.requires.pushers c.requires.charges c.args.parts.plan.layout
      c.args.parts.plan.placed),
)

pub returns-clause-board : goal.returns-clause-board
returns-clause-board c =
    (λ i. record { words = c.args.parts.fram; kernel = c.boot.ensures.begun i; rows = map row_in c.args.parts.pushers.items; charges = map charge_in c.args.parts.charges.items; begun = 0 })
    ∙ first_fields (job_of c.args.parts.plan.accepted c.args.parts.readings c.args.parts.listed c.args.parts.start) c.args.parts.fram c.args.parts.pushers.items c.args.parts.charges.items (is_setup c) c.requires.job c.requires.first c.requires.pushers c.requires.charges
