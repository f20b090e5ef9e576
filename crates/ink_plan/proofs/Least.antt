-- The least of a right plan suffices for a commit.
use Rattle.std.proofs.Common.{◌≡◌, ◌<◌, ◌≤◌, true, length, sym, subst, arith, eqb-true}
use Rattle.std.proofs.lemmas.Bool.{and_parts}
use Rattle.std.proofs.lemmas.List.Recursion.{max_bounds}
use Rattle.task_isa.specs.declared.program.Program.{Program}
use Rattle.prog_check.specs.Accepted.{IsAccepted}
use Rattle.never_cut.specs.Commit.{task_at}
use Rattle.kernel_core.specs.Board.{Setup, moved_by, first_board}
use Rattle.kernel_core.specs.Record.{charge_of, journal_of}
use Rattle.ink_plan.specs.declared.plan.TaskPlan.{TaskPlan}
use Rattle.ink_plan.specs.declared.plan.EnergyPlan.{EnergyPlan}
use Rattle.ink_plan.specs.Plans.{no_plan, plan_of, greatest_bound, least_of, is_plan}
use Rattle.ink_plan.specs.Charges.{Suffices, LeastSuffices}
use Rattle.ink_plan.proofs.Counted.{CostsWithin}
use Rattle.ink_plan.proofs.Costs.{bounds_services, task_serves}
use Rattle.ink_plan.proofs.Nears.{charges_suffice}

-- no service costs more than the greatest bound
costs_within : (s : Setup) (plan : EnergyPlan) → IsAccepted s.program → is_plan s.program plan ≡ true → CostsWithin s (greatest_bound plan.tasks)
costs_within s plan accepted right m t sound known =
    let bounded = bounds_services s.program plan accepted right s.readings m t sound known in
    let x = (task_serves s.program s.readings m t accepted sound known).known in
    let parts = and_parts _ _ right in
    let all : length plan.tasks ≡ length s.program.tasks = eqb-true _ _ (and_parts _ _ parts.0).0 in
    let within : task_at s.program m t < length plan.tasks = omega arith in
    let most : (plan_of plan (task_at s.program m t)).bound ≤ greatest_bound plan.tasks =
    max_bounds greatest_bound (λ (p : TaskPlan). p.bound) (omega arith) (λ p plans. omega arith) plan.tasks (task_at s.program m t) no_plan within
    in
    omega arith

pub least_suffices : (program : Program) (plan : EnergyPlan) → IsAccepted program → is_plan program plan ≡ true → LeastSuffices program plan
least_suffices program plan accepted right s words charges moves is g stands are range n =
    let here : is_plan s.program plan ≡ true = subst (λ (p : Program). is_plan p plan ≡ true) (sym is) right in
    let least : plan.least ≡ least_of s.program plan.tasks = eqb-true _ _ (and_parts _ _ here).1 in
    let suffices = charges_suffice s (greatest_bound plan.tasks) words charges moves g (costs_within s plan g.accepted here) stands are range n in
    subst (λ k. Suffices s k (journal_of (moved_by s (first_board s words charges) moves).charges n) (charge_of (moved_by s (first_board s words charges) moves).charges n)) (sym least) suffices
