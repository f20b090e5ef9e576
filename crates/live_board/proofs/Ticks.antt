-- The ticks of a job are within the clock's limit.
use Rattle.std.proofs.Common.{◌≡◌, ℕ, ◌+◌, ◌*◌, ◌^◌, ◌<◌, ◌≤◌, List, [], ◌∷◌, length, take, All, arith}
use Rattle.std.proofs.lemmas.List.Sums.{sum_by-cons, sum_by-take-le, sum_by_more}
use Rattle.std.proofs.lemmas.List.Elements.{All-head, All-tail}
use Rattle.ink_base.specs.declared.limits.TheConstants as limits
use Rattle.ink_base.specs.declared.actor.Actor.TheVariants as actors
use Rattle.job_parts.specs.Job.{JobParts, IsJob, IsRightCharge}
use Rattle.job_parts.specs.declared.charge.Charge.{Charge}
use Rattle.live_account.specs.Turns.{turns_for, charge_at, no_charge, dark_ticks, lit_ticks, ticks_before, all_ticks}
use Rattle.live_board.proofs.Budgets.{all_turns_at_most}

dark_most : (sources : ℕ) (charges : List Charge) → All (IsRightCharge sources) charges → dark_ticks charges ≤ length charges * limits.TICKS
dark_most sources [] all = omega arith
dark_most sources (charge ∷ charges) all =
    let one = (All-head (IsRightCharge sources) charge charges all).off in
    let rest = dark_most sources charges (All-tail (IsRightCharge sources) charge charges all) in
    let sum = sum_by-cons (λ (c : Charge). c.off) charge charges in omega (arith, one, rest, sum)

-- all ticks of a job
pub ticks_most : (job : JobParts) → IsJob job → all_ticks job.charges < 2 ^ 47
ticks_most job is =
    let dark = dark_most (length job.program.sources) job.charges is.charges.right in
    let lit = all_turns_at_most actors.Clock job.charges in
    let turns = is.charges.turns in
    let count = is.charges.count in omega (arith, dark, lit, turns, count)

-- those that have gone by when charge c has begun, and when it is over
pub ticks_begun : (job : JobParts) (c : ℕ) → c < length job.charges → ticks_before job.charges c ≡ dark_ticks (take c job.charges) + lit_ticks (take c job.charges) + (charge_at job.charges c).off
ticks_begun job c lt = let more = sum_by_more (λ (charge : Charge). charge.off) job.charges c no_charge lt in omega (arith, more)

pub ticks_over : (job : JobParts) (c : ℕ) → c < length job.charges →
    dark_ticks (take (c + 1) job.charges) + lit_ticks (take (c + 1) job.charges) ≡ ticks_before job.charges c + turns_for actors.Clock (charge_at job.charges c)
ticks_over job c lt = let more = sum_by_more (turns_for actors.Clock) job.charges c no_charge lt in omega (arith, more)

-- none of them is more than all
pub ticks_so_far : (job : JobParts) (c : ℕ) → IsJob job → dark_ticks (take c job.charges) + lit_ticks (take c job.charges) < 2 ^ 47
ticks_so_far job c is =
    let dark = sum_by-take-le (λ (charge : Charge). charge.off) job.charges c in
    let lit = sum_by-take-le (turns_for actors.Clock) job.charges c in
    let most = ticks_most job is in omega (arith, dark, lit, most)

pub ticks_in : (job : JobParts) (c : ℕ) → IsJob job → ticks_before job.charges c < 2 ^ 47
ticks_in job c is =
    let dark = sum_by-take-le (λ (charge : Charge). charge.off) job.charges (c + 1) in
    let lit = sum_by-take-le (turns_for actors.Clock) job.charges c in
    let most = ticks_most job is in omega (arith, dark, lit, most)
