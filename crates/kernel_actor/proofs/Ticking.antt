-- Ticks add up.
use Rattle.std.proofs.Common.{◌≡◌, ℕ, zero, suc, ◌+◌, List, ◌∷◌, ap, ◌∙◌, arith}
use Rattle.event_queue.specs.Calls.{sum_of}
use Rattle.event_queue.specs.declared.view.Call.{Call}
use Rattle.event_queue.specs.declared.view.Call.TheVariants.{AddClock}
use Rattle.kernel_actor.specs.Ticks.{ticked}

pub ticked_sum : (n : ℕ) (calls : List Call) → sum_of (ticked n calls) ≡ sum_of calls + n
ticked_sum zero calls = omega arith
ticked_sum (suc n) calls = omega (arith, ticked_sum n calls)

-- one tick more
pub ticked_more : (n : ℕ) (first calls new : List Call) → calls ≡ ticked n first → new ≡ AddClock 1 ∷ calls → new ≡ ticked (n + 1) first
ticked_more n first calls new before one =
    let more : suc n ≡ n + 1 = omega arith in
    one ∙ ap (λ (l : List Call). AddClock 1 ∷ l) before ∙ ap (λ k. ticked k first) more
