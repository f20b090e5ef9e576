-- The turns of charges, one charge after another.
use Rattle.std.proofs.Common.{◌≡◌, ℕ, ◌+◌, ◌<◌, ◌≤◌, nat_lt, le-ltb, if◌then◌else◌, List, length, drop, get_or, Result, Err, sym, ap, ◌∙◌, arith}
use Rattle.std.proofs.lemmas.List.{drop_more}
use Rattle.ink_base.specs.declared.limits.TheConstants as limits
use Rattle.ink_base.specs.declared.fault.Cause.TheVariants.{OverLimit}
use Rattle.ink_base.specs.declared.fault.JobFault.{JobFault}
use Rattle.job_parts.specs.Job.{item_turns}
use Rattle.job_parts.specs.declared.charge.Charge.{Charge}
use Rattle.ink_station.specs.Jobs.{turns_behind}

-- the first charge is one too many, or the turns go on behind it
turns_or : List Charge → List ℕ → (n after : ℕ) → Result ℕ JobFault
turns_or charges lines n after =
    if nat_lt limits.TURNS after then Err (record { line = get_or lines n 0; cause = OverLimit }) else turns_behind after (drop (n + 1) charges) (drop (n + 1) lines)

turns_more : (charges : List Charge) (lines : List ℕ) (n turns : ℕ) (d : Charge) → n < length charges → length lines ≡ length charges →
    turns_behind turns (drop n charges) (drop n lines) ≡ turns_or charges lines n (turns + item_turns (get_or charges n d).items)
unfolding turns_or
turns_more charges lines n turns d lt same = λ i. turns_behind turns (drop_more charges n d lt i) (drop_more lines n 0 (omega (arith, lt, same)) i)

-- and they go on where they are no more than the limit
pub turns_go_on : (charges : List Charge) (lines : List ℕ) (n turns here : ℕ) (d : Charge) → n < length charges → length lines ≡ length charges →
    here ≡ item_turns (get_or charges n d).items → turns + here ≤ limits.TURNS →
    turns_behind turns (drop n charges) (drop n lines) ≡ turns_behind (turns + here) (drop (n + 1) charges) (drop (n + 1) lines)
unfolding turns_or
turns_go_on charges lines n turns here d lt same is few =
    turns_more charges lines n turns d lt same
    ∙ (ap (λ k. turns_or charges lines n (turns + k)) (sym is)
    ∙ ap (λ b. if b then Err (record { line = get_or lines n 0; cause = OverLimit }) else turns_behind (turns + here) (drop (n + 1) charges) (drop (n + 1) lines))
    (le-ltb limits.TURNS (turns + here) few))
