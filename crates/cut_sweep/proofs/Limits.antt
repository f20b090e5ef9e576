-- The turns of charges, one charge after another.
use Rattle.std.proofs.Common.{◌≡◌, ℕ, ◌+◌, ◌<◌, ◌≤◌, nat_lt, le-ltb, if◌then◌else◌, List, length, drop, get_or, Some, sym, ap, ◌∙◌, arith}
use Rattle.std.proofs.lemmas.List.{drop_more}
use Rattle.ink_base.specs.declared.limits.TheConstants as limits
use Rattle.job_parts.specs.Job.{item_turns}
use Rattle.job_parts.specs.declared.charge.Charge.{Charge}
use Rattle.cut_sweep.specs.Limit.{line_past}

-- what comes of one charge more
past_more : (charges : List Charge) (lines : List ℕ) (n turns : ℕ) (d : Charge) → n < length charges → length lines ≡ length charges →
    line_past turns (drop n charges) (drop n lines)
    ≡ (if nat_lt limits.SWEEP_TURNS (turns + item_turns (get_or charges n d).items) then Some (get_or lines n 0)
    else line_past (turns + item_turns (get_or charges n d).items) (drop (n + 1) charges) (drop (n + 1) lines))
past_more charges lines n turns d lt same = λ i. line_past turns (drop_more charges n d lt i) (drop_more lines n 0 (omega arith) i)

-- and it goes on where there are no more turns with it
pub past_goes_on : (charges : List Charge) (lines : List ℕ) (n turns here : ℕ) (d : Charge) → n < length charges → length lines ≡ length charges →
    here ≡ item_turns (get_or charges n d).items → turns + here ≤ limits.SWEEP_TURNS →
    line_past turns (drop n charges) (drop n lines) ≡ line_past (turns + here) (drop (n + 1) charges) (drop (n + 1) lines)
past_goes_on charges lines n turns here d lt same is few =
    past_more charges lines n turns d lt same
    ∙ (ap (λ k. if nat_lt limits.SWEEP_TURNS (turns + k) then Some (get_or lines n 0) else line_past (turns + k) (drop (n + 1) charges) (drop (n + 1) lines)) (sym is)
    ∙ ap (λ b. if b then Some (get_or lines n 0) else line_past (turns + here) (drop (n + 1) charges) (drop (n + 1) lines)) (le-ltb limits.SWEEP_TURNS (turns + here) few))
