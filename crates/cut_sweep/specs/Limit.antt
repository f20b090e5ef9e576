-- Where the turns of a job pass what a sweep may have.
use Rattle.std.specs.Prelude.{ℕ, ◌+◌, nat_lt, if◌then◌else◌, List, [], ◌∷◌, Option, Some, None}
use Rattle.ink_base.specs.declared.limits.TheConstants as limits
use Rattle.job_parts.specs.Job.{item_turns}
use Rattle.job_parts.specs.declared.charge.Charge.{Charge}

-- behind so many turns: the line of the first of these charges with whose turns there are more than the limit
abbrev pub line_past : (turns : ℕ) → List Charge → (lines : List ℕ) → Option ℕ
line_past turns [] lines = None
line_past turns (charge ∷ charges) [] = None
line_past turns (charge ∷ charges) (line ∷ lines) =
    if nat_lt limits.SWEEP_TURNS (turns + item_turns charge.items) then Some line else line_past (turns + item_turns charge.items) charges lines
