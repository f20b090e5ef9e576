-- The calls of a clock that ticks.
use Rattle.std.specs.Prelude.{ℕ, zero, suc, List, ◌∷◌}
use Rattle.event_queue.specs.declared.view.Call.{Call}
use Rattle.event_queue.specs.declared.view.Call.TheVariants.{AddClock}

-- so many ticks behind these calls
abbrev pub ticked : ℕ → List Call → List Call
ticked zero calls = calls
ticked (suc n) calls = AddClock 1 ∷ ticked n calls
