use Rattle.program_text.proofs.Common.{◌≡◌, ◌++◌, take, All, TimerDef, timer_text, IsNamed}
use Rattle.std.specs.Prelude.{flat_map}
use Rattle.program_text.proofs.parts.put_timers.Given as goal

abbrev pub invariant-loop-timer : goal.invariant-loop-timer
invariant-loop-timer l = (l.out.items ≡ l.fn.out.items ++ flat_map (timer_text l.program) (take l.timer-index l.timers)) × All (λ (x : TimerDef). IsNamed x.name) (take l.timer-index l.timers)
