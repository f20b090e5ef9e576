use Rattle.never_cut.proofs.Common.{◌≡◌, drop, with_timers}
use Rattle.never_cut.proofs.parts.set_timers.Given as goal

abbrev pub invariant-loop-setting : goal.invariant-loop-setting
invariant-loop-setting l = with_timers (drop l.setting-index l.settings) l.timers ≡ with_timers l.settings l.initial.timers
