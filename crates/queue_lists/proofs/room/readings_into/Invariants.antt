use Rattle.std.proofs.Common.{◌≡◌, ◌*◌, ◌≤◌, length}
use Rattle.ink_base.specs.declared.limits.TheConstants as limits
use Rattle.queue_lists.specs.Lists.{sum_below}
use Rattle.queue_lists.specs.Rooms.{readings_for}
use Rattle.queue_lists.proofs.room.readings_into.Given as goal

-- the sum so far
abbrev pub invariant-loop-source : goal.invariant-loop-source
invariant-loop-source l = record { sum : l.number ≡ sum_below (λ i. length (readings_for l.job l.thread.0 i)) l.source; few : l.number ≤ l.source * limits.READINGS }
