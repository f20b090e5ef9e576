use Rattle.std.proofs.Common.{◌≡◌, ◌+◌, ◌*◌, ◌≤◌}
use Rattle.ink_base.specs.declared.limits.TheConstants as limits
use Rattle.queue_lists.specs.Lists.{sum_below}
use Rattle.queue_lists.specs.Rooms.{refusals_from}
use Rattle.queue_lists.proofs.room.refusals_room.Given as goal

-- the sum so far
abbrev pub invariant-loop-source : goal.invariant-loop-source
invariant-loop-source l = record { sum : l.number ≡ sum_below (refusals_from l.job) l.source; few : l.number ≤ l.source * (limits.READINGS + limits.CHARGES) }
