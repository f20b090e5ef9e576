use Rattle.kernel_core.proofs.Common.{◌≡◌, ◌++◌, map, take, drop, rebooted}
use Rattle.kernel_core.proofs.board.lose_rows.Given as goal

abbrev pub invariant-loop-pusher : goal.invariant-loop-pusher
invariant-loop-pusher l = l.pusher-items ≡ map rebooted (take l.pusher-index l.initial.pusher-items) ++ drop l.pusher-index l.initial.pusher-items
