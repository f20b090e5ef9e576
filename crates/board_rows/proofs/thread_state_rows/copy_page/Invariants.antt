-- The block stays.
use Rattle.std.proofs.Common.{◌≡◌}
use Rattle.board_rows.proofs.thread_state_rows.copy_page.Given as goal

abbrev pub invariant-loop-k : goal.invariant-loop-k
invariant-loop-k g l = l.machine.block ≡ l.fn.machine.block
