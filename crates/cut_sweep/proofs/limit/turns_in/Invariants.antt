use Rattle.std.proofs.Common.{◌≡◌, take}
use Rattle.job_parts.specs.Job.{item_turns}
use Rattle.cut_sweep.proofs.limit.turns_in.Given as goal

abbrev pub invariant-loop-item : goal.invariant-loop-item
invariant-loop-item l = l.turns ≡ item_turns (take l.item-index l.items)
