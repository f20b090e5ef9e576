use Rattle.std.proofs.Common.{◌≡◌, take}
use Rattle.job_parts.specs.Job.{item_turns}
use Rattle.ink_station.proofs.reading.turns_listed.Given as goal

abbrev pub invariant-loop-item : goal.invariant-loop-item
invariant-loop-item l = l.turns ≡ item_turns (take l.item-index l.items)
