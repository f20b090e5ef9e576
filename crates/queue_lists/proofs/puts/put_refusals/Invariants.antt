use Rattle.std.proofs.Common.{◌≡◌, ◌++◌, map, take}
use Rattle.std.specs.Prelude.{vec_capacity}
use Rattle.queue_lists.specs.Puts.{refusal_of}
use Rattle.queue_lists.proofs.puts.put_refusals.Given as goal

-- those so far are listed
abbrev pub invariant-loop-reading : goal.invariant-loop-reading
invariant-loop-reading l = (l.refused.items ≡ l.fn.refused.items ++ map (refusal_of l.source) (take l.reading-index l.declined)) × (vec_capacity l.refused ≡ vec_capacity l.fn.refused)
