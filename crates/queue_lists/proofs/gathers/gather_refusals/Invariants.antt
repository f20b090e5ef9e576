use Rattle.std.proofs.Common.{◌≡◌, vec_capacity}
use Rattle.queue_lists.specs.Gathers.{refusals_of}
use Rattle.queue_lists.proofs.gathers.gather_refusals.Given as goal

-- the refusals of the sources so far
abbrev pub invariant-loop-source : goal.invariant-loop-source
invariant-loop-source l = record {
  listed : l.refused.items ≡ refusals_of l.lists l.source;
  room : vec_capacity l.refused ≡ vec_capacity l.fn.refused;
}
