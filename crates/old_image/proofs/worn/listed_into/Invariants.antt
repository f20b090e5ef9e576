use Rattle.old_image.proofs.Common.{◌≡◌, ◌*◌, ◌≤◌, ◌^◌, listed_into}
use Rattle.old_image.proofs.worn.listed_into.Given as goal

abbrev pub invariant-loop-i : goal.invariant-loop-i
invariant-loop-i l = record {
  sum : l.sum ≡ listed_into l.plan.accepted l.listed l.thread.0 l.i;
  fits : l.sum ≤ l.i * 2 ^ 32;
}
