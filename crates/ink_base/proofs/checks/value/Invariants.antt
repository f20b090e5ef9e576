use Rattle.ink_base.proofs.Common.{◌≡◌, ◌+◌, ◌*◌, ◌^◌, ◌≤◌, take}
use Rattle.ink_base.specs.Numbers.{value}
use Rattle.ink_base.proofs.checks.value.Given as goal

abbrev pub invariant-loop-b : goal.invariant-loop-b
invariant-loop-b l = (l.n + 23 ≤ 23 * 10 ^ l.b-index) × (l.n ≡ value (take l.b-index l.word))
