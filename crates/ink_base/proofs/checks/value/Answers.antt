use Rattle.ink_base.proofs.Common.{◌≡◌, ℕ, ◌+◌, ◌*◌, ◌^◌, ◌<◌, ◌≤◌, add-one, arith}
use Rattle.std.proofs.Math.Nat.{pow-le-pow_right, pow-succ'}
use Rattle.std.proofs.lemmas.Grind.{common_steps}
use Rattle.ink_base.proofs.checks.value.Goals as goal

next_power : (i : ℕ) → 10 ^ (i + 1) ≡ 10 * 10 ^ i
next_power i = rw add-one (pow-succ' 10 i)

below_ten : (i : ℕ) → i < 10 → 10 ^ i ≤ 10 ^ 9
below_ten i lt = pow-le-pow_right {n = 10} (omega arith) {i = i} {j = 9} (omega arith)

pub overflow_mul-n : goal.overflow_mul-n
overflow_mul-n c = omega (arith, below_ten c.loop-b.b-index (omega arith))

pub overflow_add-n : goal.overflow_add-n
overflow_add-n c = omega (arith, below_ten c.loop-b.b-index (omega arith))

pub loop-b-preserved : goal.loop-b-preserved
loop-b-preserved c = (omega (arith, next_power c.loop-b.b-index), grind (arith, common_steps))
