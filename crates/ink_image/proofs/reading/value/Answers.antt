use Rattle.ink_image.proofs.Common.{◌≡◌, ℕ, ◌+◌, ◌*◌, ◌^◌, ◌<◌, ◌≤◌, add-one, arith, pow-le-pow_right, pow-succ', common_steps}
use Rattle.ink_image.proofs.reading.value.Goals as goal

next_power : (i : ℕ) → 16 ^ (i + 1) ≡ 16 * 16 ^ i
next_power i = rw add-one (pow-succ' 16 i)

below_sixteen : (i : ℕ) → i < 16 → 16 ^ i ≤ 16 ^ 15
below_sixteen i lt = pow-le-pow_right {n = 16} (omega arith) {i = i} {j = 15} (omega arith)

pub overflow_mul-n : goal.overflow_mul-n
overflow_mul-n c = omega (arith, below_sixteen c.loop-b.b-index (omega arith))

pub overflow_add-n : goal.overflow_add-n
overflow_add-n c = omega (arith, below_sixteen c.loop-b.b-index (omega arith))

pub loop-b-preserved : goal.loop-b-preserved
loop-b-preserved c = (omega (arith, next_power c.loop-b.b-index), grind (arith, common_steps))
