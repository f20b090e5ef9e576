use Rattle.ink_image.proofs.Common.{◌≡◌, ◌+◌, ◌^◌, ◌≤◌, take, value}
use Rattle.ink_image.proofs.reading.value.Given as goal

abbrev pub invariant-loop-b : goal.invariant-loop-b
invariant-loop-b l = (l.n + 1 ≤ 16 ^ l.b-index) × (l.n ≡ value (take l.b-index l.word))
