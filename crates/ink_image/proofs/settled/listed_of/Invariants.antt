use Rattle.ink_image.proofs.Common.{◌≡◌, ℕ, List, length, map, take}
use Rattle.ink_image.proofs.settled.listed_of.Given as goal

abbrev pub invariant-loop-values : goal.invariant-loop-values
invariant-loop-values l = l.counts.items ≡ map (λ (values : List ℕ). length values) (take l.values-index l.values-items)
