-- A thread has no more outputs than there are.
use Rattle.never_cut.proofs.Common.{ℕ, ◌≤◌, List, length, arith, ◌==◌, length-filter, count_by-le-length, Output, outputs_in}

pub length-outputs_in : (t : ℕ) (outputs : List Output) → length (outputs_in t outputs) ≤ length outputs
length-outputs_in t outputs =
    omega (arith, length-filter (λ (o : Output). o.thread.0 == t) outputs, count_by-le-length (λ (o : Output). o.thread.0 == t) outputs)
