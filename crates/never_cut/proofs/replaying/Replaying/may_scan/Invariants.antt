use Rattle.never_cut.proofs.Common.{◌≡◌, ℕ, ◌<◌, false, thread_of, model_of}
use Rattle.never_cut.proofs.replaying.Replaying.may_scan.Given as goal

abbrev pub invariant-loop-t : goal.invariant-loop-t
invariant-loop-t l = (t : ℕ) → t < l.t → (thread_of (model_of l.self) t).finished ≡ false
