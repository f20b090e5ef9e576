use Rattle.never_cut.proofs.Common.{ℕ, ◌<◌, thread_def, IsPassed, model_of}
use Rattle.never_cut.proofs.replaying.Replaying.are_passed.Given as goal

-- those of the threads so far that have a higher priority were passed
abbrev pub invariant-loop-u : goal.invariant-loop-u
invariant-loop-u l =
    (u : ℕ) → u < l.u → (thread_def l.program l.t).priority < (thread_def l.program u).priority → IsPassed l.program (model_of l.self) l.scan u
