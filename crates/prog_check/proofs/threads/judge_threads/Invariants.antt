use Rattle.prog_check.proofs.Common.{◌≡◌, length, None, ℕ, ◌<◌, ◌≤◌, thread_def, first_below, thread_fault}
use Rattle.ink_base.specs.declared.limits.TheConstants as limits
use Rattle.prog_check.proofs.threads.judge_threads.Given as goal

abbrev pub invariant-loop-t : goal.invariant-loop-t
invariant-loop-t l = (l.count ≡ length l.program.threads) × (first_below (thread_fault l.program l.lines) l.t ≡ None) × ((k : ℕ) → k < l.t → (thread_def l.program k).priority ≤ limits.PRIORITY)
