-- Code that its task doesn't leave.
use Rattle.std.specs.Prelude.{◌≡◌, ℕ, ◌+◌, ◌<◌, false, length, Some}
use Rattle.task_isa.specs.declared.program.Task.{Task}
use Rattle.prog_check.specs.Accepted.{ends_code}
use Rattle.prog_check.specs.Lookup.{instr_at}
use Rattle.ink_plan.specs.Code.{target_of}

-- where the task goes on behind an instruction there is another one
pub record IsClosed (task : Task) : Type 0 where
  pub some : 0 < length task.code
  pub next : (at : ℕ) → at < length task.code → ends_code (instr_at task at) ≡ false → at + 1 < length task.code
  pub target : (at i : ℕ) → at < length task.code → target_of (instr_at task at) ≡ Some i → i < length task.code
