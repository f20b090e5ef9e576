-- What the types of its parts keep of a program.
use Rattle.std.specs.Prelude.{ℕ, List, IsTrue}
use Rattle.std.specs.List.{All}
use Rattle.task_isa.specs.Names.{is_name}
use Rattle.task_isa.specs.Code.{IsInstr}
use Rattle.task_isa.specs.declared.program.ThreadDef.{ThreadDef}
use Rattle.task_isa.specs.declared.program.PipeDef.{PipeDef}
use Rattle.task_isa.specs.declared.program.TimerDef.{TimerDef}
use Rattle.task_isa.specs.declared.program.Task.{Task}
use Rattle.task_isa.specs.declared.program.Program.{Program}

-- these bytes are a name
abbrev pub IsNamed : List ℕ → Type 0
IsNamed name = IsTrue (is_name name)

-- the name of a task is a name, and the operands of its instructions fit their bits
pub record IsTypedTask (task : Task) : Type 0 where
  pub name : IsNamed task.name
  pub code : All IsInstr task.code

-- the names of a program are names, and the operands of its instructions fit their bits
pub record IsTyped (program : Program) : Type 0 where
  pub threads : All (λ (t : ThreadDef). IsNamed t.name) program.threads
  pub pipes : All (λ (p : PipeDef). IsNamed p.name) program.pipes
  pub timers : All (λ (t : TimerDef). IsNamed t.name) program.timers
  pub tasks : All IsTypedTask program.tasks
