-- The program of a draft, whose targets are found when all its lines are read.
use Rattle.std.specs.Prelude.{ℕ, List, Option, Some, None, Result, Ok, Err}
use Rattle.std.specs.Option.{option_map}
use Rattle.ink_base.specs.Lines.{Word}
use Rattle.ink_base.specs.declared.fault.Cause.TheVariants.{BadTarget}
use Rattle.ink_base.specs.declared.fault.JobFault.{JobFault}
use Rattle.ink_base.specs.Gives.{◌>>◌, each}
use Rattle.task_isa.specs.declared.instr.Instr.{Instr}
use Rattle.task_isa.specs.declared.instr.Instr.TheVariants.{Jmp, Jz, Jnz, Next}
use Rattle.task_isa.specs.declared.program.Task.{Task}
use Rattle.task_isa.specs.declared.program.Program.{Program}
use Rattle.task_lines.specs.declared.draft.DraftInstr.{DraftInstr}
use Rattle.task_lines.specs.declared.draft.DraftInstr.TheVariants as drafts
use Rattle.task_lines.specs.declared.draft.DraftLine.{DraftLine}
use Rattle.task_lines.specs.declared.draft.DraftTask.{DraftTask}
use Rattle.task_lines.specs.declared.draft.Draft.{Draft}
use Rattle.task_lines.specs.Labels.{offset_of}
use Rattle.task_lines.specs.Named.{place_of}
use Rattle.task_lines.specs.Outside.{task_name}

-- an instruction with its target, if that is there
abbrev pub aimed : List DraftTask → List (Word × ℕ) → DraftInstr → Option Instr
aimed tasks labels (drafts.Ready instr) = Some instr
aimed tasks labels (drafts.Jmp target) = option_map Jmp (offset_of labels target)
aimed tasks labels (drafts.Jz a target) = option_map (Jz a) (offset_of labels target)
aimed tasks labels (drafts.Jnz a target) = option_map (Jnz a) (offset_of labels target)
aimed tasks labels (drafts.Next task) = option_map Next (place_of task_name tasks task)

-- an instruction whose target isn't there is the fault of its line
abbrev pub unless_lost : ℕ → Option Instr → Result Instr JobFault
unless_lost line None = Err (record { line = line; cause = BadTarget })
unless_lost line (Some instr) = Ok instr

-- the instruction of a line
abbrev pub instr_of : List DraftTask → List (Word × ℕ) → DraftLine → Result Instr JobFault
instr_of tasks labels l = unless_lost l.line (aimed tasks labels l.instr)

-- the instructions of lines
abbrev pub code_of : List DraftTask → List (Word × ℕ) → List DraftLine → Result (List Instr) JobFault
code_of tasks labels code = each (instr_of tasks labels) code

-- a task with its targets
unfoldable pub task_of : List DraftTask → DraftTask → Result Task JobFault
task_of tasks t = code_of tasks t.labels t.code >> (λ code. Ok (record { name = t.name; thread = t.thread; limit = t.limit; code = code }))

-- the program of a draft, or the first instruction whose target isn't there
unfoldable pub program_of : Draft → Result Program JobFault
program_of d = each (task_of d.tasks) d.tasks >> (λ tasks. Ok (record { threads = d.threads; sources = d.sources; pipes = d.pipes; timers = d.timers; tasks = tasks }))
