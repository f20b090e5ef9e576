-- What it is for a text to give its program again when it is read.
use Rattle.std.specs.Prelude.{◌≡◌, ℕ, ◌+◌, List, ◌++◌, length, map, None, Ok, codes}
use Rattle.ink_base.specs.Lines.{Line, lines, numbered}
use Rattle.ink_base.specs.TokenLines.{with_words}
use Rattle.task_isa.specs.declared.lines.Lines.{Lines}
use Rattle.task_isa.specs.declared.program.Task.{Task}
use Rattle.task_isa.specs.declared.program.Program.{Program}
use Rattle.prog_check.specs.Faults.{first_fault}
use Rattle.task_asm.specs.Section.{program_at}

-- each thread, each task and each instruction of the program has a line
pub record HasLines (program : Program) (parts : Lines) : Type 0 where
  pub threads : length parts.threads ≡ length program.threads
  pub tasks : length parts.tasks ≡ length program.tasks
  pub code : map (λ (ls : List ℕ). length ls) parts.code ≡ map (λ (task : Task). length task.code) program.tasks

-- the lines with words of what follows a text
abbrev pub lines_behind : List ℕ → List ℕ → List Line
lines_behind text more = with_words (numbered (length (lines text) + 1) (lines more))

-- the text before these bytes is read as this program, which has no fault with the lines that are read, and the bytes are left to be read
abbrev pub IsReadBefore : List ℕ → List ℕ → Program → Type 0
IsReadBefore more text program = (parts : Lines) × HasLines program parts × (program_at (text ++ more) ≡ Ok (program, parts, lines_behind text more)) × (first_fault program parts ≡ None)

-- the text is read as this program and passes the check, whatever follows the header of the next section
abbrev pub ReadsBack : List ℕ → Program → Type 0
ReadsBack text program = (after : List ℕ) → IsReadBefore (codes "[sensors]\n" ++ after) text program
