-- The section of a program: the draft of its lines, and the program of that.
use Rattle.std.specs.Prelude.{ℕ, List, [], length, map, None, Result, Ok, Err, is_some, codes, if◌then◌else◌}
use Rattle.ink_base.specs.Lines.{Line, lines, lines_of}
use Rattle.ink_base.specs.TokenLines.{with_words}
use Rattle.ink_base.specs.declared.fault.JobFault.{JobFault}
use Rattle.ink_base.specs.Gives.{◌>>◌}
use Rattle.ink_text.specs.Section.{next_number, missing, next_header, section_in}
use Rattle.task_isa.specs.declared.lines.Lines.{Lines}
use Rattle.task_isa.specs.declared.program.Program.{Program}
use Rattle.task_lines.specs.declared.draft.DraftLine.{DraftLine}
use Rattle.task_lines.specs.declared.draft.DraftTask.{DraftTask}
use Rattle.task_lines.specs.declared.draft.Draft.{Draft}
use Rattle.task_lines.specs.Task.{line_in}
use Rattle.task_asm.specs.Targets.{program_of}

-- the draft of no lines
abbrev pub empty_draft : Draft
empty_draft = record { threads = []; thread_lines = []; sources = []; pipes = []; timers = []; tasks = []; current = None; count = 0 }

-- the lines of the instructions of a task
abbrev pub code_lines : DraftTask → List ℕ
code_lines t = map (λ (l : DraftLine). l.line) t.code

-- the lines of its parts, with the line of the section's header
abbrev pub lines_of_draft : ℕ → Draft → Lines
lines_of_draft header d = record { program = header; threads = d.thread_lines; tasks = map (λ (t : DraftTask). t.line) d.tasks; code = map code_lines d.tasks }

-- the end of the section: no task is open, and the next header is that of the readings, whose line is judged with them
unfoldable pub draft_end : ℕ → Draft → List Line → Result (Unit {0}) JobFault
draft_end count d lines = if is_some d.current then Err (missing count lines) else next_header count (codes "[sensors]") lines

-- the program that lines begin with, the lines of its parts, and the lines from the next header on; count is the number of all lines
unfoldable pub program_in : ℕ → List Line → Result (Program × Lines × List Line) JobFault
program_in count lines =
    next_header count (codes "[program]") lines >> (λ e.
    section_in count line_in empty_draft lines >> (λ x.
    draft_end count x.0 x.1 >> (λ closed.
    program_of x.0 >> (λ program.
    Ok (program, lines_of_draft (next_number count lines) x.0, x.1)))))

-- the program that a text begins with
abbrev pub program_at : List ℕ → Result (Program × Lines × List Line) JobFault
program_at text = program_in (length (lines text)) (with_words (lines_of text))
