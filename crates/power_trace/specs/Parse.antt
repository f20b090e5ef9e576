-- The job that a text gives, or its first fault.
use Rattle.std.specs.Prelude.{ℕ, List, length, Option, Some, None, Result, Ok, Err}
use Rattle.ink_base.specs.Lines.{Line, lines}
use Rattle.ink_base.specs.Tokens.{bytes_in}
use Rattle.ink_base.specs.Gives.{◌>>◌}
use Rattle.ink_base.specs.declared.fault.JobFault.{JobFault}
use Rattle.task_isa.specs.declared.lines.Lines.{Lines}
use Rattle.task_isa.specs.declared.program.Program.{Program}
use Rattle.prog_check.specs.Faults.{first_fault}
use Rattle.task_asm.specs.Section.{program_at}
use Rattle.power_trace.specs.Sensors.{sensors_in}
use Rattle.power_trace.specs.Power.{power_in}
use Rattle.power_trace.specs.Tails.{no_tails}
use Rattle.power_trace.specs.declared.tails.Tails.{Tails}
use Rattle.power_trace.specs.declared.parse.Parts.{Parts}
use Rattle.job_parts.specs.Job.{JobParts}

-- the program, unless this is its fault
abbrev pub unless_fault : Program → Option JobFault → Result Program JobFault
unless_fault program None = Ok program
unless_fault program (Some fault) = Err fault

-- the program where it has no fault, else its first one
abbrev pub checked : Program → Lines → Result Program JobFault
checked program lines = unless_fault program (first_fault program lines)

-- the phases in their order: bytes, the program and its check, the readings, the charges. So a text gives a job and the lines of its charges, and the
-- lines from the header on that ends the last section.
unfoldable pub parts_at : Tails → List ℕ → Result (Parts × List Line) JobFault
parts_at tails text =
    bytes_in text >> (λ good.
    program_at text >> (λ p.
    checked p.0 p.1 >> (λ program.
    sensors_in (length (lines text)) (length program.sources) p.2 >> (λ s.
    power_in (length (lines text)) tails (length program.sources) s.1 >> (λ x.
    Ok (record { job = record { program = program; readings = s.0; charges = x.0.list; start = None }; charge_lines = x.0.lines }, x.1))))))

-- the job alone, and the lines from that header on
unfoldable pub whole_at : Tails → List ℕ → Result (JobParts × List Line) JobFault
whole_at tails text = parts_at tails text >> (λ x. Ok (x.0.job, x.1))

-- the job of a text behind which nothing stands
unfoldable pub job_at : List ℕ → Result JobParts JobFault
job_at text = whole_at no_tails text >> (λ x. Ok x.0)
