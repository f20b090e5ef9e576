-- The canonical text of a program is read as the program.
use Rattle.program_text.proofs.Common.{◌≡◌, ℕ, true, List, [], ◌∷◌, ◌++◌, Result, Ok, codes, refl, ap, ◌∙◌, list_all, Line, JobFault, ◌>>◌, lines_in, at_header, Program, Draft, line_in, empty_draft, lines_of_draft, program_of}
use Rattle.ink_text.specs.Section.{header_in, header_end, next_header, section_in}
use Rattle.task_asm.specs.Section.{draft_end, program_in}
use Rattle.ink_base.specs.Checks.{end_in}
use Rattle.task_isa.specs.declared.lines.Lines.{Lines}
use Rattle.program_text.proofs.Rendering.{with_numbers}
use Rattle.program_text.proofs.Spelled.{chain, kinds, program_lines}
use Rattle.program_text.proofs.LineByLine.{no_header, read_behind}
use Rattle.program_text.proofs.SectionAgain.{CanRead, draft_of_program, kinds_again, program_again}

-- the lines of the section, whatever follows the header behind it
section_again : (n : ℕ) (program : Program) (rest : List Line) → CanRead program → list_all no_header (chain (kinds program) []) ≡ true
    → lines_in line_in empty_draft (with_numbers 2 (chain (kinds program) []) ++ record { number = n; words = codes "[sensors]" ∷ [] } ∷ rest) ≡ Ok (draft_of_program program, record { number = n; words = codes "[sensors]" ∷ [] } ∷ rest)
section_again n program rest can plain =
    read_behind empty_draft (draft_of_program program) 2 (chain (kinds program) []) (record { number = n; words = codes "[sensors]" ∷ [] } ∷ rest) plain (kinds_again program can)
    ∙ at_header line_in (draft_of_program program) (record { number = n; words = codes "[sensors]" ∷ [] }) rest refl

-- the lines of the parts
unfoldable pub parts_of : Program → Lines
parts_of program = lines_of_draft 1 (draft_of_program program)

pub whole_again : (count n : ℕ) (program : Program) (rest : List Line) → CanRead program → list_all no_header (chain (kinds program) []) ≡ true
    → program_in count (with_numbers 1 (program_lines program) ++ record { number = n; words = codes "[sensors]" ∷ [] } ∷ rest) ≡ Ok (program, parts_of program, record { number = n; words = codes "[sensors]" ∷ [] } ∷ rest)
unfolding program_in next_header header_in section_in header_end end_in draft_end parts_of
whole_again count n program rest can plain =
    let behind : List Line = record { number = n; words = codes "[sensors]" ∷ [] } ∷ rest in
    ap (λ (r : Result (Draft × List Line) JobFault). r >> (λ x. draft_end count x.0 x.1 >> (λ closed. program_of x.0 >> (λ found. Ok (found, lines_of_draft 1 x.0, x.1))))) (section_again n program rest can plain)
    ∙ ap (λ (r : Result Program JobFault). r >> (λ found. Ok (found, lines_of_draft 1 (draft_of_program program), behind))) (program_again program can)
