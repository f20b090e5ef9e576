-- The canonical text of an accepted program, with the next section behind it, is read as the program.
use Rattle.program_text.proofs.Common.{◌≡◌, ℕ, zero, suc, ◌+◌, true, List, [], ◌∷◌, ◌++◌, length, map, Ok, codes, refl, sym, ap, ◌∙◌, arith, append-nil, length-append, list_all, length-map, Word, Line, lines, numbered, lines_of, with_words, instr_at, Task, Program, IsAccepted, DraftLine, DraftTask, print_of, HasLines, ReadsBack, code_lines, program_in, IsTyped}
use Rattle.prog_check.proofs.Complete.{no_fault}
use Rattle.program_text.proofs.Rendering.{are_words, text_of, with_numbers, lines_again, with_words_again}
use Rattle.program_text.proofs.Spelled.{task_lines, program_lines}
use Rattle.program_text.proofs.Spelling.{program_spelled}
use Rattle.program_text.proofs.InstrsAgain.{draft_of}
use Rattle.program_text.proofs.TasksAgain.{line_at, drafts_below}
use Rattle.program_text.proofs.AllTasksAgain.{all_drafted, drafted_size}
use Rattle.program_text.proofs.SectionAgain.{thread_numbers, first_task_line}
use Rattle.program_text.proofs.AcceptedAgain.{accepted_can}
use Rattle.program_text.proofs.KindsWorded.{kinds_worded}
use Rattle.program_text.proofs.WholeAgain.{parts_of, whole_again}

-- how many lines there are
length-numbered : (n : ℕ) (ls : List (List ℕ)) → length (numbered n ls) ≡ length ls
length-numbered n [] = refl
length-numbered n (l ∷ ls) = ap (λ (k : ℕ). suc k) (length-numbered (n + 1) ls)

length-with_numbers : (n : ℕ) (lss : List (List Word)) → length (with_numbers n lss) ≡ length lss
length-with_numbers n [] = refl
length-with_numbers n (ws ∷ lss) = ap (λ (k : ℕ). suc k) (length-with_numbers (n + 1) lss)

lines_count : (lss : List (List Word)) → list_all are_words lss ≡ true → length (lines (text_of lss)) ≡ length lss
lines_count lss h =
    sym (length-numbered 1 (lines (text_of lss)))
    ∙ ap (λ (bytes : List ℕ). length (numbered 1 (lines bytes))) (sym (append-nil (text_of lss)))
    ∙ ap (λ (ls : List Line). length ls) (lines_again 1 lss [] h ∙ append-nil (with_numbers 1 lss))
    ∙ length-with_numbers 1 lss

-- each part has a line
length-thread_numbers : (n : ℕ) → length (thread_numbers n) ≡ n
length-thread_numbers zero = refl
length-thread_numbers (suc n) = omega (arith, length-append (thread_numbers n) ((2 + n) ∷ []), length-thread_numbers n)

drafts_count : (program : Program) (t : Task) (line n : ℕ) → length (drafts_below program t line n) ≡ n
drafts_count program t line zero = refl
drafts_count program t line (suc n) =
    let last : DraftLine = record { line = line_at program t line n; instr = draft_of program (instr_at t n) } in
    omega (arith, length-append (drafts_below program t line n) (last ∷ []), drafts_count program t line n)

length-drafts : (program : Program) (t : Task) (line n : ℕ) → length (map (λ (l : DraftLine). l.line) (drafts_below program t line n)) ≡ n
length-drafts program t line n = length-map (drafts_below program t line n) (λ (l : DraftLine). l.line) ∙ drafts_count program t line n

code_sizes : (program : Program) (line before : ℕ) (ts : List Task)
    → map (λ (ls : List ℕ). length ls) (map code_lines (all_drafted program line before ts)) ≡ map (λ (t : Task). length t.code) ts
code_sizes program line before [] = refl
code_sizes program line before (t ∷ ts) =
    ap (λ (n : ℕ). n ∷ map (λ (ls : List ℕ). length ls) (map code_lines (all_drafted program (line + length (task_lines program t)) (before + length t.code) ts))) (length-drafts program t line (length t.code))
    ∙ ap (λ (ns : List ℕ). length t.code ∷ ns) (code_sizes program (line + length (task_lines program t)) (before + length t.code) ts)

parts_have : (program : Program) → HasLines program (parts_of program)
unfolding parts_of
parts_have program = record {
  threads = length-thread_numbers (length program.threads);
  tasks = length-map (all_drafted program (first_task_line program) 0 program.tasks) (λ (t : DraftTask). t.line) ∙ drafted_size program (first_task_line program) 0 program.tasks;
  code = code_sizes program (first_task_line program) 0 program.tasks;
}

-- the lines from the header of the next section on
header_line : (n : ℕ) (after : List ℕ) → with_words (numbered n (lines (codes "[sensors]\n" ++ after))) ≡ record { number = n; words = codes "[sensors]" ∷ [] } ∷ with_words (numbered (n + 1) (lines after))
header_line n after = refl

pub reads_back : (program : Program) → IsAccepted program → IsTyped program → ReadsBack (print_of program) program
reads_back program is typed after =
    let lss = program_lines program in
    let more = codes "[sensors]\n" ++ after in
    let text = print_of program in
    let plain = kinds_worded program is typed in
    let n = 1 + length lss in
    let count = length (lines (text ++ more)) in
    let spelled : text ++ more ≡ text_of lss ++ more = ap (λ (x : List ℕ). x ++ more) (program_spelled program) in
    let numbers : n ≡ length (lines text) + 1 = omega (arith, ap (λ (x : List ℕ). length (lines x)) (program_spelled program), lines_count lss plain.0) in
    let cut : with_words (lines_of (text ++ more)) ≡ with_numbers 1 lss ++ with_words (numbered n (lines more)) =
    ap (λ (x : List ℕ). with_words (lines_of x)) spelled ∙ ap with_words (lines_again 1 lss more plain.0) ∙ with_words_again 1 lss (numbered n (lines more)) plain.0 in (
      parts_of program,
      parts_have program,
      ap (program_in count) (cut ∙ ap (λ (x : List Line). with_numbers 1 lss ++ x) (header_line n after))
          ∙ whole_again count n program (with_words (numbered (n + 1) (lines after))) (accepted_can program is typed) plain.1
          ∙ ap (λ (x : List Line). Ok (program, parts_of program, x)) (sym (header_line n after) ∙ ap (λ (k : ℕ). with_words (numbered k (lines more))) numbers),
      no_fault program (parts_of program) is,
    )
