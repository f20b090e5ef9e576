-- Printed tasks are read as the tasks.
use Rattle.program_text.proofs.Common.{◌≡◌, ℕ, suc, ◌+◌, not, List, [], ◌∷◌, ◌++◌, length, None, Ok, codes, refl, sym, ap, ◌∙◌, arith, add-zero, length-append, flat_map, prefix_len, bytes_eq, Word, Task, Program, DraftTask, Draft, is_taken, place_of, task_name}
use Rattle.task_lines.specs.Outside.{outside_line}
use Rattle.ink_base.specs.Checks.{end_in}
use Rattle.task_lines.specs.Task.{end_line, inside_line, line_in}
use Rattle.program_text.proofs.Spelled.{lines_below, task_words, task_lines}
use Rattle.program_text.proofs.LineByLine.{read_all, read_append, read_one, read_more, AllBehind, read_each}
use Rattle.program_text.proofs.TasksAgain.{open_at, task_below, CanTask, code_again, header_again}

-- a task as it is read, with the number of instructions before it
abbrev pub drafted : Program → Task → ℕ → ℕ → DraftTask
drafted program t line before = task_below program t line before (length t.code)

-- the draft with one more task
abbrev pub with_task : Draft → DraftTask → ℕ → Draft
with_task d task count = record d { tasks = d.tasks ++ task ∷ []; current = None; count = count }

end_again : (d : Draft) (task : DraftTask) (count line : ℕ) → line_in (open_at d task count) line (codes "end" ∷ []) ≡ Ok (with_task d task count)
unfolding line_in inside_line end_line end_in
end_again d task count line = refl

begin_again : (program : Program) (d : Draft) (t : Task) (line : ℕ) → CanTask program (record d { current = None }) t
    → line_in (record d { current = None }) line (task_words program t) ≡ Ok (open_at d (task_below program t line d.count 0) d.count)
unfolding line_in outside_line
begin_again program d t line can = header_again program (record d { current = None }) t line can

-- a task
pub task_again : (program : Program) (d : Draft) (t : Task) (line : ℕ) → CanTask program (record d { current = None }) t
    → read_all (record d { current = None }) line (task_lines program t) ≡ Ok (with_task d (drafted program t line d.count) (d.count + length t.code))
task_again program d t line can =
    let n = length t.code in
    let began = open_at d (task_below program t line d.count 0) d.count in
    let done = open_at d (drafted program t line d.count) (d.count + n) in
    let begin : began ≡ open_at d (task_below program t line d.count 0) (d.count + 0) = ap (λ (c : ℕ). open_at d (task_below program t line d.count 0) c) (sym (add-zero d.count)) in
    read_more (record d { current = None }) line (task_words program t) (lines_below program t n ++ (codes "end" ∷ []) ∷ []) began (begin_again program d t line can)
    ∙ ap (λ (e : Draft). read_all e (line + 1) (lines_below program t n ++ (codes "end" ∷ []) ∷ [])) begin
    ∙ read_append (open_at d (task_below program t line d.count 0) (d.count + 0)) done (line + 1) (line + 1 + length (lines_below program t n)) (lines_below program t n) ((codes "end" ∷ []) ∷ []) _
    (code_again program (record d { current = None }) t line d.count n can.code can.instrs (omega arith)) refl
    (read_one done (line + 1 + length (lines_below program t n)) (codes "end" ∷ []) _ (end_again d (drafted program t line d.count) (d.count + n) (line + 1 + length (lines_below program t n))))

-- tasks as they are read, from a line and a number of instructions on
abbrev pub all_drafted : Program → ℕ → ℕ → List Task → List DraftTask
all_drafted program line before [] = []
all_drafted program line before (t ∷ ts) = drafted program t line before ∷ all_drafted program (line + length (task_lines program t)) (before + length t.code) ts

-- the number of their instructions
abbrev pub all_code : List Task → ℕ
all_code [] = 0
all_code (t ∷ ts) = length t.code + all_code ts

all_code-push : (ts : List Task) (t : Task) → all_code (ts ++ t ∷ []) ≡ all_code ts + length t.code
all_code-push [] t = omega arith
all_code-push (u ∷ ts) t = omega (arith, all_code-push ts t)

lines_push : (program : Program) (line : ℕ) (ts : List Task) (t : Task) → line + length (flat_map (task_lines program) (ts ++ t ∷ [])) ≡ line + length (flat_map (task_lines program) ts) + length (task_lines program t)
lines_push program line [] t = omega (arith, length-append (task_lines program t) [])
lines_push program line (u ∷ ts) t =
    omega (arith, lines_push program line ts t, length-append (task_lines program u) (flat_map (task_lines program) (ts ++ t ∷ [])), length-append (task_lines program u) (flat_map (task_lines program) ts))

drafted_push : (program : Program) (line before : ℕ) (ts : List Task) (t : Task)
    → all_drafted program line before (ts ++ t ∷ []) ≡ all_drafted program line before ts ++ drafted program t (line + length (flat_map (task_lines program) ts)) (before + all_code ts) ∷ []
drafted_push program line before [] t =
    ap (λ (l : ℕ). drafted program t l before ∷ []) (sym (add-zero line)) ∙ ap (λ (c : ℕ). drafted program t (line + 0) c ∷ []) (sym (add-zero before))
drafted_push program line before (u ∷ ts) t =
    let at : line + length (task_lines program u) + length (flat_map (task_lines program) ts) ≡ line + length (flat_map (task_lines program) (u ∷ ts)) = omega (arith, length-append (task_lines program u) (flat_map (task_lines program) ts)) in
    let count : before + length u.code + all_code ts ≡ before + all_code (u ∷ ts) = omega arith in
    ap (λ (more : List DraftTask). drafted program u line before ∷ more)
    (drafted_push program (line + length (task_lines program u)) (before + length u.code) ts t
    ∙ ap (λ (l : ℕ). all_drafted program (line + length (task_lines program u)) (before + length u.code) ts ++ drafted program t l (before + length u.code + all_code ts) ∷ []) at
    ∙ ap (λ (c : ℕ). all_drafted program (line + length (task_lines program u)) (before + length u.code) ts ++ drafted program t (line + length (flat_map (task_lines program) (u ∷ ts))) c ∷ []) count)

zero-add : (n : ℕ) → 0 + n ≡ n
zero-add n = omega arith

-- the draft behind tasks, the first of which stands at a line
abbrev pub behind_tasks : Program → Draft → ℕ → List Task → Draft
behind_tasks program d line ts = record d { tasks = all_drafted program line 0 ts; current = None; count = all_code ts }

-- what a task is that can be read behind others
abbrev pub CanBehind : Program → Draft → ℕ → List Task → Task → Type 0
CanBehind program d line before t = CanTask program (behind_tasks program d line before) t

-- tasks
pub tasks_again : (program : Program) (d : Draft) (line : ℕ) (ts : List Task) → AllBehind (CanBehind program d line) [] ts
    → read_all (behind_tasks program d line []) (line + 0) (flat_map (task_lines program) ts) ≡ Ok (behind_tasks program d line ts)
tasks_again program d line ts all =
    read_each (behind_tasks program d line) (λ before. line + length (flat_map (task_lines program) before)) (task_lines program) (CanBehind program d line)
    (λ before t can.
    let at = line + length (flat_map (task_lines program) before) in
    task_again program (behind_tasks program d line before) t at can
    ∙ ap (λ (c : ℕ). Ok (record d { tasks = all_drafted program line 0 before ++ drafted program t at c ∷ []; current = None; count = all_code before + length t.code })) (sym (zero-add (all_code before)))
    ∙ ap (λ (x : List DraftTask). Ok (record d { tasks = x; current = None; count = all_code before + length t.code })) (sym (drafted_push program line 0 before t))
    ∙ ap (λ (c : ℕ). Ok (record d { tasks = all_drafted program line 0 (before ++ t ∷ []); current = None; count = c })) (sym (all_code-push before t)))
    (lines_push program line) [] ts all

-- tasks keep their names and their number
pub drafted_size : (program : Program) (line before : ℕ) (ts : List Task) → length (all_drafted program line before ts) ≡ length ts
drafted_size program line before [] = refl
drafted_size program line before (t ∷ ts) = ap (λ (n : ℕ). suc n) (drafted_size program (line + length (task_lines program t)) (before + length t.code) ts)

pub drafted_taken : (program : Program) (line before : ℕ) (ts : List Task) (w : Word) → is_taken task_name (all_drafted program line before ts) w ≡ is_taken (λ (t : Task). t.name) ts w
drafted_taken program line before [] w = refl
drafted_taken program line before (t ∷ ts) w = rw (drafted_taken program (line + length (task_lines program t)) (before + length t.code) ts w) refl

drafted_first : (program : Program) (line before : ℕ) (ts : List Task) (w : Word)
    → prefix_len (λ (t : DraftTask). not (bytes_eq t.name w)) (all_drafted program line before ts) ≡ prefix_len (λ (t : Task). not (bytes_eq t.name w)) ts
drafted_first program line before [] w = refl
drafted_first program line before (t ∷ ts) w = rw (drafted_first program (line + length (task_lines program t)) (before + length t.code) ts w) refl

pub drafted_place : (program : Program) (line before : ℕ) (ts : List Task) (w : Word) → place_of task_name (all_drafted program line before ts) w ≡ place_of (λ (t : Task). t.name) ts w
drafted_place program line before ts w = rw (drafted_first program line before ts w, drafted_size program line before ts) refl
