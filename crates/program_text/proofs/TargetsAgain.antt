-- The targets of a printed program are found where they were.
use Rattle.program_text.proofs.Common.{◌≡◌, ℕ, zero, suc, ◌+◌, ◌<◌, ◌≤◌, true, List, [], ◌∷◌, ◌++◌, length, take, Some, Result, Ok, Err, refl, sym, ap, ◌∙◌, arith, eq-eqb, take_all, AllByRecursion, add-one, take_more, list_any_at, JobFault, ◌>>◌, task_def, instr_at, no_task_def, Instr, Jmp, Jz, Jnz, Next, Done, Task, Program, HasDistinct, IsRightInstr, DraftLine, DraftTask, place_of, task_name, jumps_to, is_target, aimed, unless_lost, instr_of, code_of}
use Rattle.ink_base.specs.Gives.{each}
use Rattle.task_asm.specs.Targets.{task_of}
use Rattle.program_text.proofs.Spelled.{task_lines}
use Rattle.program_text.proofs.NamesAgain.{place_again}
use Rattle.program_text.proofs.InstrsAgain.{draft_of}
use Rattle.program_text.proofs.LabelsAgain.{labels_below, label_found}
use Rattle.program_text.proofs.TasksAgain.{line_at, drafts_below}
use Rattle.program_text.proofs.AllTasksAgain.{drafted, all_drafted, drafted_place}
use Rattle.ink_base.specs.declared.limits.TheConstants as limits

-- the task of each number is found by its name
abbrev FindsTasks : Program → List DraftTask → Type 0
FindsTasks program tasks = (i : ℕ) → i < length program.tasks → place_of task_name tasks (task_def program i).name ≡ Some i

pub finds_tasks : (program : Program) (line : ℕ) → HasDistinct program → FindsTasks program (all_drafted program line 0 program.tasks)
finds_tasks program line distinct i lt =
    drafted_place program line 0 program.tasks (task_def program i).name ∙ place_again (λ (t : Task). t.name) program.tasks no_task_def i lt distinct.tasks

aimed_again : (program : Program) (tasks : List DraftTask) (t : Task) (instr : Instr) → FindsTasks program tasks → length t.code ≤ limits.INSTRUCTIONS → ((i : ℕ) → jumps_to i instr ≡ true → is_target t.code i ≡ true) → IsRightInstr program t instr
    → aimed tasks (labels_below t.code (length t.code)) (draft_of program instr) ≡ Some instr
aimed_again program tasks t (Jmp i) finds small there right = rw (label_found t.code (length t.code) i right (omega arith) (there i (eq-eqb i i refl))) refl
aimed_again program tasks t (Jz a i) finds small there right = rw (label_found t.code (length t.code) i right (omega arith) (there i (eq-eqb i i refl))) refl
aimed_again program tasks t (Jnz a i) finds small there right = rw (label_found t.code (length t.code) i right (omega arith) (there i (eq-eqb i i refl))) refl
aimed_again program tasks t (Next i) finds small there right = rw (finds i right.0) refl
aimed_again program tasks t instr finds small there right = refl

-- what the code of a task is whose targets are found
pub record CanAim (program : Program) (t : Task) : Type 0 where
  pub short : length t.code ≤ limits.INSTRUCTIONS
  pub right : (o : ℕ) → o < length t.code → IsRightInstr program t (instr_at t o)

instr_of-again : (program : Program) (tasks : List DraftTask) (t : Task) (line o : ℕ) → FindsTasks program tasks → CanAim program t → o < length t.code
    → instr_of tasks (labels_below t.code (length t.code)) (record { line = line; instr = draft_of program (instr_at t o) }) ≡ Ok (instr_at t o)
instr_of-again program tasks t line o finds can lt =
    ap (unless_lost line) (aimed_again program tasks t (instr_at t o) finds can.short (λ i h. list_any_at (jumps_to i) t.code o Done lt h) (can.right o lt))

regroup : {B : Type 0} (r : Result B JobFault) (s : Result (List B) JobFault) (q : Result B JobFault)
    → (r >> (λ v. (s >> (λ ys. q >> (λ y. Ok (ys ++ y ∷ [])))) >> (λ ys. Ok (v ∷ ys)))) ≡ ((r >> (λ v. s >> (λ ys. Ok (v ∷ ys)))) >> (λ ys. q >> (λ y. Ok (ys ++ y ∷ []))))
regroup (Ok v) (Ok ys) (Ok y) = refl
regroup (Ok v) (Ok ys) (Err e) = refl
regroup (Ok v) (Err e) q = refl
regroup (Err e) s q = refl

each_push : {A B : Type 0} (f : A → Result B JobFault) (xs : List A) (x : A) → each f (xs ++ x ∷ []) ≡ (each f xs >> (λ ys. f x >> (λ y. Ok (ys ++ y ∷ []))))
unfolding each
each_push f [] x = refl
each_push f (u ∷ xs) x = ap (λ r. f u >> (λ v. r >> (λ ys. Ok (v ∷ ys)))) (each_push f xs x) ∙ regroup (f u) (each f xs) (f x)

code_below : (program : Program) (tasks : List DraftTask) (t : Task) (line n : ℕ) → FindsTasks program tasks → CanAim program t → n ≤ length t.code
    → code_of tasks (labels_below t.code (length t.code)) (drafts_below program t line n) ≡ Ok (take n t.code)
unfolding each
code_below program tasks t line zero finds can le = refl
code_below program tasks t line (suc n) finds can le =
    let labels = labels_below t.code (length t.code) in
    let last : DraftLine = record { line = line_at program t line n; instr = draft_of program (instr_at t n) } in
    let front = code_below program tasks t line n finds can (omega arith) in
    each_push (instr_of tasks labels) (drafts_below program t line n) last
    ∙ ap (λ (r : Result (List Instr) JobFault). r >> (λ ys. instr_of tasks labels last >> (λ y. Ok (ys ++ y ∷ [])))) front
    ∙ ap (λ (r : Result Instr JobFault). r >> (λ y. Ok (take n t.code ++ y ∷ []))) (instr_of-again program tasks t (line_at program t line n) n finds can (omega arith))
    ∙ ap Ok (sym (take_more t.code n Done (omega arith)) ∙ ap (λ (m : ℕ). take m t.code) (add-one n))

task_of-again : (program : Program) (tasks : List DraftTask) (t : Task) (line before : ℕ) → FindsTasks program tasks → CanAim program t → task_of tasks (drafted program t line before) ≡ Ok t
unfolding task_of
task_of-again program tasks t line before finds can =
    let whole = code_below program tasks t line (length t.code) finds can (omega arith) ∙ ap Ok (take_all (length t.code) t.code (omega arith)) in
    ap (λ (r : Result (List Instr) JobFault). r >> (λ code. Ok (record { name = t.name; thread = t.thread; limit = t.limit; code = code }))) whole

pub tasks_of-again : (program : Program) (tasks : List DraftTask) (line before : ℕ) (ts : List Task) → FindsTasks program tasks → AllByRecursion (CanAim program) ts
    → each (task_of tasks) (all_drafted program line before ts) ≡ Ok ts
unfolding each
tasks_of-again program tasks line before [] finds all = refl
tasks_of-again program tasks line before (t ∷ ts) finds all =
    ap (λ (r : Result Task JobFault). r >> (λ y. each (task_of tasks) (all_drafted program (line + length (task_lines program t)) (before + length t.code) ts) >> (λ ys. Ok (y ∷ ys)))) (task_of-again program tasks t line before finds all.0)
    ∙ ap (λ (r : Result (List Task) JobFault). r >> (λ ys. Ok (t ∷ ys))) (tasks_of-again program tasks (line + length (task_lines program t)) (before + length t.code) ts finds all.1)
