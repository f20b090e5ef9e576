-- The lines of a printed task are read as the task, with its labels.
use Rattle.program_text.proofs.Common.{◌≡◌, ℕ, zero, suc, ◌+◌, ◌-◌, ◌<◌, ◌≤◌, Bool, true, false, cond, List, [], ◌∷◌, ◌++◌, length, drop, Some, None, Ok, codes, refl, ap, ◌∙◌, arith, lt-ltb, IsInstr, no_thread_def, instr_at, Task, Program, IsRightInstr, DraftLine, DraftTask, Draft, thread_name, offset_of, with_label, task_name, is_target}
use Rattle.task_lines.specs.Outside.{task_line}
use Rattle.ink_base.specs.Checks.{end_in}
use Rattle.task_lines.specs.Named.{fresh_of}
use Rattle.task_lines.specs.Task.{label_line, inside_line, line_in}
use Rattle.program_text.proofs.Spelled.{label_name, label_lines, instr_words, instr_lines, lines_below, task_words}
use Rattle.program_text.proofs.WordsAgain.{fixed_again, field_again, label_is_name, label_of-again}
use Rattle.program_text.proofs.LineByLine.{read_all, read_append, read_one}
use Rattle.program_text.proofs.NamesAgain.{declared_again, new_name_again}
use Rattle.program_text.proofs.FormsAgain.{IsNew, AreApart}
use Rattle.program_text.proofs.InstrsAgain.{draft_of, CanCode}
use Rattle.program_text.proofs.CodeAgain.{instr_again}
use Rattle.program_text.proofs.LabelsAgain.{labels_below, label_none}
use Rattle.ink_base.specs.declared.limits.TheConstants as limits

-- the draft with a task open, and so many instructions read
abbrev pub open_at : Draft → DraftTask → ℕ → Draft
open_at d task count = record d { current = Some task; count = count }

label_again : (d : Draft) (task : DraftTask) (line o : ℕ) → o < limits.INSTRUCTIONS → offset_of task.labels (label_name o) ≡ None
    → line_in (open_at d task (task.before + o)) line ((label_name o ++ 58 ∷ []) ∷ []) ≡ Ok (open_at d (record task { labels = with_label task.labels (label_name o) o }) (task.before + o))
unfolding line_in inside_line label_line fresh_of end_in
label_again d task line o lt none =
    let at : task.before + o - task.before ≡ o = omega arith in
    rw (label_of-again (label_name o), none, label_is_name o lt, at) refl

label_step : (b : Bool) (d : Draft) (task : DraftTask) (line o : ℕ) → o < limits.INSTRUCTIONS → offset_of task.labels (label_name o) ≡ None
    → read_all (open_at d task (task.before + o)) line (label_lines b o) ≡ Ok (open_at d (record task { labels = cond b (with_label task.labels (label_name o) o) task.labels }) (task.before + o))
unfolding read_all
label_step true d task line o lt none = read_one (open_at d task (task.before + o)) line ((label_name o ++ 58 ∷ []) ∷ []) _ (label_again d task line o lt none)
label_step false d task line o lt none = refl

-- the line of the instruction at an offset, where the task's own line is given
abbrev pub line_at : Program → Task → ℕ → ℕ → ℕ
line_at program t line o = line + 1 + length (lines_below program t o) + length (label_lines (is_target t.code o) o)

-- the first n instructions, each with its line
abbrev pub drafts_below : Program → Task → ℕ → ℕ → List DraftLine
drafts_below program t line zero = []
drafts_below program t line (suc n) = drafts_below program t line n ++ record { line = line_at program t line n; instr = draft_of program (instr_at t n) } ∷ []

-- a task whose first n instructions are read
abbrev pub task_below : Program → Task → ℕ → ℕ → ℕ → DraftTask
task_below program t line before n =
    record { line = line; name = t.name; thread = t.thread; limit = t.limit; before = before; code = drafts_below program t line n; labels = labels_below t.code n }

-- what the instructions of a task are that can be read, so many of them behind others
pub record CanInstrs (program : Program) (t : Task) (before : ℕ) : Type 0 where
  pub fits : (o : ℕ) → o < length t.code → IsInstr (instr_at t o)
  pub right : (o : ℕ) → o < length t.code → IsRightInstr program t (instr_at t o)
  pub room : before + length t.code ≤ limits.INSTRUCTIONS

pub same_parts : {program : Program} {d : Draft} {t : Task} (count : ℕ) → CanCode program d t → CanCode program (record d { count = count }) t
same_parts count can = record { pipes = can.pipes; timers = can.timers; distinct = can.distinct; named = can.named; short = can.short }

instr_step : (program : Program) (d : Draft) (t : Task) (line before n : ℕ) → CanCode program d t → CanInstrs program t before → n < length t.code
    → read_all (open_at d (task_below program t line before n) (before + n)) (line + 1 + length (lines_below program t n)) (instr_lines program t n)
    ≡ Ok (open_at d (task_below program t line before (suc n)) (before + suc n))
instr_step program d t line before n can code lt =
    let task = task_below program t line before n in
    let marked : DraftTask = record task { labels = labels_below t.code (suc n) } in
    let room : before + n < limits.INSTRUCTIONS = omega (arith, code.room) in
    let count : before + n + 1 ≡ before + suc n = omega arith in
    read_append (open_at d task (before + n)) (open_at d marked (before + n)) (line + 1 + length (lines_below program t n)) (line_at program t line n) (label_lines (is_target t.code n) n) (instr_words program (instr_at t n) ∷ []) _
    (label_step (is_target t.code n) d task (line + 1 + length (lines_below program t n)) n (omega (arith, code.room)) (label_none t.code n n (omega arith) (omega (arith, code.room))))
    refl
    (read_one (open_at d marked (before + n)) (line_at program t line n) (instr_words program (instr_at t n)) _
    (instr_again program (record d { count = before + n }) t marked (line_at program t line n) (instr_at t n) (same_parts (before + n) can) refl (code.fits n lt) (code.right n lt) room)
    ∙ ap (λ (c : ℕ). Ok (open_at d (task_below program t line before (suc n)) c)) count)

-- the first n instructions
pub code_again : (program : Program) (d : Draft) (t : Task) (line before n : ℕ) → CanCode program d t → CanInstrs program t before → n ≤ length t.code
    → read_all (open_at d (task_below program t line before 0) (before + 0)) (line + 1) (lines_below program t n) ≡ Ok (open_at d (task_below program t line before n) (before + n))
unfolding read_all
code_again program d t line before zero can code le = refl
code_again program d t line before (suc n) can code le =
    read_append (open_at d (task_below program t line before 0) (before + 0)) (open_at d (task_below program t line before n) (before + n)) (line + 1) (line + 1 + length (lines_below program t n)) (lines_below program t n) (instr_lines program t n) _
    (code_again program d t line before n can code (omega arith)) refl (instr_step program d t line before n can code (omega arith))

-- what a task is that can be read behind others
pub record CanTask (program : Program) (d : Draft) (t : Task) : Type 0 where
  pub threads : d.threads ≡ program.threads
  pub apart : AreApart program
  pub new : IsNew task_name 256 d.tasks (task_below program t 0 0 0)
  pub thread : t.thread.0 < length program.threads
  pub limit_least : 1 ≤ t.limit
  pub limit : t.limit ≤ limits.TASK_LIMIT
  pub code : CanCode program d t
  pub instrs : CanInstrs program t d.count

pub header_again : (program : Program) (d : Draft) (t : Task) (line : ℕ) → CanTask program d t
    → task_line d line (drop 1 (task_words program t)) ≡ Ok (open_at d (task_below program t line d.count 0) d.count)
unfolding task_line end_in
header_again program d t line can =
    rw (
      lt-ltb (length d.tasks) 256 can.new.room,
      new_name_again task_name d.tasks t.name _ can.new.named can.new.fresh,
      fixed_again (codes "thread") _,
      can.threads,
      declared_again thread_name program.threads no_thread_def t.thread.0 _ can.thread can.apart,
      field_again (codes "limit") 1 limits.TASK_LIMIT t.limit [] can.limit_least can.limit (omega (arith, can.limit)),
    ) refl
