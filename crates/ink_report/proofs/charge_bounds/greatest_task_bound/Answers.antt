use Rattle.ink_report.proofs.Common.{◌≡◌, ℕ, ◌+◌, ◌<◌, List, [], ◌∷◌, ◌++◌, length, get_or, take, sym, ap, ◌∙◌, subst, arith, take_more, take_all, Program}
use Rattle.std.specs.Prelude.{max}
use Rattle.std.specs.Ordering.{ord_max, nat_cmp}
use Rattle.std.proofs.lemmas.Grind.{common_steps}
use Rattle.std.proofs.lemmas.List.{get_or_read}
use Rattle.task_isa.specs.declared.program.Task.{Task}
use Rattle.prog_check.specs.Accepted.{IsAccepted, IsRightTask}
use Rattle.prog_check.specs.Lookup.{no_task_def}
use Rattle.never_cut.specs.Bounds.{greatest_of, task_bound}
use Rattle.ink_report.proofs.charge_bounds.greatest_task_bound.Goals as goal

-- with one task more
greatest_more : (program : Program) (tasks : List Task) (task : Task) → greatest_of program (tasks ++ task ∷ []) ≡ max (greatest_of program tasks) (task_bound program task)
greatest_more program [] task = omega arith
greatest_more program (first ∷ tasks) task = let rest = greatest_more program tasks task in omega arith

greatest_is : (a b : ℕ) → ord_max nat_cmp a b ≡ max a b
greatest_is a b = grind (arith, common_steps)

-- a task of an accepted program, as it is read
module _ (program : Program) (tasks : List Task) (same : tasks ≡ program.tasks) (k : ℕ) (task : Task) (inside : k < length tasks) (is : task ≡ get_or tasks k task) where
  right_task : IsAccepted program → IsRightTask program task
  right_task accepted =
      subst (IsRightTask program) (sym (get_or_read tasks k task inside is no_task_def ∙ ap (λ (l : List Task). get_or l k no_task_def) same))
      (accepted.tasks k (subst (λ (l : List Task). k < length l) same inside))

  one_more : greatest_of program (take (k + 1) tasks) ≡ max (greatest_of program (take k tasks)) (task_bound program task)
  one_more =
      ap (greatest_of program) (take_more tasks k task inside)
      ∙ greatest_more program (take k tasks) (get_or tasks k task)
      ∙ ap (λ (x : Task). max (greatest_of program (take k tasks)) (task_bound program x)) (sym is)

pub task_bound-requires-clause-task : goal.task_bound-requires-clause-task
task_bound-requires-clause-task c =
    right_task c.args.program.now c.as_slice-task-items.result.now c.as_slice-task-items.ensures c.loop-task.task-index c.task-item.result c.loop-task-test.true c.task-item.is c.requires

pub loop-task-preserved : goal.loop-task-preserved
loop-task-preserved c =
    c.max-greatest.ensures ∙ greatest_is c.loop-task.greatest c.task_bound.result ∙ (λ i. max (c.loop-task.invariant i) (c.task_bound.ensures i))
    ∙ sym (one_more c.args.program.now c.as_slice-task-items.result.now c.as_slice-task-items.ensures c.loop-task.task-index c.task-item.result c.loop-task-test.true c.task-item.is)

pub returns : goal.returns
returns c =
    c.loop-task.invariant
    ∙ ap (greatest_of c.args.program.now) (take_all c.loop-task.task-index c.as_slice-task-items.result.now c.loop-task-test.false ∙ c.as_slice-task-items.ensures)
