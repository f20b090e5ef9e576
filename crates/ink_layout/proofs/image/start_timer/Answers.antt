-- The timer's two words are written.
use Rattle.ink_layout.proofs.Common.{◌≡◌, ℕ, ◌+◌, ◌<◌, List, length, get_or, ap, subst, ◌∙◌, get_or_default, Program, no_timer_def, due_word, timed_word, with_blocks, put_word}
use Rattle.task_isa.specs.declared.program.TimerDef.{TimerDef}
use Rattle.ink_layout.proofs.Images.{holds_as, blocks_next}
use Rattle.ink_layout.proofs.image.start_timer.Goals as goal

-- the timer at hand is the program's
same_timer : (timers slice : List TimerDef) (j : ℕ) (timer : TimerDef) → slice ≡ timers → j < length timers → timer ≡ get_or slice j timer → timer ≡ get_or timers j no_timer_def
same_timer timers slice j timer e lt is =
    subst (λ (xs : List TimerDef). timer ≡ get_or xs j timer) e is ∙ get_or_default timers j timer no_timer_def lt

pub returns : goal.returns
returns c =
    let is = same_timer c.args.program.now.timers c.as_slice.result.now c.args.j c.index-as_slice-j.result (c.as_slice.ensures ∙ ap (λ (p : Program). p.timers) c.program.ensures.same) c.requires.known c.index-as_slice-j.is in
    let due_at : ℕ = c.word-due_at.result in
    let period_at : ℕ = c.word-period_at.result in
    holds_as c.args.program.now c.put_both-2.new.fram
    (with_blocks c.args.program.now (put_word (put_word (timed_word c.args.program.now c.args.j) c.index-as_slice-j.result.thread.0 due_at c.first_due-due.result) c.index-as_slice-j.result.thread.0 period_at c.index-as_slice-j.result.period))
    (with_blocks c.args.program.now (timed_word c.args.program.now (c.args.j + 1)))
    (c.put_both-2.ensures.stored (put_word (timed_word c.args.program.now c.args.j) c.index-as_slice-j.result.thread.0 due_at c.first_due-due.result)
    (c.put_both.ensures.stored (timed_word c.args.program.now c.args.j) c.requires.before))
    (blocks_next c.args.program.now c.args.j c.index-as_slice-j.result.thread.0 due_at period_at c.first_due-due.result c.index-as_slice-j.result.period
    c.word-due_at.ensures.number c.word-period_at.ensures.number
    (ap (λ (timer : TimerDef). timer.thread.0) is)
    (c.first_due-due.ensures ∙ ap (λ (timer : TimerDef). due_word timer.due) is)
    (ap (λ (timer : TimerDef). timer.period) is))
