use Rattle.ink_audit.proofs.Common.{◌<◌, List, length, sym, ap, subst, ◌∙◌, bytes_eq}
use Rattle.std.specs.List.{position}
use Rattle.task_isa.specs.declared.program.ThreadDef.{ThreadDef}
use Rattle.ink_audit.proofs.Written.{thread_written, thread_unwritten}
use Rattle.ink_audit.proofs.operands.thread.Goals as goal

pub returns-in_err-place : goal.returns-in_err-place
returns-in_err-place c =
    rw c.from_residual.ensures
    (λ thread lt is. thread_unwritten c.args.program.now c.args.word.now thread.0
    (ap (λ (ts : List ThreadDef). position (λ t. bytes_eq t.name c.args.word.now) ts) (sym c.as_slice.ensures) ∙ sym c.place_of.ensures.place ∙ c.in_err-place.was) lt is)

pub returns : goal.returns
returns c = (
  subst (λ (ts : List ThreadDef). c.in_ok-place.place < length ts) c.as_slice.ensures c.in_ok-place.ensures.within,
  thread_written c.args.program.now c.args.word.now c.in_ok-place.place
      (ap (λ (ts : List ThreadDef). position (λ t. bytes_eq t.name c.args.word.now) ts) (sym c.as_slice.ensures) ∙ sym c.place_of.ensures.place ∙ c.in_ok-place.was),
)
