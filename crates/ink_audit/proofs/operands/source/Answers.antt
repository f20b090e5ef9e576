use Rattle.ink_audit.proofs.Common.{ℕ, length, sym, ap, ◌∙◌}
use Rattle.ink_text.specs.Names.{source_of}
use Rattle.ink_audit.proofs.Written.{source_written, source_unwritten}
use Rattle.ink_audit.proofs.operands.source.Goals as goal

pub returns-in_err-number : goal.returns-in_err-number
returns-in_err-number c =
    rw c.from_residual.ensures
    (λ source lt is. source_unwritten (length c.args.program.now.sources) c.args.word.now source.0 c.requires.counts.sources
    (ap (λ (n : ℕ). source_of n c.args.word.now) (sym c.len.ensures) ∙ sym c.source.ensures.named ∙ c.in_err-number.was) lt is)

pub returns : goal.returns
returns c =
    source_written (length c.args.program.now.sources) c.args.word.now c.in_ok-number.number c.requires.counts.sources
    (ap (λ (n : ℕ). source_of n c.args.word.now) (sym c.len.ensures) ∙ sym c.source.ensures.named ∙ c.in_ok-number.was)
