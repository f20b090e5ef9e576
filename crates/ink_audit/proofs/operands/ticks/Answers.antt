use Rattle.ink_audit.proofs.Common.{◌≡◌, decimal, sym, ap, ◌∙◌}
use Rattle.ink_audit.proofs.Written.{no_text, some_text, decimal_text, decimal_read}
use Rattle.ink_audit.proofs.operands.ticks.Goals as goal

pub returns-in_err-ok : goal.returns-in_err-ok
returns-in_err-ok c = rw c.from_residual.ensures (λ n lt is. no_text _ _ _ c.from_utf8.result c.from_utf8.ensures.cases (sym c.ok.ensures.value ∙ c.in_err-ok.was) (decimal_text n c.args.word.now lt is))

pub returns-in_err-ticks : goal.returns-in_err-ticks
returns-in_err-ticks c =
    rw c.from_residual-in_err-ticks.ensures
    (λ n lt is.
    let text = some_text _ _ c.from_utf8.result c.in_ok-ok.field-0 c.from_utf8.ensures.cases (sym c.ok.ensures.value ∙ c.in_ok-ok.was) in
    let read = decimal_read n c.in_ok-ok.field-0.now c.parse.result lt (text.0 ∙ is) c.parse.ensures.value.0 in
    let none = sym c.ok-2.ensures.value ∙ c.in_err-ticks.was in
    absurd (cc (read, none)))

pub returns-else-is_written_so : goal.returns-else-is_written_so
returns-else-is_written_so c =
    λ n lt is.
    let text = some_text _ _ c.from_utf8.result c.in_ok-ok.field-0 c.from_utf8.ensures.cases (sym c.ok.ensures.value ∙ c.in_ok-ok.was) in
    let read = decimal_read n c.in_ok-ok.field-0.now c.parse.result lt (text.0 ∙ is) c.parse.ensures.value.0 in
    let said = sym c.ok-2.ensures.value ∙ c.in_ok-ticks.was in
    let same : n ≡ c.in_ok-ticks.ticks = cc (read, said) in
    let so = c.is_written_so.ensures.1 (is ∙ ap decimal same) in
    let other = c.if-is_written_so.false in
    absurd (cc (so, other))
