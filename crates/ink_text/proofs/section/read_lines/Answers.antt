use Rattle.std.proofs.Common.{◌≡◌, [], Ok, sym, ap, ◌∙◌}
use Rattle.std.proofs.lemmas.Bool.{eqb-true}
use Rattle.std.proofs.lemmas.List.{nil_from_length}
use Rattle.ink_base.specs.TokenLines.{token_lines}
use Rattle.ink_base.proofs.Suffix.{IsSuffix-then}
use Rattle.ink_text.specs.Section.{lines_in}
use Rattle.ink_text.proofs.Lines.{header_ends, line_fails, line_more, lines_end}
use Rattle.ink_text.proofs.section.read_lines.Goals as goal

pub returns-then-is_header-clause-given : goal.returns-then-is_header-clause-given
returns-then-is_header-clause-given g c =
    let first = c.split_line-number.ensures.line c.args.text.now in
    rw first (header_ends g.S.Section.line c.loop-alloc.section _ _ _ (sym c.is_header.ensures ∙ c.if-is_header.true)
    (ap (lines_in g.S.Section.line c.loop-alloc.section) (sym first) ∙ c.loop-alloc.invariant.0))

pub returns-in-Err-clause-given : goal.returns-in-Err-clause-given
returns-in-Err-clause-given g c =
    line_fails g.S.Section.line c.loop-alloc.section _ _ _ c.in-Err.e (sym c.is_header.ensures ∙ c.if-is_header.false)
    (ap (lines_in g.S.Section.line c.loop-alloc.section) (sym (c.split_line-number.ensures.line c.args.text.now)) ∙ c.loop-alloc.invariant.0) c.in-Err.ensures.given

pub loop-alloc-preserved : goal.loop-alloc-preserved
loop-alloc-preserved g c = (
  line_more g.S.Section.line c.loop-alloc.section _ _ _ c.judged_line.new.section (sym c.is_header.ensures ∙ c.if-is_header.false)
      (ap (lines_in g.S.Section.line c.loop-alloc.section) (sym (c.split_line-number.ensures.line c.args.text.now)) ∙ c.loop-alloc.invariant.0) c.in_default.ensures.given,
  IsSuffix-then c.split_line-number.result.2.now c.loop-alloc.rest.now c.args.tokens.now c.split_line-number.ensures.suffix c.loop-alloc.invariant.1,
  c.in_default.ensures.kept,
)

pub returns-clause-given : goal.returns-clause-given
returns-clause-given g c =
    let none : c.loop-alloc.rest.now ≡ [] = nil_from_length c.loop-alloc.rest.now (eqb-true _ _ (sym c.is_empty.ensures ∙ c.loop-alloc-test.false)) in
    sym c.loop-alloc.invariant.0 ∙ ap (λ ts. lines_in g.S.Section.line c.loop-alloc.section (token_lines c.args.text.now ts)) none ∙ lines_end g.S.Section.line c.loop-alloc.section
    ∙ ap (λ ts. Ok (c.loop-alloc.section, token_lines c.args.text.now ts)) (sym none)
