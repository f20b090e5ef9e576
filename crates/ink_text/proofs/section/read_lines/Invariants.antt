use Rattle.std.proofs.Common.{◌≡◌, length}
use Rattle.ink_base.specs.Suffix.{IsSuffix}
use Rattle.ink_base.specs.TokenLines.{token_lines}
use Rattle.ink_text.specs.Section.{lines_in}
use Rattle.ink_text.proofs.section.read_lines.Given as goal

abbrev pub invariant-loop-alloc : goal.invariant-loop-alloc
invariant-loop-alloc g l = (lines_in g.S.Section.line l.section (token_lines l.text l.rest) ≡ lines_in g.S.Section.line l.fn.section (token_lines l.text l.tokens)) × IsSuffix l.rest l.tokens × g.S.Section.keeps l.section

abbrev pub decreases-loop-alloc : goal.decreases-loop-alloc
decreases-loop-alloc g l = length l.rest
