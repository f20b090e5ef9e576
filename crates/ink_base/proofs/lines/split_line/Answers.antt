use Rattle.ink_base.proofs.Common.{get_or, arith}
use Rattle.ink_base.proofs.Grouped.{cut, some_prefix, line_prefix_le}
use Rattle.ink_base.proofs.Suffix.{IsSuffix-drop}
use Rattle.ink_base.proofs.lines.split_line.Goals as goal

pub split_at-requires : goal.split_at-requires
split_at-requires c = omega (arith, c.line_len.ensures, line_prefix_le (get_or c.args.tokens.now 0 (record { line = 0; start = 0; stop = 0 })).line c.args.tokens.now)

pub returns-clause-line : goal.returns-clause-line
returns-clause-line c = λ text. rw (c.split_at.ensures.front, c.split_at.ensures.back) (cut text c.args.tokens.now _ c.line_len.result c.requires c.line_len.ensures)

pub returns-clause-shorter : goal.returns-clause-shorter
returns-clause-shorter c = omega (arith, c.split_at.ensures.back_len, some_prefix c.args.tokens.now _ c.line_len.result c.requires c.line_len.ensures)

pub returns-clause-suffix : goal.returns-clause-suffix
returns-clause-suffix c =
    rw c.split_at.ensures.back (IsSuffix-drop c.line_len.result c.args.tokens.now (omega (arith, c.line_len.ensures, line_prefix_le (get_or c.args.tokens.now 0 (record { line = 0; start = 0; stop = 0 })).line c.args.tokens.now)))
