use Rattle.std.proofs.Common.{◌≡◌, ℕ, List, length, Ok, sym, ap, ◌∙◌, arith}
use Rattle.ink_base.specs.Tokens.{AreTokens}
use Rattle.ink_base.specs.TokenLines.{token_lines}
use Rattle.ink_base.specs.Lines.{lines}
use Rattle.ink_base.specs.declared.token.Token.{Token}
use Rattle.ink_base.proofs.Failing.{Answers-same}
use Rattle.ink_base.proofs.Sizes.{tokens_le, count_le}
use Rattle.ink_base.proofs.Whole.{whole_lines}
use Rattle.task_asm.specs.Section.{program_in, program_at}
use Rattle.task_asm.proofs.section.read_program.Goals as goal

same_program : (text : List ℕ) (tokens all : List Token) (count : ℕ) → AreTokens text tokens count → all ≡ tokens → program_in count (token_lines text all) ≡ program_at text
same_program text tokens all count are same =
    ap (λ (ts : List Token). program_in count (token_lines text ts)) same
    ∙ ap (λ n. program_in n (token_lines text tokens)) are.lines
    ∙ ap (program_in (length (lines text))) (whole_lines text tokens count are)

pub program-requires : goal.program-requires
program-requires c = omega (arith, c.requires.short, count_le c.args.text.now c.args.tokens.now.list.items c.args.tokens.now.lines c.requires.tokens)

pub index_of-requires-clause-few : goal.index_of-requires-clause-few
index_of-requires-clause-few c = omega (arith, c.requires.short, tokens_le c.args.text.now c.args.tokens.now.list.items c.args.tokens.now.lines c.requires.tokens)

pub returns-in-Ok-clause-given : goal.returns-in-Ok-clause-given
returns-in-Ok-clause-given c =
    sym (same_program c.args.text.now c.args.tokens.now.list.items c.as_slice.result.now c.args.tokens.now.lines c.requires.tokens c.as_slice.ensures.value) ∙ c.in-Ok.ensures.given
    ∙ ap (λ (ts : List Token). Ok (c.in-Ok.program, c.in-Ok.lines, token_lines c.args.text.now ts)) c.index_of.ensures.place

pub returns-in-Err-clause-given : goal.returns-in-Err-clause-given
returns-in-Err-clause-given c =
    Answers-same c.in-Err.e _ _ (same_program c.args.text.now c.args.tokens.now.list.items c.as_slice.result.now c.args.tokens.now.lines c.requires.tokens c.as_slice.ensures.value) c.in-Err.ensures.given
