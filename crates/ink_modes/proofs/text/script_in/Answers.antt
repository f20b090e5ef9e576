use Rattle.std.specs.Prelude.{◌≡◌, List, length, Result, drop}
use Rattle.std.proofs.Common.{sym, ap, ◌∙◌, subst}
use Rattle.ink_base.specs.Gives.{GivesJob, ◌>>◌}
use Rattle.ink_base.specs.Lines.{lines, lines_of}
use Rattle.ink_base.specs.TokenLines.{token_lines, with_words}
use Rattle.ink_base.specs.declared.fault.JobFault.{JobFault}
use Rattle.ink_base.specs.declared.token.Token.{Token}
use Rattle.ink_base.proofs.Sizes.{tokens_le}
use Rattle.ink_base.proofs.Whole.{whole_lines}
use Rattle.ink_radio.specs.declared.event.RadioEvent.{RadioEvent}
use Rattle.ink_radio.specs.Script.{script_in}
use Rattle.ink_modes.specs.modes.Radio.{from_radio, script_of}
use Rattle.ink_modes.specs.kept.Script.{judged_script}
use Rattle.ink_modes.proofs.Common.{arith}
use Rattle.ink_modes.proofs.text.script_in.Goals as goal

pub index_of-at-requires-clause-few : goal.index_of-at-requires-clause-few
index_of-at-requires-clause-few c = omega (arith, c.requires, tokens_le c.args.text.now c.in_ok-tokens.tokens.list.items c.in_ok-tokens.tokens.lines c.in_ok-tokens.ensures.tokens)

pub returns-clause-given : goal.returns-clause-given
returns-clause-given c =
    let text = c.args.text.now in
    let behind : token_lines text (drop c.index_of-at.result c.in_ok-tokens.tokens.list.items) ≡ from_radio (with_words (lines_of text)) =
    sym (ap (token_lines text) c.index_of-at.ensures.place)
    ∙ (c.from_radio.ensures.lines
    ∙ (ap (λ (l : List Token). from_radio (token_lines text l)) c.as_slice.ensures.value
    ∙ ap from_radio (whole_lines text c.in_ok-tokens.tokens.list.items c.in_ok-tokens.tokens.lines c.in_ok-tokens.ensures.tokens))) in
    let script : script_in (length (lines text)) (token_lines text (drop c.index_of-at.result c.in_ok-tokens.tokens.list.items)) ≡ judged_script text =
    ap (script_in (length (lines text))) behind ∙ sym (ap (λ (r : Result (Unit {0}) JobFault). r >> (λ good. script_of text)) c.in_ok-tokens.ensures.given) in
    subst (λ (r : Result (List RadioEvent) JobFault). GivesJob (λ events. events) c.read_script.result r) script c.read_script.ensures.given
