use Rattle.ink_image.proofs.Common.{List, ap, subst, ◌∙◌, words_of, token_lines, section_entries}
use Rattle.ink_base.specs.declared.token.Token.{Token}
use Rattle.ink_image.specs.declared.form.Form.{Form}
use Rattle.ink_image.specs.Form.{form_of}
use Rattle.ink_image.specs.Image.{JudgesSection, UnlessMemory}
use Rattle.ink_image.proofs.image.read_image.Goals as goal

pub returns-clause-told : goal.returns-clause-told
returns-clause-told c =
    let text = c.args.text.now in
    subst (λ (z : Form × List Token). UnlessMemory (JudgesSection z.0 c.args.program.now c.args.listed.now (section_entries (token_lines text z.1))) c.section_start.result)
    (λ i. ((c.form_of-form.ensures ∙ ap (λ (ts : List Token). form_of (words_of text ts)) c.tokens_from.ensures) i, c.tokens_from-2.ensures i)) c.section_start.ensures.told
