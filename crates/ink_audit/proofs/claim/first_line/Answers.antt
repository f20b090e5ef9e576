use Rattle.ink_audit.proofs.Common.{◌+◌, ◌∙◌, ap, ◌∷◌, List, ℕ, sym, take, lines}
use Rattle.std.proofs.lemmas.List.{take_rest}
use Rattle.ink_audit.proofs.Lines.{lines_to_feed, lines_to_end}
use Rattle.ink_audit.proofs.claim.first_line.Goals as goal

pub returns-in-Some-clause-lines : goal.returns-in-Some-clause-lines
returns-in-Some-clause-lines c =
    let text : List ℕ = c.args.text.now in
    lines_to_feed text c.in-Some.end (sym c.feed_at.ensures ∙ c.in-Some.is)
    ∙ ap (λ (l : List ℕ). take c.in-Some.end text ∷ lines l) (sym (take_rest text (c.in-Some.end + 1)))

pub returns-in-None-clause-lines : goal.returns-in-None-clause-lines
returns-in-None-clause-lines c = lines_to_end c.args.text.now c.requires (sym c.feed_at.ensures ∙ c.in-None.is)
