use Rattle.ink_report.proofs.Common.{◌≡◌, ℕ, List, ◌++◌, codes, ap, ◌∙◌, append_assoc}
use Rattle.std.specs.Prelude.{decimal}
use Rattle.ink_report.proofs.lines.put_bounds_line.Goals as goal

-- a line in five parts, put behind a text one after another
in_parts : (text a b c d e : List ℕ) → text ++ a ++ b ++ c ++ d ++ e ≡ text ++ (a ++ b ++ c ++ d ++ e)
in_parts text a b c d e = simp append_assoc

pub returns : goal.returns
returns c =
    let boot = c.args.bounds.boot in
    let round = c.args.bounds.round in
    let first = c.in_ok-put_count.ensures in
    let second = c.in_ok-put_count-2.ensures ∙ ap (λ (l : List ℕ). l ++ codes " round " ++ decimal round) first in
    c.in_ok-push.ensures.items ∙ ap (λ (l : List ℕ). l ++ codes "\n") second
    ∙ in_parts c.args.out.now.items (codes "bounds boot ") (decimal boot) (codes " round ") (decimal round) (codes "\n")
