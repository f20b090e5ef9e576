use Rattle.ink_image.proofs.Common.{◌≡◌, ◌-◌, List, [], ◌∷◌, ℕ, length, drop, take, ap, sym, ◌∙◌, arith, length-drop, lines, nil_from_length}
use Rattle.std.proofs.lemmas.List.{take_all}
use Rattle.ink_image.proofs.Places.{first_line_at}
use Rattle.ink_image.proofs.bytes.first_line.Goals as goal

pub returns-in-empty-clause-lines : goal.returns-in-empty-clause-lines
returns-in-empty-clause-lines c =
    let text = c.args.text.now in
    let behind = c.split_at.result.1.now in
    let none : behind ≡ [] = nil_from_length behind (omega (arith, c.in-empty.len_below)) in
    let split = first_line_at text c.split_at.result.0.now behind c.line_len.result c.requires c.line_len.ensures.count c.split_at.ensures.front c.split_at.ensures.back in
    split ∙ ap (λ (x : List ℕ). c.split_at.result.0.now ∷ lines (drop 1 x)) none ∙ ap (λ (x : List ℕ). c.split_at.result.0.now ∷ lines x) (sym none)

pub returns-in-len1-up-clause-lines : goal.returns-in-len1-up-clause-lines
returns-in-len1-up-clause-lines c =
    let text = c.args.text.now in
    let behind = c.split_at.result.1.now in
    let all : take (length behind - 1) (drop 1 behind) ≡ drop 1 behind = take_all (length behind - 1) (drop 1 behind) (omega (arith, length-drop 1 behind)) in
    first_line_at text c.split_at.result.0.now behind c.line_len.result c.requires c.line_len.ensures.count c.split_at.ensures.front c.split_at.ensures.back
    ∙ ap (λ (x : List ℕ). c.split_at.result.0.now ∷ lines x) (sym all)
