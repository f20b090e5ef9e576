use Rattle.ink_modes.proofs.Common.{map, string_bytes, Global, Some, sym, ap, ◌∙◌, Asked, pieces, piece_said, asked_from}
use Rattle.ink_modes.proofs.Pieces.{found_of, asked_of, none_asked, same_asked}
use Rattle.ink_modes.proofs.words.command_of.Goals as goal

pub returns-in_err-asked_from-clause-exact : goal.returns-in_err-asked_from-clause-exact
returns-in_err-asked_from-clause-exact c = λ command is.
    let words = map (string_bytes {Z = Global}) c.args.words.now in
    let asked = c.asked_from.ensures ∙ ap (λ (a : Asked). asked_from a (map piece_said (pieces words))) c.nothing.ensures in
    absurd (none_asked c.asked_from.result (record { mode = Some command.mode; flags = command.flags }) c.in_err-asked_from.was (asked ∙ asked_of words command is))

pub returns-clause-found : goal.returns-clause-found
returns-clause-found c =
    let words = map (string_bytes {Z = Global}) c.args.words.now in
    let asked = c.asked_from.ensures ∙ ap (λ (a : Asked). asked_from a (map piece_said (pieces words))) c.nothing.ensures in
    found_of words c.in_ok-asked_from.field-0 c.command.result (sym asked ∙ c.in_ok-asked_from.was) c.command.ensures.found

pub returns-clause-exact : goal.returns-clause-exact
returns-clause-exact c = λ command is.
    let words = map (string_bytes {Z = Global}) c.args.words.now in
    let asked = c.asked_from.ensures ∙ ap (λ (a : Asked). asked_from a (map piece_said (pieces words))) c.nothing.ensures in
    let same = same_asked c.asked_from.result c.in_ok-asked_from.field-0 (record { mode = Some command.mode; flags = command.flags }) c.in_ok-asked_from.was (asked ∙ asked_of words command is) in
    c.command.ensures.exact command (ap (λ (a : Asked). a.mode) same) (ap (λ (a : Asked). a.flags) same) is.allowed
