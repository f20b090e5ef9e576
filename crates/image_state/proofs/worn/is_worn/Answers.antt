use Rattle.image_state.proofs.Common.{sym, ◌∙◌, by_place}
use Rattle.image_state.proofs.Wears.{worn_from, worn_to}
use Rattle.image_state.proofs.worn.is_worn.Goals as goal

pub returns : goal.returns
returns c =
    let program = c.args.plan.now.accepted in
    let words = by_place program c.args.words.now in (
      λ is. worn_from program c.args.listed.now words (sym c.wears.ensures ∙ is),
      λ worn. c.wears.ensures ∙ worn_to program c.args.listed.now words worn,
    )
