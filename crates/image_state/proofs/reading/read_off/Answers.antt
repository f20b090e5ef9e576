use Rattle.std.proofs.lemmas.Result.{IfOk-weaker}
use Rattle.image_state.proofs.Common.{by_place, IsReadOff, IsTold, Model, Stands}
use Rattle.image_state.proofs.Standing.{few_settled, off_words, words_stand}
use Rattle.image_state.proofs.reading.read_off.Goals as goal

pub model_told-requires-clause-few : goal.model_told-requires-clause-few
model_told-requires-clause-few c = few_settled c.args.plan.now.accepted c.requires.fresh.0 (by_place c.args.plan.now.accepted c.args.words.now) c.requires.fresh.1

pub returns-clause-read : goal.returns-clause-read
returns-clause-read c =
    let program = c.args.plan.now.accepted in
    let words = c.args.words.now in
    IfOk-weaker c.model_told.result (IsTold program (by_place program words)) (IsReadOff program (by_place program words))
    (λ m told. off_words program words m c.program-program.ensures.accepted c.requires.image told) c.model_told.ensures

pub returns-clause-stands : goal.returns-clause-stands
returns-clause-stands c =
    let program = c.args.plan.now.accepted in
    let words = c.args.words.now in
    IfOk-weaker c.model_told.result (IsTold program (by_place program words)) (λ (m : Model). Stands (by_place program words) program m)
    (λ m told.
    words_stand c.images_stand.ensures.stands program c.requires.fresh.0 (by_place program words) m c.program-program.ensures.accepted c.requires.image c.requires.fresh.1
    (off_words program words m c.program-program.ensures.accepted c.requires.image told)) c.model_told.ensures
