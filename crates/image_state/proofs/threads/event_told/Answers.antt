use Rattle.image_state.proofs.Common.{◌∙◌, ap, arith, Some, origin_of, by_place, HasChain}
use Rattle.image_state.proofs.ThreadWords.{event_is, value_small}
use Rattle.image_state.proofs.threads.event_told.Goals as goal

pub overflow_cast-result : goal.overflow_cast-result
overflow_cast-result c =
    let program = c.args.plan.now.accepted in
    let words = by_place program c.args.words.now in
    let chain : HasChain words c.args.thread.0 = λ none. c.if-header_word-eq0.false (c.header_word.ensures ∙ none) in
    let small = value_small program words c.program-program.ensures.accepted c.requires.image.image c.args.thread.0 c.requires.known chain in
    let is = c.header_word-else-header_word-eq0-2.ensures in
    omega (arith, small, is)

pub returns-else-header_word-eq0 : goal.returns-else-header_word-eq0
returns-else-header_word-eq0 c =
    let program = c.args.plan.now.accepted in
    let words = by_place program c.args.words.now in
    let chain : HasChain words c.args.thread.0 = λ none. c.if-header_word-eq0.false (c.header_word.ensures ∙ none) in
    let origin = c.read_origin.ensures.origin ∙ ap origin_of c.header_word-else-header_word-eq0.ensures in
    let value = c.header_word-else-header_word-eq0-2.ensures in
    (λ k. Some (record { origin = origin k; value = value k }))
    ∙ event_is program words c.program-program.ensures.accepted c.requires.image.image c.args.thread.0 c.requires.known chain
