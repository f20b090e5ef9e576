use Rattle.old_image.proofs.Common.{Memory, IsOldImage}
use Rattle.fram_words.specs.Steps.{place_of}
use Rattle.image_checks.specs.Board.{board}
use Rattle.old_image.specs.Failing.{IsFirstFailingOld, IsFirstOldSourceFault, OldSourcesHold, InQueues, InSources}
use Rattle.old_image.proofs.Faults.{image_of, none_map, some_map}
use Rattle.old_image.proofs.failing.failing_shared.Goals as goal

pub returns-in-Some-clause-first : goal.returns-in-Some-clause-first
returns-in-Some-clause-first c =
    let h = c.requires.private in InQueues h.code h.commit_words h.blocks h.pipes h.logs c.in-Some.ensures.first

pub returns-in-None-clause-none : goal.returns-in-None-clause-none
returns-in-None-clause-none c =
    let words : Memory = board c.args.plan.now.accepted c.args.words.now in
    none_map (OldSourcesHold c.args.plan.now.accepted words) (IsOldImage c.args.plan.now.accepted words) c.failing_old_source.result
    (λ sources. image_of c.args.plan.now.accepted words c.requires.private c.in-None.ensures.none sources) c.failing_old_source.ensures.none

pub returns-in-None-clause-first : goal.returns-in-None-clause-first
returns-in-None-clause-first c =
    let words : Memory = board c.args.plan.now.accepted c.args.words.now in
    let h = c.requires.private in
    some_map (λ place. IsFirstOldSourceFault c.args.plan.now.accepted words (place_of place)) (λ place. IsFirstFailingOld c.args.plan.now.accepted words (place_of place))
    c.failing_old_source.result (λ place fault. InSources h.code h.commit_words h.blocks h.pipes h.logs c.in-None.ensures.none fault) c.failing_old_source.ensures.first
