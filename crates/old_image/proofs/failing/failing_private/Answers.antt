use Rattle.old_image.proofs.Common.{Memory}
use Rattle.fram_words.specs.Steps.{place_of}
use Rattle.image_checks.specs.Board.{board}
use Rattle.image_checks.specs.Failing.{IsFirstLogFault}
use Rattle.old_image.specs.Failing.{IsFirstFailingOld, InCode, InCommitWords, InBlocks, InPipes, InLogs}
use Rattle.old_image.proofs.Faults.{none_map, old_outputs_fit, some_map}
use Rattle.old_image.proofs.failing.failing_private.Goals as goal

pub returns-in-Some-clause-first : goal.returns-in-Some-clause-first
returns-in-Some-clause-first c = InCode c.in-Some.ensures.first

pub returns-in-Some-failing_commit_word-clause-first : goal.returns-in-Some-failing_commit_word-clause-first
returns-in-Some-failing_commit_word-clause-first c = InCommitWords c.in_default.ensures.none c.in-Some-failing_commit_word.ensures.first

pub returns-in-Some-failing_old_block-clause-first : goal.returns-in-Some-failing_old_block-clause-first
returns-in-Some-failing_old_block-clause-first c =
    InBlocks c.in_default.ensures.none c.in_default-failing_commit_word.ensures.none c.in-Some-failing_old_block.ensures.first

pub returns-in-Some-failing_pipe-clause-first : goal.returns-in-Some-failing_pipe-clause-first
returns-in-Some-failing_pipe-clause-first c =
    InPipes c.in_default.ensures.none c.in_default-failing_commit_word.ensures.none c.in_default-failing_old_block.ensures.none c.in-Some-failing_pipe.ensures.first

pub failing_output_word-requires-clause-fit : goal.failing_output_word-requires-clause-fit
failing_output_word-requires-clause-fit c =
    old_outputs_fit c.args.plan.now.accepted (board c.args.plan.now.accepted c.args.words.now) c.in_default-failing_old_block.ensures.none

pub returns-clause-first : goal.returns-clause-first
returns-clause-first c =
    let words : Memory = board c.args.plan.now.accepted c.args.words.now in
    some_map (λ place. IsFirstLogFault c.args.plan.now.accepted words (place_of place)) (λ place. IsFirstFailingOld c.args.plan.now.accepted words (place_of place))
    c.failing_output_word.result
    (λ place fault.
    InLogs c.in_default.ensures.none c.in_default-failing_commit_word.ensures.none c.in_default-failing_old_block.ensures.none c.in_default-failing_pipe.ensures.none fault)
    c.failing_output_word.ensures.first
