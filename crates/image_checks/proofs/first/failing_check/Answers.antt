use Rattle.std.proofs.Common.{IfNone, IfSome, None, Option, Some}
use Rattle.fram_words.specs.Steps.{place_of}
use Rattle.fram_words.specs.declared.place.Place.{Place}
use Rattle.never_cut.specs.Image.{IsImage}
use Rattle.image_checks.specs.Board.{board}
use Rattle.image_checks.specs.Failing.{SourcesHold, IsFirstFailing, IsFirstSourceFault, InCode, InCommitWords, InBlocks, InPipes, InLogs, InQueues, InSources}
use Rattle.image_checks.proofs.Firsts.{image_of}
use Rattle.image_checks.proofs.first.failing_check.Goals as goal

-- what is known where none is found, or where a place is
in_case : (P Q : Type 0) (found : Option Place) → IfNone found P → (P → Q) → IfNone found Q
in_case P Q None known then = then known
in_case P Q (Some place) known then = tt

in_place : (P Q : Place → Type 0) (found : Option Place) → IfSome found P → ((place : Place) → P place → Q place) → IfSome found Q
in_place P Q None known then = tt
in_place P Q (Some place) known then = then place known

pub returns-in-Some-clause-first : goal.returns-in-Some-clause-first
returns-in-Some-clause-first c = InCode c.in-Some.ensures.first

pub returns-in-Some-failing_commit_word-clause-first : goal.returns-in-Some-failing_commit_word-clause-first
returns-in-Some-failing_commit_word-clause-first c = InCommitWords c.in_default.ensures.none c.in-Some-failing_commit_word.ensures.first

pub returns-in-Some-failing_block_word-clause-first : goal.returns-in-Some-failing_block_word-clause-first
returns-in-Some-failing_block_word-clause-first c =
    InBlocks c.in_default.ensures.none c.in_default-failing_commit_word.ensures.none c.in-Some-failing_block_word.ensures.first

pub returns-in-Some-failing_pipe-clause-first : goal.returns-in-Some-failing_pipe-clause-first
returns-in-Some-failing_pipe-clause-first c =
    InPipes c.in_default.ensures.none c.in_default-failing_commit_word.ensures.none c.in_default-failing_block_word.ensures.none
    c.in-Some-failing_pipe.ensures.first

pub returns-in-Some-failing_log_word-clause-first : goal.returns-in-Some-failing_log_word-clause-first
returns-in-Some-failing_log_word-clause-first c =
    InLogs c.in_default.ensures.none c.in_default-failing_commit_word.ensures.none c.in_default-failing_block_word.ensures.none
    c.in_default-failing_pipe.ensures.none c.in-Some-failing_log_word.ensures.first

pub returns-in-Some-failing_queue-clause-first : goal.returns-in-Some-failing_queue-clause-first
returns-in-Some-failing_queue-clause-first c =
    InQueues c.in_default.ensures.none c.in_default-failing_commit_word.ensures.none c.in_default-failing_block_word.ensures.none
    c.in_default-failing_pipe.ensures.none c.in_default-failing_log_word.ensures.none c.in-Some-failing_queue.ensures.first

pub returns-clause-none : goal.returns-clause-none
returns-clause-none c =
    in_case (SourcesHold c.args.plan.now.accepted (board c.args.plan.now.accepted c.args.words.now))
    (IsImage c.args.plan.now.accepted (board c.args.plan.now.accepted c.args.words.now)) c.failing_source.result c.failing_source.ensures.none
    (image_of c.args.plan.now.accepted (board c.args.plan.now.accepted c.args.words.now) c.in_default.ensures.none c.in_default-failing_commit_word.ensures.none
    c.in_default-failing_block_word.ensures.none c.in_default-failing_pipe.ensures.none c.in_default-failing_log_word.ensures.none
    c.in_default-failing_queue.ensures.none)

pub returns-clause-first : goal.returns-clause-first
returns-clause-first c =
    in_place (λ p. IsFirstSourceFault c.args.plan.now.accepted (board c.args.plan.now.accepted c.args.words.now) (place_of p))
    (λ p. IsFirstFailing c.args.plan.now.accepted (board c.args.plan.now.accepted c.args.words.now) (place_of p)) c.failing_source.result c.failing_source.ensures.first (λ place fault.
    InSources c.in_default.ensures.none c.in_default-failing_commit_word.ensures.none c.in_default-failing_block_word.ensures.none
    c.in_default-failing_pipe.ensures.none c.in_default-failing_log_word.ensures.none c.in_default-failing_queue.ensures.none fault)
