use Rattle.image_checks.specs.Board.{board}
use Rattle.image_checks.proofs.LogWords.{outputs_fit}
use Rattle.image_checks.proofs.logs.failing_log_word.Goals as goal

pub failing_output_word-requires-clause-fit : goal.failing_output_word-requires-clause-fit
failing_output_word-requires-clause-fit c = outputs_fit c.args.plan.now.accepted (board c.args.plan.now.accepted c.args.words.now) c.requires.blocks
