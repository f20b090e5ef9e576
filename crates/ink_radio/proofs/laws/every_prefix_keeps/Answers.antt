use Rattle.ink_radio.proofs.Reaching.{every_prefix}
use Rattle.ink_radio.proofs.laws.every_prefix_keeps.Goals as goal

pub returns : goal.returns
returns c = every_prefix
