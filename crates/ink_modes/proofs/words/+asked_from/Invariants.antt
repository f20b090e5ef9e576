use Rattle.ink_modes.proofs.Common.{length}
use Rattle.ink_modes.proofs.words.+asked_from.Given as goal

-- proposed from what the function passes where it calls itself
abbrev pub decreases-asked_from : goal.decreases-asked_from
decreases-asked_from l = length l.words.now
