-- The law of how many scans a charge answers, from the first board on.
use Rattle.kernel_core.proofs.Paced.{every_charge_paced}
use Rattle.kernel_core.proofs.laws.charges_answer.Goals as goal

pub returns : goal.returns
returns c = record { paced = every_charge_paced }
