-- The law of how long a boot takes, from the lemma on each of its accesses.
use Rattle.reboot.proofs.LeftFalls.{every_boot_ends}
use Rattle.reboot.proofs.laws.boots_end.Goals as goal

pub returns : goal.returns
returns c = record { ends = every_boot_ends }
