-- The law, by the lemmas on each row.
use Rattle.never_cut.proofs.Finished.{one_moved, one_follows}
use Rattle.reboot.proofs.Boots.{boot_begins, boot_keeps}
use Rattle.reboot.proofs.Drifts.{boot_drifts}
use Rattle.reboot.proofs.Ends.{boot_ends}
use Rattle.reboot.proofs.Ranges.{boot_in_range}
use Rattle.reboot.proofs.laws.boot_releases.Goals as goal

pub returns-clause-begins : goal.returns-clause-begins
returns-clause-begins c = boot_begins

pub returns-clause-keeps : goal.returns-clause-keeps
returns-clause-keeps c = λ program readings words m boot b h. (boot_in_range program readings words m boot b h, boot_keeps program readings words m boot b h)

pub returns-clause-drifts : goal.returns-clause-drifts
returns-clause-drifts c = boot_drifts

pub returns-clause-stamp : goal.returns-clause-stamp
returns-clause-stamp c = λ program words m boot h. h.greatest_is

pub returns-clause-one : goal.returns-clause-one
returns-clause-one c = λ program readings words m boot b h one. record {
  own = one_moved program readings m _ b.accepted b.sound (boot_keeps program readings words m boot b h).kept.legal one;
  others = λ next f. one_follows program m next f one;
}

pub returns-clause-ends : goal.returns-clause-ends
returns-clause-ends c = boot_ends
