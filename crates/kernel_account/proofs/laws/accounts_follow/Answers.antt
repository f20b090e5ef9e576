-- The law of the account, from the lemmas on each of its parts.
use Rattle.kernel_account.proofs.Besides.{first_beside, every_entry_follows, every_cut_follows}
use Rattle.kernel_account.proofs.Growing.{every_charge_grows, every_charge_begins}
use Rattle.kernel_account.proofs.laws.accounts_follow.Goals as goal

pub returns : goal.returns
returns c = record { first = first_beside; entries = every_entry_follows; cuts = every_cut_follows; grows = every_charge_grows; begins = every_charge_begins }
