use Rattle.cut_sweep.proofs.Cuts.{cuts_take, all_is_whole, cuts_are_jobs}
use Rattle.cut_sweep.proofs.laws.cuts_take.Goals as goal

pub returns : goal.returns
returns c = record { take = cuts_take; whole = all_is_whole; jobs = cuts_are_jobs }
