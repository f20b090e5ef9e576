use Rattle.never_cut.proofs.Common.{sym, subst, IsAccepted, CanStart, open_model}
use Rattle.never_cut.proofs.Starts.{open_starts}
use Rattle.never_cut.proofs.journal.replay.Goals as goal

pub replay_on-requires-clause-start : goal.replay_on-requires-clause-start
replay_on-requires-clause-start c =
    subst (CanStart c.args.program.now c.args.readings.now) (sym c.in_ok-start.ensures)
    (subst (λ p. CanStart p c.args.readings.now (open_model c.program.result.now)) c.program.ensures.same (open_starts c.program.result.now c.args.readings.now (subst IsAccepted (sym c.program.ensures.same) c.program.ensures.accepted) c.requires.readings.few))
