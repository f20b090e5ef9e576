-- A run can begin at the state of the first image.
use Rattle.std.proofs.Common.{sym, subst}
use Rattle.never_cut.specs.Start.{CanStart}
use Rattle.never_cut.proofs.Starts.{open_starts}
use Rattle.board_rows.proofs.never_cut_rows.after_first.Goals as goal

pub replay_from-requires-clause-start : goal.replay_from-requires-clause-start
replay_from-requires-clause-start c =
    subst (CanStart c.args.program.now c.args.readings.now) (sym c.in_ok-first.ensures.state)
    (open_starts c.args.program.now c.args.readings.now c.requires.accepted c.requires.readings.few)
