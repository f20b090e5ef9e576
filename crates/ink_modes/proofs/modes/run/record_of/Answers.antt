use Rattle.ink_modes.proofs.Common.{◌≡◌, ap, ◌∙◌, Board, moved_by, setup_of, board_run}
use Rattle.kernel_core.specs.Listed.{moves}
use Rattle.ink_modes.proofs.Runs.{run_of}
use Rattle.ink_modes.proofs.modes.run.record_of.Goals as goal

pub returns : goal.returns
returns c =
    let e = c.in_ok-core.ensures in
    let ran : c.run.new.self.board ≡ board_run c.args.job c.in_ok-core.core.board.words =
    c.run.ensures.board ∙ (λ i. moved_by (setup_of (e.job i)) (e.board i) (moves (e.job i).charges)) in
    run_of c.args.job c.in_ok-core.core.board.words c.into_record.result e.limits e.image
    (c.into_record.ensures.charges ∙ ap (λ (b : Board). b.charges) ran)
    (c.into_record.ensures.job ∙ (c.run.ensures.job ∙ e.job))
    (c.into_record.ensures.words ∙ ap (λ (b : Board). b.words) ran)
