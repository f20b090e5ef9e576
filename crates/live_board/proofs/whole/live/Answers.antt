-- The sources are still as many as there is room for in their list.
use Rattle.std.proofs.Common.{◌≡◌, ◌++◌, List, length, take, drop, sym, ap, ◌∙◌, subst, arith}
use Rattle.std.proofs.Math.Seq.{take-append_seam}
use Rattle.job_parts.specs.Job.{JobParts}
use Rattle.irq_source.specs.Acting.{Acting}
use Rattle.live_board.specs.kept.Boards.{IsBoardAfter}
use Rattle.live_board.proofs.whole.live.Goals as goal

pub finish_live-requires-clause-board : goal.finish_live-requires-clause-board
finish_live-requires-clause-board g c =
    let parts = c.in_ok-parts.parts in
    let after = c.run_charges.ensures in
    let number : length c.run_charges.new.sources ≡ parts.sources.len =
    let before = c.in_ok-parts.ensures.board.number in
    let job = ap (λ (j : JobParts). length j.program.sources) c.in_ok-parts.ensures.job in
    let now = after.number in
    let len = parts.sources.ok in omega (arith, before, job, now, len) in
    let same : take parts.sources.len (c.run_charges.new.sources ++ drop (length c.run_charges.new.sources) parts.sources.items) ≡ c.run_charges.new.sources =
    subst (λ n. take n (c.run_charges.new.sources ++ drop (length c.run_charges.new.sources) parts.sources.items) ≡ c.run_charges.new.sources) number
    (take-append_seam c.run_charges.new.sources (drop (length c.run_charges.new.sources) parts.sources.items)) in
    subst (λ (l : List Acting). IsBoardAfter parts.job parts.set (length parts.job.charges) l c.run_charges.new.kernel c.run_charges.new.clock) (sym same) after
