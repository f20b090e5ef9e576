use Rattle.ink_modes.proofs.Common.{◌≡◌, List, sym, ◌∙◌, subst, All, RunRecord, IsRunOf}
use Rattle.std.specs.List.{AllZip}
use Rattle.ink_modes.specs.declared.given.Given.{Given}
use Rattle.ink_modes.specs.declared.finish.Record.TheVariants.{Station}
use Rattle.ink_modes.specs.modes.Station.{Makes}
use Rattle.ink_modes.proofs.Stations.{IsOwnRun, own_runs, runs_of}
use Rattle.ink_modes.proofs.modes.station.make.Goals as goal

pub boards_text-requires : goal.boards_text-requires
boards_text-requires g c =
    let jobs = c.into_boards.result.items in
    let records = c.in_ok-station.field-0.items in
    (c.type_bounds.sync-R, subst (All IsOwnRun) (sym (c.as_slice.ensures ∙ c.from_vec-records.ensures)) (own_runs jobs records (runs_of jobs records c.in_ok-station.ensures)))

pub returns-clause-record : goal.returns-clause-record
returns-clause-record g c =
    let jobs = c.into_boards.result.items in
    let records = c.in_ok-station.field-0.items in
    subst (λ (given : Given). Makes given (Station c.from_vec-records.result)) (sym c.into_boards.ensures.is)
    (subst (λ (l : List RunRecord). AllZip IsRunOf jobs l) (sym c.from_vec-records.ensures) (runs_of jobs records c.in_ok-station.ensures))
