-- From the core of a job to the record of its whole run.
use Rattle.std.proofs.Common.{◌≡◌, List, [], ◌∷◌, ap, ◌∙◌}
use Rattle.std.specs.List.{All}
use Rattle.std.proofs.lemmas.List.Elements.{All-nil, All-cons}
use Rattle.job_parts.specs.Job.{JobParts}
use Rattle.kernel_core.specs.declared.run_record.RunRecord.{RunRecord}
use Rattle.kernel_core.specs.Board.{Board, moved_by}
use Rattle.kernel_core.specs.Core.{View, setup_of}
use Rattle.kernel_core.specs.Listed.{run, moves}
use Rattle.std.specs.List.{AllZip}
use Rattle.ink_station.specs.Running.{IsWholeRun, AreRunsOf}
use Rattle.ink_station.specs.kept.Cores.{IsPrepared, HasNotBegun, HasRun, IsRecordOf}
use Rattle.ink_station.proofs.Pairs.{through}

-- a core of a job that has run
record IsRunCore (job : JobParts) (core : View) : Type 0 where
  prepared : View
  is_prepared : IsPrepared job prepared
  ran : HasRun prepared core

run_core : (job : JobParts) (before after : View) → IsPrepared job before → HasRun before after → IsRunCore job after
run_core job before after p h = record { prepared = before; is_prepared = p; ran = h }

whole_run : (job : JobParts) (core : View) (r : RunRecord) → IsRunCore job core → IsRecordOf core r → IsWholeRun job r
whole_run job core r c is =
    let p = c.is_prepared in
    let ran : core.board ≡ run (setup_of job) c.prepared.board.words job.charges =
    c.ran.board ∙ (λ i. moved_by (setup_of (p.job_is i)) (p.board i) (moves (p.job_is i).charges)) in
    record {
      limits = p.limits;
      job_is = is.job_is ∙ (c.ran.job_is ∙ p.job_is);
      first = c.prepared.board.words;
      image = p.image;
      charges = is.charges ∙ ap (λ (b : Board). b.charges) ran;
      words = is.words ∙ ap (λ (b : Board). b.words) ran;
    }

pub whole_runs : (jobs : List JobParts) (before after : List View) (records : List RunRecord) → AllZip IsPrepared jobs before → AllZip HasRun before after → AllZip IsRecordOf after records
    → AreRunsOf jobs records
whole_runs jobs before after records p h is =
    through IsRunCore IsRecordOf IsWholeRun jobs after records whole_run (through IsPrepared HasRun IsRunCore jobs before after run_core p h) is

not_begun : (job : JobParts) (core : View) → IsPrepared job core → HasNotBegun core
not_begun job core p = ap (λ (b : Board). b.begun) p.board

pub none_begun : (jobs : List JobParts) (cores : List View) → AllZip IsPrepared jobs cores → All HasNotBegun cores
none_begun [] [] h = All-nil HasNotBegun
none_begun [] (core ∷ cores) h = absurd h
none_begun (job ∷ jobs) [] h = absurd h
none_begun (job ∷ jobs) (core ∷ cores) h = All-cons HasNotBegun core cores (not_begun job core h.0) (none_begun jobs cores h.1)
