-- What a record of a whole run tells.
use Rattle.ink_modes.proofs.Common.{◌≡◌, ℕ, ◌^◌, ◌<◌, List, length, sym, ap, ◌∙◌, subst, flat_map, Entry, JobParts, IsJob, first_of, AreFirstWords, IsLegal, RunRecord, ChargeRecord, journal, setup_of, job_setup, job_prefixes_stand, board_run, entries_of, journal_in, IsRunOf}
use Rattle.never_cut.specs.Start.{CanStart}
use Rattle.never_cut.proofs.Settled.{readings_in_order}
use Rattle.never_cut.proofs.Served.{sound_turns, each_event_once}
use Rattle.never_cut.proofs.ThreadStates.{states_by_commits}
use Rattle.never_cut.proofs.Stamped.{stamps_by_commits}
use Rattle.kernel_core.specs.Scanned.{ChargesAreScanned}
use Rattle.kernel_core.specs.Answered.{ChargesArePaced}
use Rattle.kernel_core.specs.Settled.{ChargesSettle}
use Rattle.kernel_core.proofs.Growth.{run_grows, run_few, run_legal, run_journal}
use Rattle.kernel_core.proofs.Scanned.{run_scanned}
use Rattle.kernel_core.proofs.Paced.{run_paced}
use Rattle.kernel_core.proofs.Settled.{run_settles}
use Rattle.kernel_core.proofs.CostedRuns.{run_commits}

module _ (job : JobParts) (first : List ℕ) (r : RunRecord) (is : IsJob job) (image : AreFirstWords job.program job.start first) (charges : r.charges ≡ (board_run job first).charges) where
  journal_same : journal_in r ≡ journal (board_run job first)
  journal_same = ap (λ (l : List ChargeRecord). flat_map entries_of l) charges ∙ sym (run_journal (setup_of job) first job.charges)

  legal_in : IsLegal job.program job.readings (first_of job) (journal_in r)
  legal_in = subst (λ (l : List Entry). IsLegal job.program job.readings (first_of job) l) (sym journal_same) (run_legal job first is image)

  start : CanStart job.program job.readings (first_of job)
  start = (job_setup job is).start

  pub run_of : r.job ≡ job → r.words ≡ (board_run job first).words → IsRunOf job r
  run_of same words = record {
    job_is = same;
    first = first;
    image = image;
    charges = charges;
    words = words;
    stands = λ n. job_prefixes_stand job first is image n;
    grows = λ n. let g = run_grows job first is image n in (g.0, journal_same ∙ g.1);
    legal = legal_in;
    few = subst (λ (l : List Entry). length l < 2 ^ 32) (sym journal_same) (run_few job first is image);
    in_order = readings_in_order job.program job.readings (first_of job) (journal_in r) start.sound.shape.sources legal_in;
    each_once = each_event_once job.program job.readings (first_of job) (journal_in r) (sound_turns job.program job.readings (first_of job) start.sound) legal_in;
    states = states_by_commits job.program job.readings (first_of job) (journal_in r) start.sound.shape.threads;
    stamps = stamps_by_commits job.program job.readings (first_of job) (journal_in r) start.sound.stamps legal_in;
    scanned = subst (λ (l : List ChargeRecord). ChargesAreScanned l) (sym charges) (run_scanned job first is);
    paced = subst (λ (l : List ChargeRecord). ChargesArePaced (setup_of job) l) (sym charges) (run_paced job first is image);
    settled = subst (λ (l : List ChargeRecord). ChargesSettle job.program l) (sym charges) (run_settles job first is image);
    commits = run_commits job first is image;
  }
