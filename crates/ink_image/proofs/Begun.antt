-- A job that begins at a start that is ready is a job.
use Rattle.ink_image.proofs.Common.{◌≡◌, ℕ, ◌+◌, ◌<◌, ◌≤◌, ◌^◌, List, [], ◌++◌, length, get_or, replicate, Some, sym, ap, ◌∙◌, subst, inl, inr, arith, length-append, Program, Start, Charge, JobParts, IsJob, behind_settled, listed_of, job_from, IsReady, words_in}
use Rattle.std.specs.List.{All}
use Rattle.std.proofs.lemmas.List.{get_or-map, length-replicate}
use Rattle.std.proofs.lemmas.List.Elements.{All-append, All-replicate}
use Rattle.std.proofs.lemmas.Bool.{cases_lt}
use Rattle.ink_base.specs.declared.limits.TheConstants as limits
use Rattle.push_core.specs.Queue.{Source}
use Rattle.never_cut.specs.State.{source_of, no_source}
use Rattle.never_cut.specs.ReadOff.{told_source}
use Rattle.never_cut.specs.Worn.{ManyReadings}
use Rattle.job_parts.specs.Job.{AreReadings, IsStart}
use Rattle.ink_image.proofs.Behind.{length-behind, behind_at}

module _ (job : JobParts) (start : Start) (is : IsJob job) (ready : IsReady job.program (listed_of job) start) where
  as_many : length start.model.sources ≡ length job.readings
  as_many = ready.read.shape.sources ∙ sym is.sources

  -- how many readings the state has settled of a source
  settled : ℕ → ℕ
  settled i = (source_of start.model i).next

  lists : List (List ℕ)
  lists = behind_settled start.model.sources job.readings

  list_at : (i : ℕ) (d : List ℕ) → i < length job.readings → get_or lists i d ≡ replicate (settled i) 0 ++ get_or job.readings i d
  unfolding settled lists
  list_at i d lt = behind_at start.model.sources job.readings i no_source d d (omega (arith, as_many)) as_many

  listed_at : (i : ℕ) (d : List ℕ) → i < length job.readings → get_or (listed_of job) i 0 ≡ length (get_or job.readings i d)
  listed_at i d lt = get_or-map (λ (values : List ℕ). length values) job.readings i d 0 lt

  length-list : (i : ℕ) (d : List ℕ) → i < length job.readings → length (replicate (settled i) 0 ++ get_or job.readings i d) ≡ settled i + get_or (listed_of job) i 0
  length-list i d lt = omega (arith, length-append (replicate (settled i) 0) (get_or job.readings i d), length-replicate {A = ℕ} (settled i) 0, listed_at i d lt)

  -- since the image isn't worn, they fit
  few : (i : ℕ) → i < length job.readings → settled i + get_or (listed_of job) i 0 ≤ limits.READINGS
  unfolding settled
  few i lt =
      let told : (source_of start.model i).next ≡ (told_source job.program (words_in job.program start) i).next =
      ap (λ (s : Source). s.next) (ready.read.sources i (omega (arith, is.sources))) in
      elim (cases_lt limits.READINGS ((source_of start.model i).next + get_or (listed_of job) i 0)) [
        | inl many ↦ absurd (ready.fresh (ManyReadings i (omega (arith, is.sources)) (omega arith)))
        | inr fits ↦ omega arith
      ]

  list_right : (i : ℕ) (d : List ℕ) → i < length job.readings → AreReadings (replicate (settled i) 0 ++ get_or job.readings i d)
  list_right i d lt = record {
    count = omega (arith, length-list i d lt, few i lt);
    below = All-append (λ value. value < 2 ^ 32) (replicate (settled i) 0) (get_or job.readings i d) (All-replicate (λ value. value < 2 ^ 32) (settled i) 0 (omega arith)) (is.readings i d lt).below;
  }

  lists_right : All AreReadings lists
  unfolding lists
  lists_right i d lt =
      let here : i < length job.readings = omega (arith, length-behind start.model.sources job.readings as_many) in
      subst AreReadings (sym (list_at i d here)) (list_right i d here)

  begins : IsStart job.program lists start
  unfolding settled lists
  begins = record {
    count = ready.count;
    image = ready.image;
    read = ready.read;
    listed = listed_of job;
    are_listed = λ i lt. let here : i < length job.readings = omega (arith, is.sources) in ap (λ (xs : List ℕ). length xs) (list_at i [] here) ∙ length-list i [] here;
    fresh = ready.fresh;
  }

  pub begun : IsJob (job_from job start)
  unfolding lists
  begun = record {
    accepted = is.accepted;
    sources = length-behind start.model.sources job.readings as_many ∙ is.sources;
    readings = lists_right;
    charges = is.charges;
    start = λ s same. subst (IsStart job.program (behind_settled start.model.sources job.readings)) (let e : Some start ≡ Some s = same in cc) begins;
  }

-- so it is by its parts
pub begun_of : (job : JobParts) (start : Start) (program : Program) (readings : List (List ℕ)) (charges : List Charge) → IsJob job → IsReady job.program (listed_of job) start →
    program ≡ job.program → readings ≡ behind_settled start.model.sources job.readings → charges ≡ job.charges →
    IsJob (record { program = program; readings = readings; charges = charges; start = Some start })
begun_of job start program readings charges is ready p r c =
    subst IsJob (λ i. record { program = sym p i; readings = sym r i; charges = sym c i; start = Some start }) (begun job start is ready)
