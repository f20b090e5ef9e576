-- Each job can be divided behind any of its charges.
use Rattle.going_on.proofs.Common.{◌≡◌, ℕ, zero, suc, ◌<◌, List, [], ◌∷◌, ◌++◌, length, refl, ap, ◌∙◌, subst, arith, Readings, readings_of, SourceModel, no_source, get_or, Charge, JobParts, IsJob, AreFirstWords, Model, state, memory, shape, EveryJobDivides, Division, IsDivided, IsSplit, all_behind, behind_settled, divided, state_left, without_scan}
use Rattle.fram_words.specs.Places.{Memory}
use Rattle.fram_words.specs.Shape.{memory_of}
use Rattle.job_parts.specs.Job.{words_in}
use Rattle.never_cut.specs.ReadOff.{IsReadOff}
use Rattle.going_on.proofs.Wholes.{s, at_split}
use Rattle.going_on.proofs.Starts.{read_there, split_words, split_state}

-- as many lists of readings as sources, and each behind those that its source has settled
behind_count : (sources : List SourceModel) (readings : Readings) → length (all_behind sources readings) ≡ length sources
behind_count [] readings = refl
behind_count (x ∷ sources) [] = let more = behind_count sources [] in omega (arith, more)
behind_count (x ∷ sources) (values ∷ readings) = let more = behind_count sources readings in omega (arith, more)

behind_each : (sources : List SourceModel) (readings : Readings) (i : ℕ) → i < length sources →
    readings_of (all_behind sources readings) i ≡ behind_settled (get_or sources i no_source).next (readings_of readings i)
behind_each [] readings i lt = absurd (omega arith)
behind_each (x ∷ sources) [] zero lt = refl
behind_each (x ∷ sources) [] (suc i) lt = behind_each sources [] i (omega arith)
behind_each (x ∷ sources) (values ∷ readings) zero lt = refl
behind_each (x ∷ sources) (values ∷ readings) (suc i) lt = behind_each sources readings i (omega arith)

module _ (job : JobParts) (words : List ℕ) (front back : List Charge) (is : IsJob job) (first : AreFirstWords job.program job.start words)
    (charges : job.charges ≡ front ++ back) where
  abbrev d : Division
  d = divided job words front back

  split : IsSplit d
  split = record { job = is; words = first; charges = charges }

  state_is : without_scan (state (s d) (at_split d)) ≡ state_left job words front
  state_is = ap without_scan (split_state d split)

  memory_is : memory (s d) (at_split d) ≡ words_in job.program d.start
  memory_is = ap (λ (w : List ℕ). memory_of (shape (s d)) w) (split_words d split)

  read : IsReadOff job.program (words_in job.program d.start) (state_left job words front)
  read = subst (λ (z : Memory × Model). IsReadOff job.program z.0 z.1) (λ k. (memory_is k, state_is k)) (read_there d split)

  sources_are : length (state_left job words front).sources ≡ length job.program.sources
  sources_are = read.shape.sources

  is_divided : IsDivided d
  is_divided = record {
    split = split;
    left = refl;
    read = read;
    sources = behind_count (state_left job words front).sources job.readings ∙ sources_are;
    readings = λ i lt. behind_each (state_left job words front).sources job.readings i (omega (arith, sources_are));
  }

pub every_job_divides : EveryJobDivides
every_job_divides job words front back is first charges = is_divided job words front back is first charges
