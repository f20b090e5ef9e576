-- The states of the second part are those of the whole, and both parts are jobs.
use Rattle.going_on.proofs.Common.{◌≡◌, inl, ℕ, ◌<◌, ◌≤◌, List, length, refl, sym, ap, ◌∙◌, subst, arith, All-get_or, Entry, Model, SourceModel, readings_of, after, IsLegal, AreReadings, IsJob, Board, journal, state, setup_of, AreJobs, StandsAsWhole, StartsFromWhole, Division, IsDivided, first_run, second_after, second_part, whole_after, unmarked, without_scan, map, [], ◌∷◌, Some, Start, zero, suc, true, false, get_or, no_source, ContinuesWhole, FollowsFirst}
use Rattle.fram_words.specs.Places.{Memory}
use Rattle.job_parts.specs.Job.{IsStart, words_in}
use Rattle.never_cut.specs.Image.{IsImage}
use Rattle.never_cut.specs.Images.{AreListed}
use Rattle.never_cut.specs.Worn.{IsWorn}
use Rattle.kernel_core.proofs.JobMoves.{job_prefixes_stand}
use Rattle.going_on.proofs.Rises.{IsAlike}
use Rattle.going_on.proofs.Alike.{after_alike}
use Rattle.going_on.proofs.PartJobs.{settled_right, all_right}
use Rattle.going_on.proofs.Wholes.{s, at_split, whole_is, holds, front_job, back_job}
use Rattle.going_on.proofs.Starts.{stands_at, start_is, start_words, start_memory, split_journal, split_state, floor, floor_within, lengths_are, agree_from, after_both, legal_both}
use Rattle.going_on.proofs.Ends.{same_journal}

module _ (d : Division) (h : IsDivided d) where
  -- the marks are gone already
  twice_without : without_scan d.start.model ≡ d.start.model
  twice_without = ap without_scan (start_is d h) ∙ (again (state (s d) (at_split d)) ∙ sym (start_is d h))
    where
      again : (m : Model) → without_scan (without_scan m) ≡ without_scan m
      again m = ap (λ (l : List SourceModel). record (without_scan m) { sources = l }) (same m.sources)
        where
          same : (xs : List SourceModel) → map unmarked (map unmarked xs) ≡ map unmarked xs
          same [] = refl
          same (x ∷ xs) = ap (λ l. unmarked x ∷ l) (same xs)

  -- and the start has none of either
  no_marks : (xs : List SourceModel) (i : ℕ) → (get_or (map unmarked xs) i no_source).refused ≡ false
  no_marks [] i = refl
  no_marks (x ∷ xs) zero = refl
  no_marks (x ∷ xs) (suc i) = no_marks xs i

  starts_alike : IsAlike (state (s d) (at_split d)) d.start.model
  starts_alike = record {
    same = sym (start_is d h) ∙ sym twice_without;
    scan = inl (ap (λ (m : Model). m.scan) (start_is d h));
    marks = λ i is. absurd
        (let clash : true ≡ false = sym is ∙
        (ap (λ (m : Model). (get_or m.sources i no_source).refused) (start_is d h) ∙ no_marks (state (s d) (at_split d)).sources i) in cc);
  }

  -- what follows the start legally follows where the first part ends
  follows : (entries : List Entry) → IsLegal d.job.program d.readings d.start.model entries →
      IsLegal d.job.program d.job.readings (state (s d) (at_split d)) entries
      × IsAlike (after d.job.program d.job.readings (state (s d) (at_split d)) entries) (after d.job.program d.readings d.start.model entries)
  follows entries legal =
      after_alike d.job.program d.job.readings d.readings (floor d h) (agree_from d h) (lengths_are d h)
      (state (s d) (at_split d)) d.start.model entries starts_alike (λ i. omega arith) legal

  follows_first : (entries : List Entry) → IsLegal d.job.program d.readings d.start.model entries → FollowsFirst d entries
  follows_first entries legal =
      let both = follows entries legal in
      record {
        legal = legal_both d.job.program d.job.readings (s d).first (journal (first_run d)) entries
            (subst (λ l. IsLegal d.job.program d.job.readings (s d).first l) (split_journal d h.split) (stands_at d h.split 0).legal)
            (subst (λ (m : Model). IsLegal d.job.program d.job.readings m entries) (split_state d h.split) both.0);
        state_is =
            sym both.1.same
            ∙ (ap (λ (m : Model). without_scan (after d.job.program d.job.readings m entries)) (split_state d h.split)
            ∙ ap without_scan (sym (after_both d.job.program d.job.readings (s d).first (journal (first_run d)) entries)));
      }

  stands_as : IsJob (second_part d) → (n : ℕ) → without_scan (state (setup_of (second_part d)) (second_after d n))
      ≡ without_scan (state (setup_of d.job) (whole_after d n))
  stands_as job n =
      (follows_first (journal (second_after d n)) (job_prefixes_stand (second_part d) d.start.words job refl n).legal).state_is
      ∙ ap (λ (l : List Entry). without_scan (after d.job.program d.job.readings (s d).first l))
      (sym (same_journal d h n) ∙ ap journal (sym (whole_is d h.split n)))

  second_job : (listed : List ℕ) → 1 ≤ length d.back → AreListed d.job.program listed d.start.model d.readings →
      ¬ IsWorn d.job.program listed (words_in d.job.program d.start) → IsJob (second_part d)
  second_job listed some are fresh = record {
    accepted = h.split.job.accepted;
    sources = h.sources;
    readings = all_right d.readings (λ i lt.
        let there : i < length d.job.program.sources = let e = h.sources in omega arith in
        subst AreReadings (sym (h.readings i there))
        (settled_right (floor d h i) (readings_of d.job.readings i) (floor_within d h i there)
        (All-get_or AreReadings d.job.readings i [] (let e = h.split.job.sources in omega arith) h.split.job.readings)));
    charges = (back_job d h.split some).charges;
    start = λ start is.
        subst (λ x. IsStart d.job.program d.readings x) (some_is d.start start is)
        (record {
          count = ap (λ (w : List ℕ). length w) (sym (start_words d h)) ∙ (holds d h.split 0).size.words;
          image = subst (λ (w : Memory). IsImage d.job.program w) (start_memory d h) (stands_at d h.split 0).image;
          read = h.read;
          listed = listed;
          are_listed = are;
          fresh = fresh;
        });
  }
    where
      some_is : (x y : Start) → Some x ≡ Some y → x ≡ y
      some_is x y is = cc

pub starts_from_whole : StartsFromWhole
starts_from_whole d h = start_is d h ∙ ap (λ (b : Board). without_scan (state (s d) b)) (sym (whole_is d h.split 0))

pub continues_whole : ContinuesWhole
continues_whole d h entries legal = follows_first d h entries legal

pub stands_as_whole : StandsAsWhole
stands_as_whole d h job n = stands_as d h job n

pub are_jobs : AreJobs
are_jobs d h = (front_job d h.split, λ listed some are fresh. second_job d h listed some are fresh)
