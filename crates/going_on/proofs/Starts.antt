-- The second part begins with the state that the whole has there, and its readings are those that are left.
use Rattle.going_on.proofs.Common.{◌≡◌, inl, inr, ℕ, ◌+◌, ◌<◌, ◌≤◌, List, [], ◌∷◌, ◌++◌, length, Option, Some, None, refl, sym, ap, ◌∙◌, subst, arith, slice_index, All, append-nil, cases_lt, get_or_past, Entry, Program, Model, IsSound, Readings, SourceModel, source_of, readings_of, effect, after, IsLegal, Start, Board, journal, journal_of, state, memory, shape, BoardStands, Division, IsDivided, IsSplit, first_run, without_scan}
use Rattle.std.specs.Option.{ForSome}
use Rattle.fram_words.specs.Places.{Memory}
use Rattle.fram_words.specs.Shape.{memory_of}
use Rattle.job_parts.specs.Job.{IsStart, first_model, words_in}
use Rattle.never_cut.specs.ReadOff.{IsOutputOf, IsReadOff}
use Rattle.never_cut.proofs.SoundStates.{sound_after}
use Rattle.kernel_core.proofs.Standing.{board_stands}
use Rattle.going_on.proofs.Rises.{AgreeFrom, rises_after}
use Rattle.going_on.proofs.Alike.{image_at}
use Rattle.going_on.proofs.ReadStates.{outputs_known, reads, is_read}
use Rattle.going_on.proofs.Parts.{joined_journal}
use Rattle.going_on.proofs.PartJobs.{settled_length, settled_at}
use Rattle.going_on.proofs.Wholes.{s, count, at_split, behind, unbegun, whole_setup, holds, lasts, more_entries, split_is, first_begun}

-- entries one after the other
pub after_both : (program : Program) (readings : Readings) (m : Model) (xs ys : List Entry) →
    after program readings m (xs ++ ys) ≡ after program readings (after program readings m xs) ys
after_both program readings m [] ys = refl
after_both program readings m (e ∷ xs) ys = after_both program readings (effect program readings m e) xs ys

pub legal_both : (program : Program) (readings : Readings) (m : Model) (xs ys : List Entry) → IsLegal program readings m xs →
    IsLegal program readings (after program readings m xs) ys →
    IsLegal program readings m (xs ++ ys)
legal_both program readings m [] ys first more = more
legal_both program readings m (e ∷ xs) ys first more = (first.0, legal_both program readings (effect program readings m e) xs ys first.1 more)

module _ (d : Division) (h : IsSplit d) where
  pub stands_at : (n : ℕ) → BoardStands (s d) (behind d n)
  stands_at n = board_stands (s d) (count d) (behind d n) (whole_setup d h) (holds d h n) (lasts d h n)

  pub sound_at : (n : ℕ) → IsSound d.job.program d.job.readings (state (s d) (behind d n))
  sound_at n = sound_after d.job.program d.job.readings (s d).first (journal (behind d n)) (whole_setup d h).accepted (whole_setup d h).short
      (whole_setup d h).start.sound (stands_at n).legal

  -- the first state's outputs are of threads of the program
  first_known : (start : Option Start) → ForSome start (IsStart d.job.program d.job.readings) →
      All (IsOutputOf d.job.program) (first_model d.job.program start).outputs
  first_known None is = λ k o lt. absurd (omega arith)
  first_known (Some start) is = (is start refl).read.outputs

  known_at : (n : ℕ) → All (IsOutputOf d.job.program) (state (s d) (behind d n)).outputs
  known_at n =
      outputs_known d.job.program d.job.readings (s d).first (journal (behind d n)) (whole_setup d h).start.sound (first_known d.job.start h.job.start)
      (stands_at n).legal (sound_at n)

  -- the words where the first part ends tell the whole's state there
  pub read_there : IsReadOff d.job.program (memory (s d) (at_split d)) (without_scan (state (s d) (at_split d)))
  read_there =
      is_read d.job.program d.job.readings (memory (s d) (at_split d)) (state (s d) (at_split d)) (whole_setup d h).accepted (sound_at 0) (lasts d h 0)
      (stands_at 0).stands (known_at 0)

  -- and no other
  pub reads_there : (m : Model) → IsReadOff d.job.program (memory (s d) (at_split d)) m → m ≡ without_scan (state (s d) (at_split d))
  reads_there m read =
      reads d.job.program d.job.readings (memory (s d) (at_split d)) (state (s d) (at_split d)) (whole_setup d h).accepted (sound_at 0) (lasts d h 0)
      (stands_at 0).stands (known_at 0) m read

  -- words and journal are the first part's
  pub split_words : (at_split d).words ≡ (first_run d).words
  split_words = ap (λ (b : Board). b.words) (split_is d h)

  pub split_charges : (at_split d).charges ≡ (first_run d).charges ++ unbegun d d.back
  split_charges = ap (λ (b : Board). b.charges) (split_is d h)

  pub split_begun : (at_split d).begun ≡ length (first_run d).charges + 0
  split_begun = let is = ap (λ (b : Board). b.begun) (split_is d h) in omega (arith, is, first_begun d h)

  pub split_journal : journal (at_split d) ≡ journal (first_run d)
  split_journal =
      (λ k. journal_of (split_charges k) (split_begun k))
      ∙ (joined_journal (first_run d).charges (unbegun d d.back) 0
      ∙ (append-nil (journal_of (first_run d).charges (length (first_run d).charges)) ∙ ap (λ n. journal_of (first_run d).charges n) (sym (first_begun d h))))

  pub split_state : state (s d) (at_split d) ≡ state (s d) (first_run d)
  split_state = ap (λ l. after d.job.program d.job.readings (s d).first l) split_journal

module _ (d : Division) (h : IsDivided d) where
  pub start_words : (at_split d).words ≡ d.start.words
  start_words = split_words d h.split ∙ sym h.left

  pub start_memory : memory (s d) (at_split d) ≡ words_in d.job.program d.start
  start_memory = ap (λ (w : List ℕ). memory_of (shape (s d)) w) start_words

  pub start_is : d.start.model ≡ without_scan (state (s d) (at_split d))
  start_is = reads_there d h.split d.start.model (subst (λ (w : Memory). IsReadOff d.job.program w d.start.model) (sym start_memory) h.read)

  -- a source's next reading is the whole's
  abbrev pub floor : ℕ → ℕ
  floor i = (source_of d.start.model i).next

  floor_is : (i : ℕ) → floor i ≡ (source_of (state (s d) (at_split d)) i).next
  floor_is i = ap (λ (m : Model). (source_of m i).next) start_is ∙ ap (λ (x : SourceModel). x.next) (image_at (state (s d) (at_split d)).sources i)

  pub above_floor : (n i : ℕ) → floor i ≤ (source_of (state (s d) (behind d n)) i).next
  above_floor n i =
      let more = more_entries d h.split n in
      let is : state (s d) (behind d n) ≡ after d.job.program d.job.readings (state (s d) (at_split d)) more.0 =
      ap (λ l. after d.job.program d.job.readings (s d).first l) more.1 ∙ after_both d.job.program d.job.readings (s d).first (journal (at_split d)) more.0 in
      let up = rises_after d.job.program d.job.readings (state (s d) (at_split d)) more.0 i in
      let same = ap (λ (m : Model). (source_of m i).next) is in
      omega (arith, floor_is i, up, same)

  pub floor_within : (i : ℕ) → i < length d.job.program.sources → floor i ≤ length (readings_of d.job.readings i)
  floor_within i lt = let le = ((sound_at d h.split 0).sources i lt).within in omega (arith, floor_is i, le)

  -- as many readings, and the same from there on
  pub lengths_are : (i : ℕ) → i < length d.job.program.sources → length (readings_of d.readings i) ≡ length (readings_of d.job.readings i)
  lengths_are i lt = ap (λ (l : List ℕ). length l) (h.readings i lt) ∙ settled_length (floor i) (readings_of d.job.readings i) (floor_within i lt)

  pub agree_from : AgreeFrom floor d.job.readings d.readings
  agree_from i k le =
      elim (cases_lt i (length d.job.program.sources)) [
        | inl lt ↦ sym (ap (λ (l : List ℕ). slice_index l k) (h.readings i lt) ∙ settled_at (floor i) (readings_of d.job.readings i) k le)
        | inr past ↦
            ap (λ (l : List ℕ). slice_index l k)
            (get_or_past d.job.readings i [] (let e = h.split.job.sources in omega arith)
            ∙ sym (get_or_past d.readings i [] (let e = h.sources in omega arith)))
      ]
