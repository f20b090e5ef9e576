-- The run of the whole job, at the end of its first part and from there on.
use Rattle.going_on.proofs.Common.{◌≡◌, ℕ, zero, suc, ◌+◌, ◌≤◌, List, [], ◌∷◌, ◌++◌, length, take, replicate, Option, Some, None, refl, sym, ap, ◌∙◌, subst, arith, append-nil, append_assoc, length-append, replicate-append-replicate, Entry, noted, Charge, JobParts, IsJob, first_of, Setup, Board, Move, Cut, Turn, move, moved_by, first_board, journal, moves, moves_of, run_first, setup_of, AreMoves, turns, ChargeRecord, not_begun, state, HasSize, Holds, Division, first_run, whole_after, whole_run, IsSetup, AreCharges, length-replicate, IsSplit}
use Rattle.std.proofs.lemmas.Grind.{flat_map-append}
use Rattle.never_cut.specs.Within.{Lasts}
use Rattle.never_cut.proofs.Lasting.{lasts_less}
use Rattle.kernel_core.proofs.Runs.{turn_begun, moves_hold, moves_taken, ticks_taken, turns_taken}
use Rattle.kernel_core.proofs.Firsts.{first_holds}
use Rattle.kernel_core.proofs.CoreRuns.{moved_append}
use Rattle.kernel_core.proofs.Growth.{one_entry, all_begun, all_recorded}
use Rattle.kernel_core.proofs.JobMoves.{job_moves, job_range, job_setup, job_first}
use Rattle.going_on.proofs.Parts.{widened, part_moves}
use Rattle.going_on.proofs.PartJobs.{front_charges, back_charges}

take_behind : {X : Type 0} (xs ys : List X) (n : ℕ) → take (length xs + n) (xs ++ ys) ≡ xs ++ take n ys
take_behind [] ys n = ap (λ k. take k ys) (let e : 0 + n ≡ n = omega arith in e)
take_behind (x ∷ xs) ys n =
    ap (λ k. take k (x ∷ (xs ++ ys))) (let e : suc (length xs) + n ≡ suc (length xs + n) = omega arith in e) ∙ ap (λ l. x ∷ l) (take_behind xs ys n)

-- the moves behind the first are those of the next board
later_moves : (s : Setup) (count : ℕ) (b : Board) (m : Move) (rest : List Move) → AreMoves s count b.begun (m ∷ rest) → AreMoves s count (move s b m).begun rest
later_moves s count b (Cut off) rest are = are.1
later_moves s count b (Turn actor) rest are = subst (λ n. AreMoves s count n rest) (sym (turn_begun s b actor)) are.2

-- moves behind others are moves from where those end
moves_behind : (s : Setup) (count : ℕ) (b : Board) (xs ys : List Move) → AreMoves s count b.begun (xs ++ ys) → AreMoves s count (moved_by s b xs).begun ys
moves_behind s count b [] ys are = are
moves_behind s count b (x ∷ xs) ys are = moves_behind s count (move s b x) xs ys (later_moves s count b x (xs ++ ys) are)

-- the journal has grown by some entries
noted_more : (entries more : List Entry) (o : Option Entry) → (new : List Entry) × (noted entries o ++ more ≡ entries ++ new)
noted_more entries more None = (more, refl)
noted_more entries more (Some e) = (e ∷ more, append_assoc entries (e ∷ []) more)

grown : (s : Setup) (count : ℕ) (b : Board) (ms : List Move) (n : ℕ) → ((k : ℕ) → HasSize s count (moved_by s b (take k ms))) → AreMoves s count b.begun ms →
    (more : List Entry) × (journal (moved_by s b (take n ms)) ≡ journal b ++ more)
grown s count b ms zero sizes are = ([], sym (append-nil (journal b)))
grown s count b [] (suc n) sizes are = ([], sym (append-nil (journal b)))
grown s count b (m ∷ ms) (suc n) sizes are =
    let entry = one_entry s count b m ms (sizes 0) are in
    let later = grown s count (move s b m) ms n (λ k. sizes (suc k)) (later_moves s count b m ms are) in
    let more = noted_more (journal b) later.0 entry.0 in
    (more.0, later.1 ∙ (ap (λ l. l ++ later.0) entry.1 ∙ more.1))

module _ (d : Division) where
  abbrev pub s : Setup
  s = setup_of d.job

  abbrev pub count : ℕ
  count = length d.job.charges

  -- the board of the whole job where the first part ends
  abbrev pub at_split : Board
  at_split = moved_by s (first_board s d.words count) (moves d.front)

  -- and after so many more cuts and turns
  abbrev pub behind : ℕ → Board
  behind n = moved_by s at_split (take n (moves d.back))

  -- a part's charges, as a job from the whole's start
  abbrev pub part : List Charge → JobParts
  part charges = record d.job { charges = charges }

  -- charges that haven't begun
  abbrev pub unbegun : List Charge → List ChargeRecord
  unbegun charges = replicate (length charges) (not_begun (length d.job.program.sources))

module _ (d : Division) (h : IsSplit d) where
  moves_are : moves d.job.charges ≡ moves d.front ++ moves d.back
  moves_are = ap moves h.charges ∙ flat_map-append moves_of d.front d.back

  pub whole_is : (n : ℕ) → whole_after d n ≡ behind d n
  whole_is n =
      ap (λ (ms : List Move). moved_by (s d) (first_board (s d) d.words (count d)) (take (length (moves d.front) + n) ms)) moves_are
      ∙ (ap (λ (ms : List Move). moved_by (s d) (first_board (s d) d.words (count d)) ms) (take_behind (moves d.front) (moves d.back) n)
      ∙ moved_append (s d) (first_board (s d) d.words (count d)) (moves d.front) (take n (moves d.back)))

  pub end_is : whole_run d ≡ moved_by (s d) (at_split d) (moves d.back)
  end_is = ap (λ (ms : List Move). moved_by (s d) (first_board (s d) d.words (count d)) ms) moves_are
      ∙ moved_append (s d) (first_board (s d) d.words (count d)) (moves d.front) (moves d.back)

  pub whole_setup : IsSetup (s d)
  whole_setup = job_setup d.job h.job

  -- what holds after each
  held : (n : ℕ) → Holds (s d) (count d) (run_first (s d) d.words d.job.charges n) × Lasts 0 (state (s d) (run_first (s d) d.words d.job.charges n))
  held n =
      let few = ticks_taken n (moves d.job.charges) in
      let range = job_range d.job h.job in
      moves_hold (s d) (count d) (first_board (s d) d.words (count d)) (take n (moves d.job.charges)) whole_setup
      (first_holds (s d) d.words (count d) whole_setup (job_first d.job d.words h.job h.words))
      (moves_taken (s d) (count d) 0 n (moves d.job.charges) (job_moves d.job h.job))
      (record {
        clock = let c = range.clock in omega (arith, c, few);
        counts = lasts_less (turns (moves d.job.charges)) (turns (take n (moves d.job.charges))) (first_of d.job)
            (turns_taken n (moves d.job.charges)) range.counts;
      })

  pub holds : (n : ℕ) → Holds (s d) (count d) (behind d n)
  holds n = subst (λ (b : Board). Holds (s d) (count d) b) (whole_is n) (held (length (moves d.front) + n)).0

  pub lasts : (n : ℕ) → Lasts 0 (state (s d) (behind d n))
  lasts n = subst (λ (b : Board). Lasts 0 (state (s d) b)) (whole_is n) (held (length (moves d.front) + n)).1

  pub all_moves : AreMoves (s d) (count d) 0 (moves d.front ++ moves d.back)
  all_moves = subst (λ (ms : List Move). AreMoves (s d) (count d) 0 ms) moves_are (job_moves d.job h.job)

  pub more_entries : (n : ℕ) → (more : List Entry) × (journal (behind d n) ≡ journal (at_split d) ++ more)
  more_entries n = grown (s d) (count d) (at_split d) (moves d.back) n (λ k. (holds k).size)
      (moves_behind (s d) (count d) (first_board (s d) d.words (count d)) (moves d.front) (moves d.back) all_moves)

  pub front_job : 1 ≤ length d.front → IsJob (part d d.front)
  front_job some = record {
    accepted = h.job.accepted;
    sources = h.job.sources;
    readings = h.job.readings;
    charges = front_charges (length d.job.program.sources) d.front d.back
        (subst (λ (l : List Charge). AreCharges (length d.job.program.sources) l) h.charges h.job.charges) some;
    start = h.job.start;
  }

  pub back_job : 1 ≤ length d.back → IsJob (part d d.back)
  back_job some = record {
    accepted = h.job.accepted;
    sources = h.job.sources;
    readings = h.job.readings;
    charges = back_charges (length d.job.program.sources) d.front d.back
        (subst (λ (l : List Charge). AreCharges (length d.job.program.sources) l) h.charges h.job.charges) some;
    start = h.job.start;
  }

  moves_of_part : (charges : List Charge) → (1 ≤ length charges → IsJob (part d charges)) → AreMoves (s d) (length charges) 0 (moves charges)
  moves_of_part [] job = tt
  moves_of_part (c ∷ charges) job = job_moves (part d (c ∷ charges)) (job (omega arith))

  pub front_moves : AreMoves (s d) (length d.front) 0 (moves d.front)
  front_moves = moves_of_part d.front front_job

  pub back_moves : AreMoves (s d) (length d.back) 0 (moves d.back)
  back_moves = moves_of_part d.back back_job

  -- where the first part ends, the whole's board is its own, with the other charges behind
  pub split_is : at_split d ≡ widened [] (unbegun d d.back) (first_run d)
  split_is =
      let none : ChargeRecord = not_begun (length d.job.program.sources) in
      let charges : replicate (count d) none ≡ [] ++ (unbegun d d.front ++ unbegun d d.back) =
      ap (λ n. replicate n none) (ap (λ (l : List Charge). length l) h.charges ∙ length-append d.front d.back)
      ∙ sym (replicate-append-replicate (length d.front) (length d.back) none) in
      ap (λ (l : List ChargeRecord). moved_by (s d) (record (first_board (s d) d.words (count d)) { charges = l }) (moves d.front)) charges
      ∙ part_moves [] (unbegun d d.back) (s d) d.job.readings (s d).first (first_board (s d) d.words (length d.front)) (moves d.front) (omega arith)
      (subst (λ n. AreMoves (s d) n 0 (moves d.front)) (sym (length-replicate (length d.front) none)) front_moves)
      (λ n i lt. (refl, refl))

  -- as many charges have begun and are recorded as the first part has
  pub first_begun : (first_run d).begun ≡ length (first_run d).charges
  first_begun = all_begun (s d) d.words d.front ∙ sym (all_recorded (s d) d.words d.front)
