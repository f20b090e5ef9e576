-- The journal of a board grows by at most one entry a move, and at the end it is what the records of the charges keep.
use Rattle.kernel_core.proofs.Common.{◌≡◌, ℕ, zero, suc, ◌+◌, ◌^◌, ◌<◌, ◌≤◌, cond, Bool, true, false, List, [], ◌∷◌, ◌++◌, length, take, replicate, Option, Some, None, refl, sym, ap, ◌∙◌, subst, arith, length-set, append-nil, append_assoc, take_all, flat_map, length-replicate, Actor, Entry, Tick, AreFirstWords, entry_of_point, Charge, Item, JobParts, IsJob, is_left, point_of, port_of, readings_of, noted, IsLegal, first_of, lasts_less, point_found, ChargeRecord, not_begun, with_kernel, with_source, with_tick, journal_of, Setup, Board, Move, Cut, Turn, sides, journal, finds, kernel_access, source_access, source_made, row_of, entry_of_source, turn, cut, move, moved_by, first_board, HasSize, AreMoves, turns, moves_of, moves, run_first, run, setup_of}
use Rattle.kernel_core.specs.Moves.{turns_of}
use Rattle.ink_base.specs.declared.actor.Actor.TheVariants as actors
use Rattle.kernel_core.specs.Listed as listed
use Rattle.kernel_core.proofs.Charges.{charged_journal}
use Rattle.kernel_core.proofs.Cuts.{cut_journal}
use Rattle.kernel_core.proofs.Runs.{turn_begun, moves_hold, moves_taken, ticks_taken, turns_taken}
use Rattle.kernel_core.proofs.Firsts.{first_holds}
use Rattle.kernel_core.proofs.CoreRuns.{moved_append}
use Rattle.kernel_core.proofs.JobMoves.{job_moves, job_range, job_setup, job_first, job_prefixes_stand, charges_turns}

-- the entry that a move notes, or none
abbrev Notes : Board → Board → Type 0
Notes b next = (e : Option Entry) × (journal next ≡ noted (journal b) e)

turn_notes : (s : Setup) (count : ℕ) (b : Board) (a : Actor) → HasSize s count b → 0 < b.begun → Notes b (turn s b a)
turn_notes s count b actors.Kernel h some =
    let o = entry_of_point (point_found s.program b.kernel (finds b (kernel_access s b))) in
    (o, charged_journal s count b (with_kernel o) o h some refl)
turn_notes s count b (actors.Source i) h some = by_left (is_left (length (readings_of s.readings i.0)) (row_of b i.0))
  where
    by_left : (t : Bool) → Notes b (cond t (source_made s b i.0) b)
    by_left true =
        let o = entry_of_source i.0 (point_of (port_of (sides s) i.0).queue.places (row_of b i.0).stage (finds b (source_access s b i.0))) in
        (o, charged_journal s count b (with_source i.0 o) o h some refl)
    by_left false = (None, refl)
turn_notes s count b actors.Clock h some = (Some (Tick 1), charged_journal s count b with_tick (Some (Tick 1)) h some refl)

-- each move adds at most one entry
pub one_entry : (s : Setup) (count : ℕ) (b : Board) (m : Move) (rest : List Move) → HasSize s count b → AreMoves s count b.begun (m ∷ rest) → (e : Option Entry) × (journal (move s b m) ≡ noted (journal b) e)
one_entry s count b (Cut off) rest h are = (Some (Tick off), cut_journal s count b off h are.0)
one_entry s count b (Turn actor) rest h are = turn_notes s count b actor h are.0

-- a move begins a charge or makes a turn
move_begun : (s : Setup) (b : Board) (m : Move) → b.begun + 1 ≡ (move s b m).begun + turns_of m
move_begun s b (Cut off) = omega arith
move_begun s b (Turn actor) = let same = turn_begun s b actor in omega arith

-- the moves behind the first are those of the next board
later_moves : (s : Setup) (count : ℕ) (b : Board) (m : Move) (rest : List Move) → AreMoves s count b.begun (m ∷ rest) → AreMoves s count (move s b m).begun rest
later_moves s count b (Cut off) rest are = are.1
later_moves s count b (Turn actor) rest are = subst (λ n. AreMoves s count n rest) (sym (turn_begun s b actor)) are.2

-- the entries by which the journal has grown: at most one for each charge that has begun meanwhile, and for each turn
record Grown (b end : Board) (turns : ℕ) : Type 0 where
  more : List Entry
  all : journal end ≡ journal b ++ more
  few : b.begun + length more ≤ end.begun + turns

grown_by : (b next end : Board) (here later : ℕ) (o : Option Entry) → journal next ≡ noted (journal b) o → b.begun + 1 ≡ next.begun + here → Grown next end later → Grown b end (here + later)
grown_by b next end here later None is begun g = record {
  more = g.more;
  all = g.all ∙ ap (λ l. l ++ g.more) is;
  few = let few = g.few in omega arith;
}
grown_by b next end here later (Some e) is begun g = record {
  more = e ∷ g.more;
  all = g.all ∙ (ap (λ l. l ++ g.more) is ∙ append_assoc (journal b) (e ∷ []) g.more);
  few = let few = g.few in omega arith;
}

-- the board has its size after each of the moves
abbrev KeepSize : Setup → ℕ → Board → List Move → Type 0
KeepSize s count b moves = (n : ℕ) → HasSize s count (moved_by s b (take n moves))

grows : (s : Setup) (count : ℕ) (b : Board) (moves : List Move) → KeepSize s count b moves → AreMoves s count b.begun moves → Grown b (moved_by s b moves) (turns moves)
grows s count b [] sizes are = record { more = []; all = sym (append-nil (journal b)); few = omega arith }
grows s count b (m ∷ rest) sizes are =
    let entry = one_entry s count b m rest (sizes 0) are in
    grown_by b (move s b m) (moved_by s (move s b m) rest) (turns_of m) (turns rest) entry.0 entry.1 (move_begun s b m)
    (grows s count (move s b m) rest (λ n. sizes (suc n)) (later_moves s count b m rest are))

grows_after : (s : Setup) (count : ℕ) (b : Board) (n : ℕ) (moves : List Move) → KeepSize s count b moves → AreMoves s count b.begun moves →
    (more : List Entry) × (journal (moved_by s b moves) ≡ journal (moved_by s b (take n moves)) ++ more)
grows_after s count b zero moves sizes are = let g = grows s count b moves sizes are in (g.more, g.all)
grows_after s count b (suc n) [] sizes are = ([], sym (append-nil (journal b)))
grows_after s count b (suc n) (m ∷ rest) sizes are = grows_after s count (move s b m) n rest (λ k. sizes (suc k)) (later_moves s count b m rest are)

-- each charge of a list begins by one cut
turns_begun : (s : Setup) (b : Board) (n : ℕ) (actor : Actor) → (moved_by s b (replicate n (Turn actor))).begun ≡ b.begun
turns_begun s b zero actor = refl
turns_begun s b (suc n) actor = turns_begun s (turn s b actor) n actor ∙ turn_begun s b actor

items_begun : (s : Setup) (b : Board) (items : List Item) → (moved_by s b (flat_map listed.turns_of items)).begun ≡ b.begun
items_begun s b [] = refl
items_begun s b (item ∷ items) =
    ap (λ (x : Board). x.begun) (moved_append s b (listed.turns_of item) (flat_map listed.turns_of items))
    ∙ (items_begun s (moved_by s b (listed.turns_of item)) items ∙ turns_begun s b item.count item.actor)

charges_begun : (s : Setup) (b : Board) (charges : List Charge) → (moved_by s b (moves charges)).begun ≡ b.begun + length charges
charges_begun s b [] = omega arith
charges_begun s b (charge ∷ charges) =
    let split = ap (λ (x : Board). x.begun) (moved_append s b (moves_of charge) (moves charges)) in
    let later = charges_begun s (moved_by s b (moves_of charge)) charges in
    let first = items_begun s (cut s b charge.off) charge.items in
    omega arith

-- at the end all charges have begun
pub all_begun : (s : Setup) (words : List ℕ) (charges : List Charge) → (run s words charges).begun ≡ length charges
all_begun s words charges = charges_begun s (first_board s words (length charges)) charges ∙ omega arith

-- no move adds a charge to the board's or takes one
turn_charges : (s : Setup) (b : Board) (a : Actor) → length (turn s b a).charges ≡ length b.charges
turn_charges s b actors.Kernel = length-set b.charges _ _
turn_charges s b (actors.Source i) = by_left (is_left (length (readings_of s.readings i.0)) (row_of b i.0))
  where
    by_left : (t : Bool) → length (cond t (source_made s b i.0) b).charges ≡ length b.charges
    by_left true = length-set b.charges _ _
    by_left false = refl
turn_charges s b actors.Clock = length-set b.charges _ _

moved_charges : (s : Setup) (b : Board) (moves : List Move) → length (moved_by s b moves).charges ≡ length b.charges
moved_charges s b [] = refl
moved_charges s b (Cut off ∷ rest) = moved_charges s (cut s b off) rest ∙ length-set b.charges _ _
moved_charges s b (Turn actor ∷ rest) = moved_charges s (turn s b actor) rest ∙ turn_charges s b actor

-- and each has its record
pub all_recorded : (s : Setup) (words : List ℕ) (charges : List Charge) → length (run s words charges).charges ≡ length charges
all_recorded s words charges = moved_charges s (first_board s words (length charges)) (moves charges) ∙ length-replicate (length charges) (not_begun (length s.program.sources))

-- the journal of all charges is what their records keep
pub journal_is : (charges : List ChargeRecord) → journal_of charges (length charges) ≡ flat_map (λ (c : ChargeRecord). c.entries) charges
journal_is [] = refl
journal_is (c ∷ charges) = ap (λ l. c.entries ++ l) (journal_is charges)

-- the journal of a whole run
pub run_journal : (s : Setup) (words : List ℕ) (charges : List Charge) → journal (run s words charges) ≡ flat_map (λ (c : ChargeRecord). c.entries) (run s words charges).charges
run_journal s words charges =
    ap (λ n. journal_of (run s words charges).charges n) (all_begun s words charges ∙ sym (all_recorded s words charges)) ∙ journal_is (run s words charges).charges

module _ (job : JobParts) (words : List ℕ) (is : IsJob job) (image : AreFirstWords job.program job.start words) where
  sizes : KeepSize (setup_of job) (length job.charges) (first_board (setup_of job) words (length job.charges)) (moves job.charges)
  sizes n =
      let g = job_setup job is in
      (moves_hold (setup_of job) (length job.charges) (first_board (setup_of job) words (length job.charges)) (take n (moves job.charges)) g
      (first_holds (setup_of job) words (length job.charges) g (job_first job words is image))
      (moves_taken (setup_of job) (length job.charges) 0 n (moves job.charges) (job_moves job is))
      (record {
        clock = let few = ticks_taken n (moves job.charges) in let all = (job_range job is).clock in omega arith;
        counts = lasts_less (turns (moves job.charges)) (turns (take n (moves job.charges))) (first_of job) (turns_taken n (moves job.charges)) (job_range job is).counts;
      })).0.size

  -- the journal after the first cuts and turns is a beginning of the whole run's
  pub run_grows : (n : ℕ) → (more : List Entry) × (journal (run (setup_of job) words job.charges) ≡ journal (run_first (setup_of job) words job.charges n) ++ more)
  run_grows n = grows_after (setup_of job) (length job.charges) (first_board (setup_of job) words (length job.charges)) n (moves job.charges) sizes (job_moves job is)

  -- a number of 32 bits counts its entries
  pub run_few : length (journal (run (setup_of job) words job.charges)) < 2 ^ 32
  run_few =
      let g = grows (setup_of job) (length job.charges) (first_board (setup_of job) words (length job.charges)) (moves job.charges) sizes (job_moves job is) in
      let few = g.few in
      omega (arith, ap (λ l. length l) g.all, all_begun (setup_of job) words job.charges, charges_turns job.charges, is.charges.count, is.charges.turns)

  -- and it is legal
  pub run_legal : IsLegal job.program job.readings (first_of job) (journal (run (setup_of job) words job.charges))
  run_legal =
      subst (λ l. IsLegal job.program job.readings (first_of job) (journal (moved_by (setup_of job) (first_board (setup_of job) words (length job.charges)) l)))
      (take_all (length (moves job.charges)) (moves job.charges) (omega arith))
      (job_prefixes_stand job words is image (length (moves job.charges))).legal
