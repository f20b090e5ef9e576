-- A source settles readings by its accesses, in each charge of every list of turns and cuts.
use Rattle.kernel_core.proofs.Common.{◌≡◌, inl, inr, ℕ, ◌-◌, ◌<◌, cond, Bool, true, false, List, [], ◌∷◌, length, set, replicate, slice_index, Some, refl, sym, subst, arith, cases_eq, cases_lt, get_or-replicate, get_or_past, length-replicate, Actor, Tick, Tail, source_thread, Row, first_row, is_left, places_for, readings_of, Lasts, lasts_less, entry_of_point, point_found, ChargeRecord, charge_of, not_begun, with_kernel, with_tick, begun, Setup, Board, Move, Cut, Turn, sides, finds, kernel_access, kernel_turn, clock_turn, source_made, row_of, turn, cut, moved_by, first_board, sides_of, IsSetup, memory, state, Holds, IsActor, AreMoves, IsInRange, ticks, turns, AreFirstWords, JobParts, IsJob, moves, run, setup_of}
use Rattle.std.specs.List.{count_by}
use Rattle.ink_base.specs.declared.actor.Actor.TheVariants as actors
use Rattle.push_core.specs.Queue.{published}
use Rattle.kernel_core.specs.Settled.{settles, pushes_beside, ChargesSettle, SourcesSettle}
use Rattle.kernel_core.specs.kept.Paces.{IsPaced, IsPacedIn, IsFresh, Settles}
use Rattle.kernel_core.proofs.Cuts.{first_rows, cut_goes}
use Rattle.kernel_core.proofs.Runs.{turn_begun, turn_goes, after_turn, after_cut}
use Rattle.kernel_core.proofs.Firsts.{first_holds}
use Rattle.kernel_core.proofs.JobMoves.{job_moves, job_setup, job_first, job_range}
use Rattle.kernel_core.proofs.SourcePaces.{others_pace, boot_pace}
use Rattle.kernel_core.proofs.SettledCharges.{fresh_enough, set_settles, still_paced}
use Rattle.kernel_core.proofs.PacedSources.{source_record, own_paced, other_paced}
use Rattle.kernel_core.proofs.TurnViews.{kernel_view, clock_view}

-- a turn replaces the charge at hand
turned : (s : Setup) (count : ℕ) (b next : Board) (new : ChargeRecord) → Holds s count b → Holds s count next → Settles s b → 0 < b.begun → next.charges ≡ set b.charges (b.begun - 1) new →
    next.begun ≡ b.begun → ((i : ℕ) → i < length s.program.sources → IsPacedIn s next i new) → Settles s next
turned s count b next new held holds h some charges same paced =
    set_settles s count b next (b.begun - 1) new holds h charges (let n = held.size.charges_count in let few = held.size.begun in omega arith) (omega arith) (omega arith) paced

pub source_settles : (s : Setup) (count : ℕ) (b : Board) (j : ℕ) → IsSetup s → Holds s count b → Holds s count (source_made s b j) → Settles s b → 0 < b.begun → j < length s.program.sources → Settles s (source_made s b j)
source_settles s count b j g held holds h some lt =
    turned s count b (source_made s b j) (source_record s count b g held some j lt) held holds h some refl refl (λ i known. elim (cases_eq i j) [
      | inl same ↦ subst (λ k. IsPacedIn s (source_made s b j) k (source_record s count b g held some j lt)) (sym same) (own_paced s count b g held some j lt (h.paced some j lt))
      | inr other ↦ other_paced s count b g held some j lt i other (h.paced some i known)
    ])

pub turn_settles : (s : Setup) (count : ℕ) (b : Board) (a : Actor) → IsSetup s → Holds s count b → Holds s count (turn s b a) → Settles s b → 0 < b.begun → IsActor s a → Lasts 0 (state s b) → Settles s (turn s b a)
turn_settles s count b actors.Kernel g held holds h some on room =
    let o = entry_of_point (point_found s.program b.kernel (finds b (kernel_access s b))) in
    let c : ChargeRecord = charge_of b.charges (b.begun - 1) in
    turned s count b (kernel_turn s b) (with_kernel o c) held holds h some refl refl
    (λ i known. still_paced s b (kernel_turn s b) i c (with_kernel o c) o (kernel_view s count b g held some room) refl refl refl (h.paced some i known))
turn_settles s count b (actors.Source j) g held holds h some on room = by_left (is_left (length (readings_of s.readings j.0)) (row_of b j.0)) holds
  where
    by_left : (left : Bool) → Holds s count (cond left (source_made s b j.0) b) → Settles s (cond left (source_made s b j.0) b)
    by_left true holds = source_settles s count b j.0 g held holds h some on
    by_left false holds = h
turn_settles s count b actors.Clock g held holds h some on room =
    let c : ChargeRecord = charge_of b.charges (b.begun - 1) in
    turned s count b (clock_turn s b) (with_tick c) held holds h some refl refl
    (λ i known. still_paced s b (clock_turn s b) i c (with_tick c) (Some (Tick 1)) (clock_view s count b g held some) refl refl refl (h.paced some i known))

-- a cut begins a charge, with each source at the first row of its boot
pub cut_settles : (s : Setup) (count : ℕ) (b : Board) (off : ℕ) → Holds s count b → Holds s count (cut s b off) → Settles s b → b.begun < count → Settles s (cut s b off)
cut_settles s count b off held holds h left =
    set_settles s count b (cut s b off) b.begun new holds h refl (let n = held.size.charges_count in omega arith) refl (omega arith) paced
  where
    new : ChargeRecord
    new = begun off (charge_of b.charges b.begun)

    paced : (i : ℕ) → i < length s.program.sources → IsPacedIn s (cut s b off) i (begun off (charge_of b.charges b.begun))
    paced i known =
        let c : ChargeRecord = begun off (charge_of b.charges b.begun) in
        let t : ℕ = source_thread s.program i in
        let tail : ℕ = memory s (cut s b off) (Tail (source_thread s.program i)) in
        let events : ℕ = published ((sides_of (state s (cut s b off))).queue (source_thread s.program i)) in
        let near = (holds.kept.queues (source_thread s.program i)).tail_near in
        let none = (h.later b.begun (omega arith)).steps i in
        subst (λ (r : Row). IsPaced (places_for (sides s) i) (slice_index c.source_steps i) (count_by (settles i) c.entries) (count_by (pushes_beside s.program i) c.entries) tail events r.stage)
        (sym (first_rows (length s.program.sources) i))
        (others_pace (places_for (sides s) i) 0 0 0 tail events first_row.stage (slice_index c.source_steps i) (count_by (settles i) c.entries) (count_by (pushes_beside s.program i) c.entries) tail events
        (omega arith) (omega arith) (omega arith) (omega arith) (boot_pace (places_for (sides s) i) tail events (omega (arith, near))))

-- no source has made an access in a charge that has not begun
not_begun_fresh : (sources : ℕ) → IsFresh (not_begun sources)
not_begun_fresh sources = record {
  steps = λ i. elim (cases_lt i sources) [
    | inl lt ↦ get_or-replicate sources i 0 0 lt
    | inr past ↦ get_or_past (replicate sources 0) i 0 (rw (length-replicate {A = ℕ} sources 0) past)
  ];
}

first_fresh : (charges sources k : ℕ) → IsFresh (charge_of (replicate charges (not_begun sources)) k)
first_fresh charges sources k = elim (cases_lt k charges) [
  | inl lt ↦ subst IsFresh (sym (get_or-replicate charges k (not_begun sources) (not_begun 0) lt)) (not_begun_fresh sources)
  | inr past ↦ subst IsFresh (sym (get_or_past (replicate charges (not_begun sources)) k (not_begun 0) (rw (length-replicate charges (not_begun sources)) past))) (not_begun_fresh 0)
]

-- the first board
pub first_settles : (s : Setup) (words : List ℕ) (charges : ℕ) → Settles s (first_board s words charges)
first_settles s words charges =
    let fresh = first_fresh charges (length s.program.sources) in
    record { all = λ n i known. fresh_enough s i (charge_of (first_board s words charges).charges n) (fresh n); later = λ k le. fresh k; paced = λ some. absurd (omega arith) }

-- after every list of turns and cuts
pub moves_settle : (s : Setup) (count : ℕ) (b : Board) (moves : List Move) → IsSetup s → Holds s count b → Settles s b → AreMoves s count b.begun moves → IsInRange (state s b) (ticks moves) (turns moves) →
    ChargesSettle s.program (moved_by s b moves).charges
moves_settle s count b [] g held h are range = h.all
moves_settle s count b (Cut off ∷ moves) g held h are range =
    let go = cut_goes s count b off g held are.0 (let c = range.clock in omega arith) in
    moves_settle s count (cut s b off) moves g go.holds (cut_settles s count b off held go.holds h are.0) are.1
    (after_cut s count b off (ticks moves) (turns moves) go held are.0 (record { clock = range.clock; counts = lasts_less (turns (Cut off ∷ moves)) (turns moves) (state s b) (omega arith) range.counts }))
moves_settle s count b (Turn actor ∷ moves) g held h are range =
    let go = turn_goes s count b actor (ticks moves) (turns moves) g held are.0 are.1 range in
    moves_settle s count (turn s b actor) moves g go.holds
    (turn_settles s count b actor g held go.holds h are.0 are.1 (lasts_less (turns (Turn actor ∷ moves)) 0 (state s b) (omega arith) range.counts))
    (subst (λ n. AreMoves s count n moves) (sym (turn_begun s b actor)) are.2)
    (after_turn s count b (turn s b actor) (ticks moves) (turns moves) go range)

-- from the first board on
pub sources_settle : SourcesSettle
sources_settle s words charges moves g first are range =
    moves_settle s charges (first_board s words charges) moves g (first_holds s words charges g first) (first_settles s words charges) are range

-- each charge of a job's run
pub run_settles : (job : JobParts) (words : List ℕ) → IsJob job → AreFirstWords job.program job.start words → ChargesSettle job.program (run (setup_of job) words job.charges).charges
run_settles job words is first = sources_settle (setup_of job) words (length job.charges) (moves job.charges) (job_setup job is) (job_first job words is first) (job_moves job is) (job_range job is)
