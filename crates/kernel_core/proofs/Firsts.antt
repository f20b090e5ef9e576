-- The first board holds.
use Rattle.kernel_core.proofs.Common.{◌≡◌, inl, inr, ℕ, zero, suc, ◌+◌, ◌*◌, ◌≤◌, ◌&&◌, Bool, true, false, List, [], ◌∷◌, length, map, take, replicate, get_or, refl, sym, ap, subst, arith, nat_lt, le-ltb, cases_lt, length-map, length-replicate, get_or-replicate, get_or_past, Place, Tail, Slot, Ack, Clock, Src, memory_of, region, offset, has_indices, Program, ThreadDef, IsAccepted, thread_def, no_thread_def, shape_of, thread_shape, task_words, pipe_words, queue_words, in_rest, IsFirstImage, first_row, open_queue, State, IsFirst, IsStart, start_first, kept_start, queue_of, source_in, no_thread, open_model, open_thread, Model, StandsPrivate, AreShort, lasts_less, open_lasts, open_starts, sound_after, boot_begins, ChargeRecord, not_begun, charge_of, Setup, Board, shape, sides, row_of, journal, moved_by, first_board, seen, IsSetup, StandsFirst, memory, HasSize, Holds, ticks, turns, IsInRange, EveryPrefixStands, ImagePrefixesStand, OneIsFinished}
use Rattle.never_cut.proofs.SoundStates.{open_source_at}
use Rattle.never_cut.proofs.FirstImages.{false_second, nothing_at, first_private}
use Rattle.never_cut.specs.Start.{CanStart}
use Rattle.kernel_core.proofs.Sides.{within_limits, shared_of}
use Rattle.kernel_core.proofs.Cuts.{first_rows}
use Rattle.kernel_core.proofs.Runs.{moves_hold, moves_taken, ticks_taken, turns_taken}
use Rattle.kernel_core.proofs.Standing.{board_stands}

-- a place past the threads has no words
no_queue_word : (program : Program) (t : ℕ) → length program.threads ≤ t → nat_lt t (length (map queue_words program.threads)) ≡ false
no_queue_word program t past = le-ltb _ _ (rw (length-map program.threads queue_words) past)

false_first : (a c : Bool) → a ≡ false → (a && c) ≡ false
false_first true c is = absurd (let clash : true ≡ false = is in cc)
false_first false c is = refl

pub past_tail : (program : Program) (words : List ℕ) (t : ℕ) → length program.threads ≤ t → memory_of (shape_of program) words (Tail t) ≡ 0
past_tail program words t past = nothing_at program words (Tail t) (false_first _ _ (no_queue_word program t past))

first_tail : (program : Program) (words : List ℕ) (t : ℕ) → IsFirstImage program words → memory_of (shape_of program) words (Tail t) ≡ 0
first_tail program words t image =
    elim (cases_lt t (length program.threads)) [
      | inl lt ↦ image.each (Tail t) lt
      | inr past ↦ past_tail program words t past
    ]

-- a place past the sources has no words
past_sources : (program : Program) (words : List ℕ) (p : Place) (n : ℕ) → has_indices (shape_of program) p ≡ true →
    region (shape_of program) p ≡ length (map task_words program.tasks) + 3 * length program.threads + length program.pipes + 2 * length program.threads + n →
    get_or (length program.sources ∷ 1 ∷ length program.sources ∷ []) n 0 ≤ offset p → memory_of (shape_of program) words p ≡ 0
past_sources program words p n has is past =
    let size = in_rest program n (region (shape_of program) p) is in
    nothing_at program words p (false_second (has_indices (shape_of program) p) _ (le-ltb _ _ (omega (arith, size))))

pub past_ack : (program : Program) (words : List ℕ) (i : ℕ) → length program.sources ≤ i → memory_of (shape_of program) words (Ack i) ≡ 0
past_ack program words i past = past_sources program words (Ack i) 0 refl (omega (arith, length-map program.threads thread_shape, length-map program.pipes pipe_words, length-map program.threads queue_words)) past

pub past_src : (program : Program) (words : List ℕ) (i : ℕ) → length program.sources ≤ i → memory_of (shape_of program) words (Src i) ≡ 0
past_src program words i past = past_sources program words (Src i) 2 refl (omega (arith, length-map program.threads thread_shape, length-map program.pipes pipe_words, length-map program.threads queue_words)) past

first_ack : (program : Program) (words : List ℕ) (i : ℕ) → IsFirstImage program words → memory_of (shape_of program) words (Ack i) ≡ 0
first_ack program words i image =
    elim (cases_lt i (length program.sources)) [
      | inl lt ↦ image.each (Ack i) lt
      | inr past ↦ past_ack program words i past
    ]

first_src : (program : Program) (words : List ℕ) (i : ℕ) → IsFirstImage program words → memory_of (shape_of program) words (Src i) ≡ 0
first_src program words i image =
    elim (cases_lt i (length program.sources)) [
      | inl lt ↦ image.each (Src i) lt
      | inr past ↦ past_src program words i past
    ]

open_queue_at : (defs : List ThreadDef) (t : ℕ) → queue_of (get_or (map open_thread defs) t no_thread) ≡ open_queue
open_queue_at [] t = refl
open_queue_at (d ∷ defs) zero = refl
open_queue_at (d ∷ defs) (suc t) = open_queue_at defs t

-- the sources' side begins
first_sides : (s : Setup) (words : List ℕ) → IsFirstImage s.program words → IsFirst (sides s) (seen (memory_of (shape s) words) (open_model s.program) (λ i. first_row))
first_sides s words image = record {
  slots = λ t n lt. elim (cases_lt t (length s.program.threads)) [
    | inl known ↦ image.each (Slot t n) (known, lt)
    | inr past ↦
        let none : (thread_def s.program t).queue ≡ 0 = ap (λ (d : ThreadDef). d.queue) (get_or_past s.program.threads t no_thread_def past) in
        absurd (omega arith)
  ];
  tails = λ t. first_tail s.program words t image;
  acks = λ i. first_ack s.program words i image;
  srcs = λ i. first_src s.program words i image;
  queues = λ t. open_queue_at s.program.threads t;
  sources = λ i. ap source_in (open_source_at s.program.sources i);
  rows = λ i. refl;
}

-- the first image stands for the first state
pub first_stands : (s : Setup) (words : List ℕ) → IsAccepted s.program → AreShort s.readings → s.first ≡ open_model s.program → IsFirstImage s.program words → StandsFirst s words
first_stands s words accepted short is image = record {
  count = image.count;
  private = subst (λ m. StandsPrivate (memory_of (shape s) words) s.program m) (sym is) (first_private s.program words accepted image);
  clock = subst (λ (m : Model). memory_of (shape s) words Clock ≡ m.clock) (sym is) (image.each Clock tt);
  sources = subst (λ m. IsStart (sides s) (seen (memory_of (shape s) words) m (λ i. first_row))) (sym is)
      (start_first (sides s) (seen (memory_of (shape s) words) (open_model s.program) (λ i. first_row)) (within_limits s accepted short) (first_sides s words image));
}

first_size : (s : Setup) (words : List ℕ) (charges : ℕ) → StandsFirst s words → HasSize s charges (first_board s words charges)
first_size s words charges stands = record {
  words = stands.count;
  rows = length-replicate (length s.program.sources) first_row;
  charges_count = length-replicate charges (not_begun (length s.program.sources));
  begun = omega arith;
  later = λ k le. no_entries charges k;
}
  where
    no_entries : (n k : ℕ) → (charge_of (replicate n (not_begun (length s.program.sources))) k).entries ≡ []
    no_entries n k = elim (cases_lt k n) [
      | inl lt ↦ ap (λ (c : ChargeRecord). c.entries) (get_or-replicate n k (not_begun (length s.program.sources)) (not_begun 0) lt)
      | inr past ↦ ap (λ (c : ChargeRecord). c.entries) (get_or_past (replicate n (not_begun (length s.program.sources))) k (not_begun 0) (rw (length-replicate n (not_begun (length s.program.sources))) past))
    ]

pub first_holds : (s : Setup) (words : List ℕ) (charges : ℕ) → IsSetup s → StandsFirst s words → Holds s charges (first_board s words charges)
first_holds s words charges g stands =
    let x : State = seen (memory s (first_board s words charges)) s.first (row_of (first_board s words charges)) in
    let begins : IsStart (sides s) x = record {
      queues = stands.sources.queues;
      events = stands.sources.events;
      stands = stands.sources.stands;
      ordered = stands.sources.ordered;
      rows = λ i. first_rows (length s.program.sources) i;
    } in
    let kept = kept_start (sides s) x begins in
    let sound = g.start.sound in
    record {
      size = first_size s words charges stands;
      legal = tt;
      private = stands.private;
      clock = stands.clock;
      kept = kept;
      registers = (
        boot_begins s.program s.readings (memory s (first_board s words charges)) s.first
            (record { accepted = g.accepted; private = stands.private; shared = shared_of s (memory s (first_board s words charges)) s.first (row_of (first_board s words charges)) g sound kept stands.clock; sound = sound }),
        refl,
      );
    }

-- after every move of every list
pub every_prefix : EveryPrefixStands
every_prefix s words charges moves g stands are range n =
    let board : Board = first_board s words charges in
    let held = moves_hold s charges board (take n moves) g (first_holds s words charges g stands) (moves_taken s charges 0 n moves are)
    (record {
      clock = let few = ticks_taken n moves in let c = range.clock in omega arith;
      counts = lasts_less (turns moves) (turns (take n moves)) s.first (turns_taken n moves) range.counts;
    }) in
    board_stands s charges (moved_by s board (take n moves)) g held.0 held.1

-- from the first image on, too
pub image_prefixes : ImagePrefixesStand
image_prefixes s words charges moves b are short few n =
    let g : IsSetup s = record {
      accepted = b.accepted;
      short = b.short;
      start = subst (λ m. CanStart s.program s.readings m) (sym b.first) (open_starts s.program s.readings b.accepted b.short.few);
    } in
    let range : IsInRange s.first (ticks moves) (turns moves) = subst (λ m. IsInRange m (ticks moves) (turns moves)) (sym b.first)
    (record { clock = omega arith; counts = open_lasts s.program (turns moves) (omega arith) }) in
    every_prefix s words charges moves g (first_stands s words b.accepted b.short b.first b.image) are range n

-- no journal makes a second finished event
pub one_is_finished : OneIsFinished
one_is_finished s words charges moves g stands are range n =
    let legal = (every_prefix s words charges moves g stands are range n).legal in
    (sound_after s.program s.readings s.first (journal (moved_by s (first_board s words charges) (take n moves))) g.accepted g.short g.start.sound legal).one
