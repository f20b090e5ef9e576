-- The words of the set and the SRCs are put in the places that the board gives them.
use Rattle.std.proofs.Common.{◌≡◌, inl, inr, ℕ, ◌+◌, ◌*◌, ◌<◌, cond, Bool, true, List, length, map, slice_index, refl, sym, ap, ◌∙◌, arith}
use Rattle.std.specs.Prelude.{nat_lt, ◌&&◌}
use Rattle.std.proofs.lemmas.Bool.{cases_Bool, and_parts, ltb-true, lt-ltb}
use Rattle.std.proofs.lemmas.List.{length-map, get_or-map, ext_get_or}
use Rattle.task_isa.specs.declared.program.Program.{Program}
use Rattle.fram_words.specs.declared.layout.Layout.{Layout}
use Rattle.fram_words.specs.Places as board
use Rattle.fram_words.specs.Shape as shapes
use Rattle.fram_words.specs.Shape.{memory_of}
use Rattle.prog_check.specs.Lookup.{thread_def, no_thread_def}
use Rattle.ink_layout.specs.Shape.{shape_of, words_of, queue_words, IsOnBoard}
use Rattle.ink_layout.specs.Layouts.{IsLayout}
use Rattle.ink_layout.proofs.Regions.{valid}
use Rattle.event_queue.specs.declared.view.Lay.{Lay}
use Rattle.event_queue.specs.Places as set
use Rattle.event_queue.specs.Places.{word_at, word_count}
use Rattle.event_queue.proofs.Places.{address_below}
use Rattle.kernel_actor.specs.Kinds.{IsOwn}
use Rattle.kernel_actor.specs.Lays.{IsLayOf}
use Rattle.live_words.specs.Puts.{IsPut}
use Rattle.live_words.specs.Finals.{CanJoin, AreFinal, word_of}
use Rattle.live_words.proofs.Behind.{private_words, HasShape, tail_behind, slot_behind, ack_behind, clock_behind, src_behind, first_behind, words_behind, private_address}

-- the set's queues and sources are those of the program's board
pub has_shape : (program : Program) (lay : Lay) → IsLayOf program lay → HasShape (shape_of program) lay
has_shape program lay is = (
  ext_get_or 0 lay.queues (map queue_words program.threads) (is.queues ∙ sym (length-map program.threads queue_words))
      (λ t lt. is.places t (omega (arith, is.queues)) ∙ sym (get_or-map queue_words program.threads t no_thread_def 0 (omega (arith, is.queues)))),
  is.sources,
)

-- where the private words end and where the SRCs begin
pub private_is : (program : Program) (layout : Layout) → IsLayout program layout → layout.private ≡ private_words (shape_of program)
private_is program layout is = is.private ∙ first_behind (shape_of program)

pub srcs_are_at : (program : Program) (layout : Layout) (lay : Lay) → IsLayout program layout → IsLayOf program lay → layout.srcs ≡ private_words (shape_of program) + word_count lay
srcs_are_at program layout lay is of =
    let clock : layout.clock ≡ shapes.address (shape_of program) board.Clock = is.addresses board.Clock tt in
    omega (arith, clock, is.srcs, clock_behind (shape_of program) lay (has_shape program lay of))

pub board_words : (program : Program) (lay : Lay) → IsLayOf program lay → words_of (shape_of program) ≡ private_words (shape_of program) + word_count lay + length program.sources
board_words program lay of = words_behind (shape_of program) lay (has_shape program lay of)

-- the kernel's own places stand before those that are shared
own_region : (program : Program) (p : board.Place) → IsOwn p → shapes.is_valid (shape_of program) p ≡ true → shapes.address (shape_of program) p < private_words (shape_of program)
own_region program p own is = private_address (shape_of program) p (before p own is) is
  where
    known : (i n : ℕ) (rest : Bool) → (nat_lt i n && rest) ≡ true → i < n
    known i n rest both = ltb-true i n (and_parts (nat_lt i n) rest both).0

    before : (p : board.Place) → IsOwn p → shapes.is_valid (shape_of program) p ≡ true →
        shapes.region (shape_of program) p < length (shape_of program).tasks + 3 * length (shape_of program).threads + length (shape_of program).pipes
    before (board.Code x n) own is = omega (arith, known x (length (shape_of program).tasks) _ is)
    before (board.Commit t) own is = omega (arith, known t (length (shape_of program).threads) _ is)
    before (board.Page t p b k) own is = omega (arith, known t (length (shape_of program).threads) _ (and_parts (shapes.has_indices (shape_of program) (board.Page t p b k)) _ is).0)
    before (board.Log t n) own is = omega (arith, known t (length (shape_of program).threads) _ is)
    before (board.Ring q n) own is = omega (arith, known q (length (shape_of program).pipes) _ is)
    before (board.Tail t) own is = absurd own
    before (board.Slot t n) own is = absurd own
    before (board.Ack i) own is = absurd own
    before board.Clock own is = absurd own
    before (board.Src i) own is = absurd own

module _ (program : Program) (layout : Layout) (own closed srcs first words : List ℕ) (is : IsLayout program layout) (can : CanJoin program own closed srcs)
    (put : IsPut layout.private closed own first) (added : IsPut layout.srcs srcs first words) (lay : Lay) (of : IsLayOf program lay) where
  private_at : layout.private ≡ private_words (shape_of program)
  private_at = private_is program layout is

  srcs_at : layout.srcs ≡ private_words (shape_of program) + word_count lay
  srcs_at = srcs_are_at program layout lay is of

  closed_size : length closed ≡ word_count lay
  closed_size =
      let a = srcs_are_at program layout can.lay is can.is_lay in
      omega (arith, a, srcs_at, can.set_words)

  -- a word of the set is behind the private ones
  set_word : (a : set.Place) → set.has_place lay a ≡ true → slice_index words (private_words (shape_of program) + set.address lay a) ≡ word_at lay closed a
  set_word a has =
      let below = address_below lay a has in
      let past = added.elsewhere (private_words (shape_of program) + set.address lay a) (inl (omega (arith, below, srcs_at))) in
      let here = put.here (set.address lay a) (omega (arith, below, closed_size)) in
      past ∙ (ap (λ (n : ℕ). slice_index first (n + set.address lay a)) (sym private_at) ∙ (here ∙ ap (λ (b : Bool). cond b (slice_index closed (set.address lay a)) 0) (sym has)))

  -- so it is the word at the place that has its address
  at_place : (p : board.Place) (a : set.Place) → IsOnBoard program p → set.has_place lay a ≡ true → shapes.address (shape_of program) p ≡ private_words (shape_of program) + set.address lay a →
      word_of program words p ≡ word_at lay closed a
  at_place p a on has address = rw (valid program p on) (ap (slice_index words) address ∙ set_word a has)

  own_stays : (p : board.Place) → IsOwn p → word_of program words p ≡ word_of program own p
  own_stays p mine =
      elim (cases_Bool (shapes.is_valid (shape_of program) p)) [
        | inl there ↦
            let before = own_region program p mine there in
            rw there (added.elsewhere (shapes.address (shape_of program) p) (inl (omega (arith, before, srcs_at))) ∙ put.elsewhere (shapes.address (shape_of program) p) (inl (omega (arith, before, private_at))))
        | inr none ↦ rw none refl
      ]

  pub are_final_at : AreFinal program lay own closed srcs words
  are_final_at =
      let shape = has_shape program lay of in
      let s = shape_of program in
      let threads = length-map program.threads queue_words in
      record {
        count = added.count ∙ put.count;
        own_same = own_stays;
        tails = λ t lt. at_place (board.Tail t) (set.Tail t) lt (lt-ltb _ _ (omega (arith, lt, is_queues))) (tail_behind s lay t shape (omega (arith, lt, threads)));
        slots = λ t n lt less. at_place (board.Slot t n) (set.Slot t n) (lt, less) (slot_there t n lt less) (slot_behind s lay t n shape (omega (arith, lt, threads)));
        acks = λ i lt. at_place (board.Ack i) (set.Ack i) lt (lt-ltb _ _ (omega (arith, lt, of.sources))) (ack_behind s lay i shape);
        clock = at_place board.Clock set.Clock tt refl (clock_behind s lay shape);
        srcs_same = λ i lt.
            rw (valid program (board.Src i) lt)
            (ap (slice_index words) (src_behind s lay i shape ∙ ap (λ (n : ℕ). n + i) (sym srcs_at)) ∙ added.here i (omega (arith, lt, can.src_words)));
      }
    where
      is_queues : length lay.queues ≡ length program.threads
      is_queues = of.queues

      slot_there : (t n : ℕ) → t < length program.threads → n < (thread_def program t).queue → set.has_place lay (set.Slot t n) ≡ true
      slot_there t n lt less =
          let queue : nat_lt t (length lay.queues) ≡ true = lt-ltb _ _ (omega (arith, lt, is_queues)) in
          let place : nat_lt n (slice_index lay.queues t) ≡ true = lt-ltb _ _ (omega (arith, less, of.places t lt)) in
          rw queue place

pub are_final : (program : Program) (layout : Layout) (own closed srcs first words : List ℕ) → IsLayout program layout → CanJoin program own closed srcs → IsPut layout.private closed own first → IsPut layout.srcs srcs first words →
    (lay : Lay) → IsLayOf program lay → AreFinal program lay own closed srcs words
are_final program layout own closed srcs first words is can put added lay of = are_final_at program layout own closed srcs first words is can put added lay of
