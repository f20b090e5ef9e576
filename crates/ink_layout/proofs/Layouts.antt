-- A layout of the starts of a program's regions is the program's.
use Rattle.ink_layout.proofs.Common.{◌≡◌, ℕ, suc, ◌+◌, ◌*◌, ◌<◌, List, length, get_or, refl, ap, ◌∙◌, sym, arith, Program, Layout, Place, Code, Commit, Page, Log, Ring, Tail, Slot, Ack, Clock, Src, regions, region, offset, words_before, length-map, task_words, shape_of, words_of, IsOnBoard, layout_address, IsLayout, AreStarts, IsMadeOf, sources_from, before_next}
use Rattle.fram_words.specs.Shape.{address}
use Rattle.fram_words.specs.declared.layout.ThreadPlace.{ThreadPlace}
use Rattle.fram_words.specs.declared.layout.QueuePlace.{QueuePlace}
use Rattle.ink_layout.proofs.Regions.{rest, in_rest, regions_count, region_number, region_is, region_there}

module _ (program : Program) (starts : List ℕ) (layout : Layout) (s : AreStarts (regions (shape_of program)) starts) (made : IsMadeOf program starts layout) where
  -- the start of a place's region
  begins : (p : Place) (n : ℕ) → IsOnBoard program p → n ≡ region_number program p → get_or starts n 0 + offset p ≡ address (shape_of program) p
  unfolding address
  begins p n h e =
      let r : n ≡ region (shape_of program) p = e ∙ sym (region_is program p) in
      let lt : region (shape_of program) p < length (regions (shape_of program)) = region_there program p h in
      let is = s.each n (omega arith) in
      ap (λ a. a + offset p) (is ∙ ap (words_before (regions (shape_of program))) r)

  addresses : (p : Place) → IsOnBoard program p → layout_address layout p ≡ address (shape_of program) p
  addresses (Code x n) h = ap (λ a. a + n) (made.tasks.each x h.0) ∙ begins (Code x n) (0 + x) h (omega arith)
  addresses (Commit t) h =
      let b = begins (Commit t) (length program.tasks + 3 * t) h refl in
      ap (λ (p : ThreadPlace). p.commit) (made.threads.each t h) ∙ omega (arith, b)
  addresses (Page t p b k) h =
      let at = begins (Page t p b k) (length program.tasks + 3 * t + 1) h refl in
      ap (λ (x : ThreadPlace). x.first + 16 * p + 8 * b + k) (made.threads.each t h.0) ∙ omega (arith, at)
  addresses (Log t n) h = ap (λ (x : ThreadPlace). x.log + n) (made.threads.each t h.0) ∙ begins (Log t n) (length program.tasks + 3 * t + 2) h refl
  addresses (Ring q n) h = ap (λ a. a + n) (made.rings.each q h.0) ∙ begins (Ring q n) (length program.tasks + 3 * length program.threads + q) h refl
  addresses (Tail t) h =
      let b = begins (Tail t) (length program.tasks + 3 * length program.threads + length program.pipes + 2 * t) h refl in
      ap (λ (x : QueuePlace). x.tail) (made.queues.each t h) ∙ omega (arith, b)
  addresses (Slot t n) h =
      ap (λ (x : QueuePlace). x.slots + n) (made.queues.each t h.0)
      ∙ begins (Slot t n) (length program.tasks + 3 * length program.threads + length program.pipes + 2 * t + 1) h refl
  addresses (Ack i) h = ap (λ a. a + i) made.acks ∙ begins (Ack i) (sources_from program) h refl
  addresses Clock h = let b = begins Clock (sources_from program + 1) h refl in made.clock ∙ omega (arith, b)
  addresses (Src i) h = ap (λ a. a + i) made.srcs ∙ begins (Src i) (sources_from program + 2) h refl

  all_words : get_or starts (sources_from program + 3) 0 ≡ words_of (shape_of program)
  all_words =
      let n = regions_count program in
      let e : sources_from program + 3 ≡ length (regions (shape_of program)) = sym n in
      ap (λ k. get_or starts k 0) e ∙ s.each (length (regions (shape_of program))) (omega arith)

  -- one behind the last three regions
  next_start : (n room : ℕ) → get_or (rest program) n 0 ≡ room → n < 3 →
      words_before (regions (shape_of program)) (sources_from program + (n + 1)) ≡ words_before (regions (shape_of program)) (sources_from program + n) + room
  next_start n room is lt =
      let e : sources_from program + (n + 1) ≡ suc (sources_from program + n) = omega arith in
      let b = before_next (regions (shape_of program)) (sources_from program + n) in
      ap (words_before (regions (shape_of program))) e
      ∙ (b ∙ ap (λ r. words_before (regions (shape_of program)) (sources_from program + n) + r) (in_rest program n (sources_from program + n) (let l = length-map program.tasks task_words in omega (arith, l)) ∙ is))

  clock_is : layout.clock ≡ words_before (regions (shape_of program)) (sources_from program + 1)
  clock_is =
      let lt : sources_from program + 1 < length (regions (shape_of program)) + 1 = let n = regions_count program in omega arith in
      made.clock ∙ s.each (sources_from program + 1) lt

  acks_end : layout.acks + length program.sources ≡ layout.clock
  acks_end =
      let lt : sources_from program + 0 < length (regions (shape_of program)) + 1 = let n = regions_count program in omega arith in
      let at = s.each (sources_from program + 0) lt in
      let z : sources_from program ≡ sources_from program + 0 = omega arith in
      ap (λ a. a + length program.sources) (made.acks ∙ (ap (λ n. get_or starts n 0) z ∙ at)) ∙ (sym (next_start 0 (length program.sources) refl (omega arith)) ∙ sym clock_is)

  pub is_layout : 0 < length program.threads → IsLayout program layout
  is_layout some =
      record {
        addresses = addresses;
        tasks = made.tasks.length_is;
        threads = made.threads.length_is;
        rings = made.rings.length_is;
        queues = made.queues.length_is;
        private = let b = begins (Tail 0) (length program.tasks + 3 * length program.threads + length program.pipes) some (omega arith) in made.private ∙ omega (arith, b);
        acks = acks_end;
        srcs =
            let lt : sources_from program + 2 < length (regions (shape_of program)) + 1 = let n = regions_count program in omega arith in
            let at = s.each (sources_from program + 2) lt in
            made.srcs ∙ (at ∙ (next_start 1 1 refl (omega arith) ∙ ap (λ a. a + 1) (sym clock_is)));
        words = made.words ∙ all_words;
        blocks = λ t lt. ap (λ (p : ThreadPlace). p.words) (made.threads.each t lt);
        places = λ t lt. ap (λ (p : QueuePlace). p.places) (made.queues.each t lt);
      }
