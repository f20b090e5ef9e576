-- The places of a program's board are valid in its shape, and their addresses are below the number of its words.
use Rattle.ink_layout.proofs.Common.{◌≡◌, inl, inr, ℕ, zero, suc, ◌+◌, ◌-◌, ◌*◌, ◌<◌, ◌≤◌, true, List, [], ◌∷◌, ◌++◌, length, map, get_or, refl, ap, ◌∙◌, arith, length-append, lt-ltb, cases_lt, and_from, length-map, get_or_past, get_or_append_left, ThreadDef, Program, no_thread_def, no_pipe_def, no_task_def, Place, Code, Commit, Page, Log, Ring, Tail, Slot, Ack, Clock, Src, ThreadShape, thread_regions, queue_regions, regions, region, offset, has_indices, is_valid, words_before, before_next, before_further, pages_of, thread_shape, task_words, pipe_words, queue_words, shape_of, words_of, IsOnBoard}
use Rattle.fram_words.specs.Shape.{address}

-- an item of a list that is mapped
pub at_map : {A : Type 0} (f : A → ℕ) (xs : List A) (d : A) (i : ℕ) → i < length xs → get_or (map f xs) i 0 ≡ f (get_or xs i d)
at_map f [] d i lt = absurd (omega arith)
at_map f (x ∷ xs) d zero lt = refl
at_map f (x ∷ xs) d (suc i) lt = at_map f xs d i (omega arith)

pub at_right : (xs ys : List ℕ) (n k : ℕ) → k ≡ length xs + n → get_or (xs ++ ys) k 0 ≡ get_or ys n 0
at_right [] ys n k e = let same : k ≡ n = omega arith in ap (λ i. get_or ys i 0) same
at_right (x ∷ xs) ys n zero e = absurd (omega arith)
at_right (x ∷ xs) ys n (suc k) e = at_right xs ys n k (omega arith)

length-threads : (xs : List ThreadShape) → length (thread_regions xs) ≡ 3 * length xs
length-threads [] = refl
length-threads (x ∷ xs) = let h = length-threads xs in omega arith

length-queues : (xs : List ℕ) → length (queue_regions xs) ≡ 2 * length xs
length-queues [] = refl
length-queues (x ∷ xs) = let h = length-queues xs in omega arith

-- the three regions of a thread
record Three (threads : List ThreadDef) (t n : ℕ) : Type 0 where
  commit : get_or (thread_regions (map thread_shape threads)) n 0 ≡ 1
  pages : get_or (thread_regions (map thread_shape threads)) (suc n) 0 ≡ 16 * pages_of (get_or threads t no_thread_def)
  log : get_or (thread_regions (map thread_shape threads)) (suc (suc n)) 0 ≡ (get_or threads t no_thread_def).log

three : (threads : List ThreadDef) (t n : ℕ) → n ≡ 3 * t → t < length threads → Three threads t n
three [] t n e lt = absurd (omega arith)
three (d ∷ ds) zero zero e lt = record { commit = refl; pages = refl; log = refl }
three (d ∷ ds) zero (suc n) e lt = absurd (omega arith)
three (d ∷ ds) (suc t) (suc (suc (suc n))) e lt = let h = three ds t n (omega arith) (omega arith) in record { commit = h.commit; pages = h.pages; log = h.log }
three (d ∷ ds) (suc t) _ e lt = absurd (omega arith)

-- the two regions of a queue
record Two (threads : List ThreadDef) (t n : ℕ) : Type 0 where
  tail : get_or (queue_regions (map queue_words threads)) n 0 ≡ 1
  slots : get_or (queue_regions (map queue_words threads)) (suc n) 0 ≡ (get_or threads t no_thread_def).queue

two : (threads : List ThreadDef) (t n : ℕ) → n ≡ 2 * t → t < length threads → Two threads t n
two [] t n e lt = absurd (omega arith)
two (d ∷ ds) zero zero e lt = record { tail = refl; slots = refl }
two (d ∷ ds) zero (suc n) e lt = absurd (omega arith)
two (d ∷ ds) (suc t) (suc (suc n)) e lt = let h = two ds t n (omega arith) (omega arith) in record { tail = h.tail; slots = h.slots }
two (d ∷ ds) (suc t) _ e lt = absurd (omega arith)

module _ (program : Program) where
  abbrev tasks : List ℕ
  tasks = map task_words program.tasks

  abbrev blocks : List ℕ
  blocks = thread_regions (map thread_shape program.threads)

  abbrev rings : List ℕ
  rings = map pipe_words program.pipes

  abbrev queues : List ℕ
  queues = queue_regions (map queue_words program.threads)

  abbrev pub rest : List ℕ
  rest = length program.sources ∷ 1 ∷ length program.sources ∷ []

  -- how many regions each kind has
  record Lengths : Type 0 where
    tasks : length tasks ≡ length program.tasks
    shapes : length (map thread_shape program.threads) ≡ length program.threads
    blocks : length blocks ≡ 3 * length program.threads
    rings : length rings ≡ length program.pipes
    words : length (map queue_words program.threads) ≡ length program.threads
    queues : length queues ≡ 2 * length program.threads

  lengths : Lengths
  lengths =
      let threads = length-map program.threads thread_shape in
      let places = length-map program.threads queue_words in
      record {
        tasks = length-map program.tasks task_words;
        shapes = threads;
        blocks = length-threads (map thread_shape program.threads) ∙ ap (λ n. 3 * n) threads;
        rings = length-map program.pipes pipe_words;
        words = places;
        queues = length-queues (map queue_words program.threads) ∙ ap (λ n. 2 * n) places;
      }

  in_blocks : (n k : ℕ) → k ≡ length tasks + n → n < 3 * length program.threads → get_or (regions (shape_of program)) k 0 ≡ get_or blocks n 0
  in_blocks n k e lt =
      at_right tasks (blocks ++ (rings ++ (queues ++ rest))) n k e
      ∙ get_or_append_left blocks (rings ++ (queues ++ rest)) 0 n (omega (arith, lengths.blocks))

  past_blocks : (n k : ℕ) → k ≡ length tasks + 3 * length program.threads + n → get_or (regions (shape_of program)) k 0 ≡ get_or (rings ++ (queues ++ rest)) n 0
  past_blocks n k e =
      at_right tasks (blocks ++ (rings ++ (queues ++ rest))) (3 * length program.threads + n) k (omega arith)
      ∙ at_right blocks (rings ++ (queues ++ rest)) n (3 * length program.threads + n) (omega (arith, lengths.blocks))

  in_rings : (n k : ℕ) → k ≡ length tasks + 3 * length program.threads + n → n < length program.pipes → get_or (regions (shape_of program)) k 0 ≡ get_or rings n 0
  in_rings n k e lt = past_blocks n k e ∙ get_or_append_left rings (queues ++ rest) 0 n (omega (arith, lengths.rings))

  in_queues : (n k : ℕ) → k ≡ length tasks + 3 * length program.threads + length program.pipes + n → n < 2 * length program.threads →
      get_or (regions (shape_of program)) k 0 ≡ get_or queues n 0
  in_queues n k e lt =
      past_blocks (length program.pipes + n) k (omega arith)
      ∙ (at_right rings (queues ++ rest) n (length program.pipes + n) (omega (arith, lengths.rings)) ∙ get_or_append_left queues rest 0 n (omega (arith, lengths.queues)))

  -- the last three regions: the ACKs, the clock, the SRCs
  pub in_rest : (n k : ℕ) → k ≡ length tasks + 3 * length program.threads + length program.pipes + 2 * length program.threads + n →
      get_or (regions (shape_of program)) k 0 ≡ get_or rest n 0
  in_rest n k e =
      past_blocks (length program.pipes + (2 * length program.threads + n)) k (omega arith)
      ∙ (at_right rings (queues ++ rest) (2 * length program.threads + n) (length program.pipes + (2 * length program.threads + n)) (omega (arith, lengths.rings))
      ∙ at_right queues rest n (2 * length program.threads + n) (omega (arith, lengths.queues)))

  -- the words of a place's region
  room_of : (p : Place) → IsOnBoard program p → offset p < get_or (regions (shape_of program)) (region (shape_of program) p) 0
  room_of (Code x n) h =
      let e = get_or_append_left tasks (blocks ++ (rings ++ (queues ++ rest))) 0 x (omega (arith, lengths.tasks)) ∙ at_map task_words program.tasks no_task_def x h.0 in
      omega (arith, e)
  room_of (Commit t) h =
      let e = in_blocks (3 * t) (region (shape_of program) (Commit t)) refl (omega arith) in
      omega (arith, e, (three program.threads t (3 * t) refl h).commit)
  room_of (Page t p b k) h =
      let e = in_blocks (suc (3 * t)) (region (shape_of program) (Page t p b k)) (omega arith) (omega arith) in
      omega (arith, e, (three program.threads t (3 * t) refl h.0).pages)
  room_of (Log t n) h =
      let e = in_blocks (suc (suc (3 * t))) (region (shape_of program) (Log t n)) (omega arith) (omega arith) in
      omega (arith, e, (three program.threads t (3 * t) refl h.0).log)
  room_of (Ring q n) h =
      let e = in_rings q (region (shape_of program) (Ring q n)) (omega (arith, lengths.shapes)) h.0 ∙ at_map pipe_words program.pipes no_pipe_def q h.0 in
      omega (arith, e)
  room_of (Tail t) h =
      let e = in_queues (2 * t) (region (shape_of program) (Tail t)) (omega (arith, lengths.shapes, lengths.rings)) (omega arith) in
      omega (arith, e, (two program.threads t (2 * t) refl h).tail)
  room_of (Slot t n) h =
      let e = in_queues (suc (2 * t)) (region (shape_of program) (Slot t n)) (omega (arith, lengths.shapes, lengths.rings)) (omega arith) in
      omega (arith, e, (two program.threads t (2 * t) refl h.0).slots)
  room_of (Ack i) h = let e = in_rest 0 (region (shape_of program) (Ack i)) (omega (arith, lengths.shapes, lengths.rings, lengths.words)) in omega (arith, e)
  room_of Clock h = let e = in_rest 1 (region (shape_of program) Clock) (omega (arith, lengths.shapes, lengths.rings, lengths.words)) in omega (arith, e)
  room_of (Src i) h = let e = in_rest 2 (region (shape_of program) (Src i)) (omega (arith, lengths.shapes, lengths.rings, lengths.words)) in omega (arith, e)

  indices_of : (p : Place) → IsOnBoard program p → has_indices (shape_of program) p ≡ true
  indices_of (Code x n) h = lt-ltb _ _ (omega (arith, lengths.tasks))
  indices_of (Commit t) h = lt-ltb _ _ (omega (arith, lengths.shapes))
  indices_of (Page t p b k) h = and_from _ _ (lt-ltb _ _ (omega (arith, lengths.shapes))) (and_from _ _ (lt-ltb _ _ h.2) (lt-ltb _ _ h.3))
  indices_of (Log t n) h = lt-ltb _ _ (omega (arith, lengths.shapes))
  indices_of (Ring q n) h = lt-ltb _ _ (omega (arith, lengths.rings))
  indices_of (Tail t) h = lt-ltb _ _ (omega (arith, lengths.words))
  indices_of (Slot t n) h = lt-ltb _ _ (omega (arith, lengths.words))
  indices_of _ h = refl

  pub valid : (p : Place) → IsOnBoard program p → is_valid (shape_of program) p ≡ true
  valid p h = and_from _ _ (indices_of p h) (lt-ltb _ _ (room_of p h))

  pub regions_count : length (regions (shape_of program)) ≡ length program.tasks + 3 * length program.threads + length program.pipes + 2 * length program.threads + 3
  regions_count =
      let one = length-append tasks (blocks ++ (rings ++ (queues ++ rest))) in
      let two = length-append blocks (rings ++ (queues ++ rest)) in
      let three = length-append rings (queues ++ rest) in
      let four = length-append queues rest in
      omega (arith, one, two, three, four, lengths.tasks, lengths.blocks, lengths.rings, lengths.queues)

  -- the number of the region of a place
  abbrev pub region_number : Place → ℕ
  region_number (Code x n) = x
  region_number (Commit t) = length program.tasks + 3 * t
  region_number (Page t p b k) = length program.tasks + 3 * t + 1
  region_number (Log t n) = length program.tasks + 3 * t + 2
  region_number (Ring q n) = length program.tasks + 3 * length program.threads + q
  region_number (Tail t) = length program.tasks + 3 * length program.threads + length program.pipes + 2 * t
  region_number (Slot t n) = length program.tasks + 3 * length program.threads + length program.pipes + 2 * t + 1
  region_number (Ack i) = length program.tasks + 3 * length program.threads + length program.pipes + 2 * length program.threads
  region_number Clock = length program.tasks + 3 * length program.threads + length program.pipes + 2 * length program.threads + 1
  region_number (Src i) = length program.tasks + 3 * length program.threads + length program.pipes + 2 * length program.threads + 2

  pub region_is : (p : Place) → region (shape_of program) p ≡ region_number p
  region_is (Code x n) = refl
  region_is (Ring q n) = omega (arith, lengths.tasks, lengths.shapes)
  region_is (Tail t) = omega (arith, lengths.tasks, lengths.shapes, lengths.rings)
  region_is (Slot t n) = omega (arith, lengths.tasks, lengths.shapes, lengths.rings)
  region_is (Ack i) = omega (arith, lengths.tasks, lengths.shapes, lengths.rings, lengths.words)
  region_is Clock = omega (arith, lengths.tasks, lengths.shapes, lengths.rings, lengths.words)
  region_is (Src i) = omega (arith, lengths.tasks, lengths.shapes, lengths.rings, lengths.words)
  region_is _ = omega (arith, lengths.tasks)

  -- there is a region of the place
  pub region_there : (p : Place) → IsOnBoard program p → region (shape_of program) p < length (regions (shape_of program))
  region_there p h =
      let rs : List ℕ = regions (shape_of program) in
      let r : ℕ = region (shape_of program) p in
      let room : offset p < get_or rs r 0 = room_of p h in
      elim (cases_lt r (length rs)) [ inl lt ↦ lt | inr past ↦ absurd (let e = get_or_past rs r 0 past in omega arith) ]

  -- a place has a lower address than every word of the regions behind its own
  pub earlier : (p : Place) (n : ℕ) → IsOnBoard program p → region (shape_of program) p < n → address (shape_of program) p < words_before (regions (shape_of program)) n
  unfolding address
  earlier p n h lt =
      let rs : List ℕ = regions (shape_of program) in
      let r : ℕ = region (shape_of program) p in
      let room : offset p < get_or rs r 0 = room_of p h in
      let k : suc r + (n - suc r) ≡ n = omega arith in
      let f : words_before rs (suc r) ≤ words_before rs (suc r + (n - suc r)) = before_further rs (suc r) (n - suc r) in
      let g : words_before rs (suc r) ≤ words_before rs n = rw k at f in
      omega (arith, before_next rs r)

  -- and none of those before it has a higher one
  pub later : (p : Place) (n : ℕ) → n ≤ region (shape_of program) p → words_before (regions (shape_of program)) n ≤ address (shape_of program) p
  unfolding address
  later p n le =
      let rs : List ℕ = regions (shape_of program) in
      let r : ℕ = region (shape_of program) p in
      let k : n + (r - n) ≡ r = omega arith in
      let f : words_before rs n ≤ words_before rs (n + (r - n)) = before_further rs n (r - n) in
      let g : words_before rs n ≤ words_before rs r = rw k at f in
      omega arith

  pub below : (p : Place) → IsOnBoard program p → address (shape_of program) p < words_of (shape_of program)
  below p h = earlier p (length (regions (shape_of program))) h (region_there p h)
