-- The outputs that are read off an image have stamps of commits, and the counts of an image that isn't worn have room.
use Rattle.never_cut.proofs.Common.{◌≡◌, inl, inr, ℕ, suc, ◌+◌, ◌-◌, ◌/◌, ◌^◌, ◌<◌, ◌≤◌, ◌==◌, Bool, true, false, cond, List, [], ◌∷◌, length, get_or, Option, Some, None, refl, sym, ap, ◌∙◌, subst, arith, All, eq-eqb, eqb-true, cases_eq, cases_lt, get_or_past, get_or-map, All-nil, All-cons, All-filter, filter_passes, Output, Program, Memory, Log, output_word, committed, greatest_tail, published, IsAccepted, pipe_def, Model, PipeModel, ScanModel, thread_of, queue_of, pipe_of, no_thread, no_pipe, outputs_in, outputs_of, HasStamps, flag, is_scanning, LastsThread, Lasts, IsReadOff, stamp_at, IsLogWord, IsImage, taken_of, IsWorn, ManyCommits, ManyServices, ManyTaken}
use Rattle.fram_words.specs.Header as header
use Rattle.never_cut.proofs.Blocks.{served_word, trapped_word, expired_word, outputs_word, taken_count}

-- a flag counts one at most
flag_one : (b : Bool) → flag b ≤ 1
flag_one true = omega arith
flag_one false = omega arith

-- what holds of each thread's outputs, holds of all of them that are of one of these threads
each_output : (P : Output → Type 0) (count : ℕ) (outputs : List Output) → All (λ (o : Output). o.thread.0 < count) outputs →
    ((t n : ℕ) (d : Output) → t < count → n < length (outputs_in t outputs) → P (get_or (outputs_in t outputs) n d)) → All P outputs
each_output P count [] known each = All-nil P
each_output P count (o ∷ outputs) known each =
    let is : (o.thread.0 == o.thread.0) ≡ true = eq-eqb o.thread.0 o.thread.0 refl in
    let own : outputs_in o.thread.0 (o ∷ outputs) ≡ o ∷ outputs_in o.thread.0 outputs = ap (λ (b : Bool). cond b (o ∷ outputs_in o.thread.0 outputs) (outputs_in o.thread.0 outputs)) is in
    let here : P o = subst (λ (l : List Output). (d : Output) → 0 < length l → P (get_or l 0 d)) own (λ d lt. each o.thread.0 0 d (known 0 o (omega arith)) lt) o (omega arith) in
    All-cons P o outputs here
    (each_output P count outputs (λ k d lt. known (suc k) d (omega arith)) (λ t n d lt less. behind t n d (o.thread.0 == t) lt less (each t)))
  where
    behind : (t n : ℕ) (d : Output) (b : Bool) → t < count → n < length (outputs_in t outputs) →
        ((k : ℕ) (e : Output) → t < count → k < length (cond b (o ∷ outputs_in t outputs) (outputs_in t outputs)) → P (get_or (cond b (o ∷ outputs_in t outputs) (outputs_in t outputs)) k e)) →
        P (get_or (outputs_in t outputs) n d)
    behind t n d true lt less each = each (suc n) d lt (omega arith)
    behind t n d false lt less each = each n d lt less

module _ (program : Program) (words : Memory) (m : Model) (image : IsImage program words) (read : IsReadOff program words m) where
  -- an output stands in the log of its thread
  stamp_is : (t n : ℕ) (d : Output) → t < length program.threads → n < length (outputs_of m t) → stamp_at words t n ≡ (get_or (outputs_of m t) n d).stamp
  stamp_is t n d known lt =
      let o : Output = get_or (outputs_of m t) n d in
      let word : words (Log t n) ≡ output_word o = (read.private.threads t known).log n lt ∙ get_or-map output_word (outputs_of m t) n d 0 lt in
      let small : o.value < 2 ^ 32 = All-filter (λ (x : Output). x.thread.0 == t) (λ (x : Output). x.value < 2 ^ 32) m.outputs (λ k e less. (read.outputs k e less).1) n d lt in
      omega (arith, word, small)

  thread_is : (t n : ℕ) (d : Output) → n < length (outputs_of m t) → (get_or (outputs_of m t) n d).thread.0 ≡ t
  thread_is t n d lt = eqb-true _ _ (filter_passes (λ (x : Output). x.thread.0 == t) m.outputs n d lt)

  checked : (t n : ℕ) → t < length program.threads → n < length (outputs_of m t) → IsLogWord program words t n
  checked t n known lt = let count = outputs_word program words m t known read.private in image.logs t n known (omega (arith, count, lt))

  -- its stamp is one that its thread has reached
  stamp_made : (t n : ℕ) (d : Output) → t < length program.threads → n < length (outputs_of m t) →
      (1 ≤ (get_or (outputs_of m t) n d).stamp) × ((get_or (outputs_of m t) n d).stamp ≤ m.commits)
  stamp_made t n d known lt =
      let is = stamp_is t n d known lt in
      let right = checked t n known lt in
      let least = right.least in
      let most = right.most in
      let le = read.private.stamps t known in
      (omega (arith, is, least), omega (arith, is, most, le))

  -- and no other thread's
  stamp_own : (t n u k : ℕ) (d e : Output) → t < length program.threads → n < length (outputs_of m t) → u < length program.threads → k < length (outputs_of m u) →
      (get_or (outputs_of m u) k e).stamp ≡ (get_or (outputs_of m t) n d).stamp → (get_or (outputs_of m u) k e).thread.0 ≡ (get_or (outputs_of m t) n d).thread.0
  stamp_own t n u k d e known lt there less same =
      let stamps : stamp_at words u k ≡ stamp_at words t n = stamp_is u k e there less ∙ (same ∙ sym (stamp_is t n d known lt)) in
      let mine = outputs_word program words m t known read.private in
      let its = outputs_word program words m u there read.private in
      elim (cases_eq u t) [
        | inl is ↦ thread_is u k e less ∙ (is ∙ sym (thread_is t n d lt))
        | inr apart ↦ elim (cases_lt u t) [
          | inl before ↦ absurd ((checked t n known lt).own u k before (omega (arith, its, less)) stamps)
          | inr behind ↦ absurd ((checked u k there less).own t n (omega (arith, behind, apart)) (omega (arith, mine, lt)) (sym stamps))
        ]
      ]

  pub read_stamps : HasStamps m.commits m.outputs
  read_stamps =
      let known : All (λ (o : Output). o.thread.0 < length program.threads) m.outputs = λ k d lt. (read.outputs k d lt).0 in
      record {
        made = each_output (λ (o : Output). (1 ≤ o.stamp) × (o.stamp ≤ m.commits)) (length program.threads) m.outputs known stamp_made;
        ordered = read.ordered;
        own = each_output (λ (o : Output). All (λ (other : Output). other.stamp ≡ o.stamp → other.thread.0 ≡ o.thread.0) m.outputs) (length program.threads) m.outputs known
            (λ t n d here lt. each_output (λ (other : Output). other.stamp ≡ (get_or (outputs_of m t) n d).stamp → other.thread.0 ≡ (get_or (outputs_of m t) n d).thread.0) (length program.threads) m.outputs known
            (λ u k e there less. stamp_own t n u k d e here lt there less));
      }

module _ (program : Program) (listed : List ℕ) (words : Memory) (m : Model) (accepted : IsAccepted program) (image : IsImage program words)
    (fresh : ¬ IsWorn program listed words) (read : IsReadOff program words m) where
  -- a count of services
  services_few : (t w : ℕ) → t < length program.threads → header.served ≤ w → w ≤ header.expired → committed words t w < 2 ^ 31
  services_few t w known from to =
      elim (cases_lt (committed words t w) (2 ^ 31)) [
        | inl few ↦ few
        | inr many ↦ absurd (fresh (ManyServices t w known from to many))
      ]

  commits_few : m.commits < 2 ^ 31
  commits_few =
      elim read.private.newest [
        | inl none ↦ omega arith
        | inr made ↦
            elim (cases_lt (committed words made.0 header.stamp) (2 ^ 31)) [
              | inl few ↦ omega (arith, made.2, few)
              | inr many ↦ absurd (fresh (ManyCommits made.0 made.1 many))
            ]
      ]

  taken_few : (q : ℕ) → (pipe_of m q).taken < 2 ^ 31
  taken_few q =
      elim (cases_lt q (length program.pipes)) [
        | inl known ↦
            let pipe = accepted.pipes q known in
            let is : taken_of program words q ≡ (pipe_of m q).taken = taken_count program words m (pipe_def program q).reader.0 q accepted pipe.reader read.private known refl in
            elim (cases_lt (taken_of program words q) (2 ^ 31)) [
              | inl few ↦ omega (arith, is, few)
              | inr many ↦ absurd (fresh (ManyTaken q known many))
            ]
        | inr past ↦
            let none : (pipe_of m q).taken ≡ 0 = ap (λ (p : PipeModel). p.taken) (get_or_past m.pipes q no_pipe (rw read.shape.pipes past)) in
            omega (arith, none)
      ]

  -- there is no scan
  no_flag : flag (is_scanning m) ≡ 0
  no_flag = ap (λ (o : Option ScanModel). flag (elim o [ Some scan ↦ true | None ↦ false ])) read.scan

  thread_lasts : (t : ℕ) → ((thread_of m t).released + flag (thread_of m t).finished ≤ greatest_tail + 1) → t < length program.threads → LastsThread (2 ^ 32 - 1) (is_scanning m) (thread_of m t)
  thread_lasts t ended known =
      let none = no_flag in
      record {
        ended = omega (arith, none, ended);
        served = let is = served_word program words m t known read.private in let few = services_few t header.served known (omega arith) (omega arith) in omega (arith, none, is, few);
        trapped = let is = trapped_word program words m t known read.private in let few = services_few t header.trapped known (omega arith) (omega arith) in omega (arith, none, is, few);
        expired = let is = expired_word program words m t known read.private in let few = services_few t header.expired known (omega arith) (omega arith) in omega (arith, none, is, few);
      }

  pub read_lasts : ((t : ℕ) → t < length program.threads → published (queue_of (thread_of m t)) ≤ greatest_tail) → Lasts (2 ^ 32 - 1) m
  read_lasts fits = record {
    commits = let none = no_flag in let few = commits_few in omega (arith, none, few);
    threads = λ t. elim (cases_lt t (length program.threads)) [
      | inl known ↦ thread_lasts t (let fit = fits t known in let one = flag_one (thread_of m t).finished in omega arith) known
      | inr past ↦
          let none = no_flag in
          subst (LastsThread (2 ^ 32 - 1) (is_scanning m)) (sym (get_or_past m.threads t no_thread (rw read.shape.threads past)))
          (record { ended = omega (arith, none); served = omega (arith, none); trapped = omega (arith, none); expired = omega (arith, none) })
    ];
    taken = λ q. let none = no_flag in let few = taken_few q in omega (arith, none, few);
  }
