-- The renewed words of blocks, pipes and logs meet today's checks.
use Rattle.old_image.proofs.Common.{◌≡◌, ◌≢◌, inl, inr, ℕ, ◌+◌, ◌-◌, ◌*◌, ◌/◌, ◌%◌, ◌^◌, ◌<◌, ◌≤◌, ◌==◌, Bool, true, false, length, refl, sym, ap, ◌∙◌, subst, arith, cases_Bool, eqb-true, eq-eqb, Memory, Place, Page, Commit, Clock, Log, Ring, Program, thread_def, pipe_def, source_thread, Origin, SourceId, origin_word, origin_of, committed, place_in, pages_of, IsAccepted, HasChain, IsBlockWord, IsChainOrigin, IsChainValue, IsPipeRight, IsLogWord, stamp_at, taken_of, written_of, old_event_at, old_held, old_released, OldEvent, old_origin_word, HasSourceChain, IsOldOrigin, IsOldBlockWord, IsOldImage, IsRenewed, origin_place, without_reading}
use Rattle.ink_base.specs.declared.event.Origin.TheVariants as origins
use Rattle.fram_words.specs.Header as header
use Rattle.never_cut.specs.Ranges.{IsTaskOf}
use Rattle.old_image.proofs.Checks.{block_at_origin}
use Rattle.old_image.proofs.OldQueues.{IsOldReadAt, held_read}

-- the number of a word by its place on a page
abbrev number_at : Place → ℕ
number_at (Page t p b k) = 8 * p + k
number_at _ = 0

-- another word of a copy stands elsewhere
other_place : (t mask w v : ℕ) → w ≢ v → place_in t mask w ≢ place_in t mask v
other_place t mask w v ne e = ne (let same : 8 * (w / 8) + w % 8 ≡ 8 * (v / 8) + v % 8 = ap number_at e in omega arith)

-- the word of an event's origin without its reading is that of count 0
origin_emptied : (i : SourceId) (reading : ℕ) → reading < 2 ^ 16 → without_reading (origin_word (origins.Source i reading)) ≡ origin_word (origins.Source i 0)
origin_emptied i reading lt = omega arith

-- it is read back
pub origin_read : (i : SourceId) → i.0 < 2 ^ 8 → origin_of (origin_word (origins.Source i 0)) ≡ origins.Source i 0
origin_read i lt =
    let word : ℕ = origin_word (origins.Source i 0) in
    let kind = eq-eqb _ _ (let x : word / 2 ^ 56 ≡ 1 = omega arith in x) in
    let number : word / 2 ^ 16 % 2 ^ 8 ≡ i.0 = omega arith in
    let count : word % 2 ^ 8 ≡ 0 = omega arith in
    rw (kind, number, count) refl

module _ (program : Program) (old new : Memory) (renewed : IsRenewed program old new) where
  pub commit_same : (t : ℕ) → new (Commit t) ≡ old (Commit t)
  commit_same t = renewed.same (Commit t) tt

  -- a word of a committed copy is where it was
  at_same : (t w : ℕ) → committed new t w ≡ new (place_in t (old (Commit t)) w)
  at_same t w = ap (λ mask. new (place_in t mask w)) (commit_same t)

  -- the words beside the origin stay
  pub committed_same : (t w : ℕ) → w ≢ header.origin → committed new t w ≡ committed old t w
  committed_same t w ne = at_same t w ∙ renewed.same (place_in t (old (Commit t)) w) (λ chain. other_place t (old (Commit t)) w header.origin ne)

  -- and so does the origin where no chain of a source's event runs
  pub origin_same : (t : ℕ) → ¬ HasSourceChain old t → committed new t header.origin ≡ committed old t header.origin
  origin_same t none = at_same t header.origin ∙ renewed.same (origin_place old t) (λ chain. absurd (none chain))

  pub next_same : (t : ℕ) → committed new t header.next ≡ committed old t header.next
  next_same t = committed_same t header.next (omega arith)

  pub clock_same : new Clock ≡ old Clock
  clock_same = renewed.same Clock tt

  -- the same chains run
  pub chain_before : (t : ℕ) → HasChain new t → HasChain old t
  chain_before t chain idle = chain (next_same t ∙ idle)

  pub taken_same : (q : ℕ) → taken_of program new q ≡ taken_of program old q
  taken_same q = committed_same (pipe_def program q).reader.0 (header.taken q) (omega arith)

  pub written_same : (q : ℕ) → written_of program new q ≡ written_of program old q
  written_same q = committed_same (pipe_def program q).writer.0 (header.written q) (omega arith)

  stamp_same : (t n : ℕ) → stamp_at new t n ≡ stamp_at old t n
  stamp_same t n = ap (λ word. word / 2 ^ 32) (renewed.same (Log t n) tt)

  module _ (accepted : IsAccepted program) (image : IsOldImage program old) where
    module _ (t : ℕ) (known : t < length program.threads) where
      checked : (w : ℕ) → w < 48 → IsOldBlockWord program old t w
      checked w lt = image.blocks t w known (omega arith)

      -- the event of the first slot
      abbrev first_event : OldEvent
      first_event = old_event_at (old_held program old t) 0

      first_read : HasSourceChain old t → IsOldReadAt program old t (old_released program old t + 0) first_event
      first_read chain = held_read program old t 0 ((image.queues t known).served chain).held

      -- a chain of a source's event has it, with count 0
      pub origin_new : HasSourceChain old t → committed new t header.origin ≡ origin_word (origins.Source first_event.source 0)
      origin_new chain =
          at_same t header.origin ∙ (renewed.origins t known chain
          ∙ (ap without_reading ((image.queues t known).served chain).origin
          ∙ origin_emptied first_event.source first_event.reading (first_read chain).fits.reading_fits))

      pub origin_back : HasSourceChain old t → origin_of (committed new t header.origin) ≡ origins.Source first_event.source 0
      origin_back chain =
          ap origin_of (origin_new chain) ∙ origin_read first_event.source (let lt = (first_read chain).fits.source_fits in omega arith)

      source_own : HasSourceChain old t → IsChainOrigin program new t (origins.Source first_event.source 0)
      source_own chain = (((first_read chain).known, (first_read chain).own, omega arith), tt)

      -- the origin of another event
      abbrev pub IsOther : Type 0
      IsOther = (committed old t header.origin / 2 ^ 56 == 1) ≡ false

      pub none_of_source : IsOther → ¬ HasSourceChain old t
      none_of_source isnt chain = absurd (let clash : false ≡ true = sym isnt ∙ eq-eqb _ _ chain.of_source in cc)

      -- a running chain has a source's event or another one
      pub by_source : (C : Type 0) → HasChain old t → (HasSourceChain old t → C) → (IsOther → C) → C
      by_source C runs of_source of_other =
          elim (cases_Bool (committed old t header.origin / 2 ^ 56 == 1)) [
            | inl is ↦ of_source (record { runs = runs; of_source = eqb-true _ _ is })
            | inr isnt ↦ of_other isnt
          ]

      -- one of another kind is today's
      other_origin : (o : Origin) → ¬ HasSourceChain old t → HasChain old t → committed old t header.origin ≡ origin_word o → IsOldOrigin program old t o → IsChainOrigin program new t o
      other_origin (origins.Source source reading) none runs is own =
          let few = accepted.counts.sources in let lt = own.0 in let fits = own.2 in
          absurd (none (record { runs = runs; of_source = omega (arith, is) }))
      other_origin (origins.Pipe pipe item) none runs is own = (own.0, own.1 ∙ sym (committed_same t (header.taken pipe.0) (omega arith)))
      other_origin (origins.Timer timer deadline) none runs is own = (own.0, tt)

      origin_right : HasChain new t → (o : Origin) × (committed new t header.origin ≡ origin_word o) × IsChainOrigin program new t o
      origin_right runs =
          let before : HasChain old t = chain_before t runs in
          by_source ((o : Origin) × (committed new t header.origin ≡ origin_word o) × IsChainOrigin program new t o) before
          (λ chain. (origins.Source first_event.source 0, origin_new chain, source_own chain))
          (λ isnt.
          let none : ¬ HasSourceChain old t = none_of_source isnt in
          let found = (checked header.origin (omega arith)).origin refl before in
          (found.0, origin_same t none ∙ found.1, other_origin found.0 none before found.1 found.2))

      value_right : HasChain new t → IsChainValue (origin_of (committed new t header.origin)) (committed new t header.value)
      value_right runs =
          let before : HasChain old t = chain_before t runs in
          let same : committed new t header.value ≡ committed old t header.value = committed_same t header.value (omega arith) in
          by_source (IsChainValue (origin_of (committed new t header.origin)) (committed new t header.value)) before
          (λ chain.
          let is : committed new t header.value ≡ first_event.value = same ∙ ((image.queues t known).served chain).value in
          subst (λ o. IsChainValue o (committed new t header.value)) (sym (origin_back chain))
          (let fits = (first_read chain).fits.value_fits in omega (arith, is)))
          (λ isnt.
          subst (λ (z : ℕ × ℕ). IsChainValue (origin_of z.0) z.1) (λ k. (sym (origin_same t (none_of_source isnt)) k, sym same k))
          (((checked header.value (omega arith)).others (omega arith)).value refl before))

      -- a word beside the origin is right as it was
      other_right : (w : ℕ) → w ≢ header.origin → IsBlockWord program old t w → IsBlockWord program new t w
      other_right w ne h = record {
        next = λ at runs. subst (IsTaskOf program t) (ap (λ n. n - 1) (sym (next_same t))) (h.next at (chain_before t runs));
        first = λ at. let le = h.first at in omega (arith, committed_same t header.first (omega arith), clock_same);
        origin = λ at. absurd (ne at);
        value = λ at runs. value_right runs;
        outputs = λ at. let le = h.outputs at in omega (arith, committed_same t header.outputs (omega arith));
        written = λ q lt at foreign. committed_same t (header.written q) (omega arith) ∙ h.written q lt at foreign;
        taken = λ q lt at foreign. committed_same t (header.taken q) (omega arith) ∙ h.taken q lt at foreign;
        due = λ j lt at. let le = h.due j lt at in omega (arith, committed_same t (header.due j) (omega arith));
        period = λ j lt at. let le = h.period j lt at in omega (arith, committed_same t (header.period j) (omega arith));
        foreign_due = λ j lt at foreign. committed_same t (header.due j) (omega arith) ∙ h.foreign_due j lt at foreign;
        foreign_period = λ j lt at foreign. committed_same t (header.period j) (omega arith) ∙ h.foreign_period j lt at foreign;
        unused = λ from below. committed_same t w ne ∙ h.unused from below;
        state = λ from. let lt = h.state from in omega (arith, committed_same t w ne);
        rest = λ from. committed_same t w ne ∙ h.rest from;
      }

      pub block_right : (w : ℕ) → w < 8 * pages_of (thread_def program t) → IsBlockWord program new t w
      block_right w lt =
          elim (cases_Bool (w == header.origin)) [
            | inl is ↦ subst (IsBlockWord program new t) (sym (eqb-true _ _ is)) (block_at_origin program new t origin_right)
            | inr isnt ↦
                let ne : w ≢ header.origin = λ e. absurd (let clash : false ≡ true = sym isnt ∙ eq-eqb _ _ e in cc) in
                other_right w ne ((image.blocks t w known lt).others ne)
          ]

      pub log_right : (n : ℕ) → n < committed new t header.outputs → IsLogWord program new t n
      log_right n lt =
          let count = committed_same t header.outputs (omega arith) in
          let h = image.logs t n known (omega (arith, count)) in
          record {
            least = let le = h.least in omega (arith, stamp_same t n);
            most = let le = h.most in omega (arith, stamp_same t n, committed_same t header.stamp (omega arith));
            ordered = λ k next. let le = h.ordered k next in omega (arith, stamp_same t k, stamp_same t n);
            own = λ u k less there same.
                h.own u k less (let its = committed_same u header.outputs (omega arith) in omega (arith, its))
                (sym (stamp_same u k) ∙ (same ∙ stamp_same t n));
          }

    pub pipe_right : (q : ℕ) → q < length program.pipes → IsPipeRight program new q
    pipe_right q known =
        let h = image.pipes q known in
        record {
          counts = record {
            ordered = let le = h.counts.ordered in omega (arith, taken_same q, written_same q);
            room = let le = h.counts.room in omega (arith, taken_same q, written_same q);
          };
          items = λ n from below.
              let lt = h.items n (omega (arith, taken_same q)) (omega (arith, written_same q)) in
              let same = renewed.same (Ring q (n % (pipe_def program q).places)) tt in
              omega (arith, same);
        }
