-- What the checks of the earlier form ask, told of the numbers that the code compares.
use Rattle.old_image.proofs.Common.{◌≡◌, ◌≢◌, ◌↔◌, IsTrue, inl, inr, ℕ, zero, suc, ◌+◌, ◌*◌, ◌-◌, ◌/◌, ◌%◌, ◌^◌, ◌<◌, ◌≤◌, ◌==◌, ◌&&◌, max, Bool, true, false, if◌then◌else◌, List, [], ◌∷◌, length, take, Option, Some, None, refl, sym, ap, ◌∙◌, subst, arith, eqb-true, eq-eqb, lt-ltb, ltb-true, nat_lt, and_from, and_parts, cases_Bool, cases_lt, Memory, Ack, Slot, Program, thread_def, source_thread, SourceId, Origin, origin_word, committed, flag, HasChain, IsBlockWord, IsChainOrigin, OldEvent, OldSlot, is_of, feeds, old_slot_in, old_slot_of, old_event_at, old_released, old_held, old_held_for, own_old, after_held, HasSourceChain, IsOldBlockWord, IsOldOrigin, IsOldSlotWord, IsRisingReading, IsOldAckWord, is_old_finished_at}
use Rattle.ink_base.specs.declared.event.Origin.TheVariants as origins
use Rattle.fram_words.specs.Header as header
use Rattle.prog_check.specs.Accepted.{IsAccepted}
use Rattle.old_image.specs.declared.old_slot.OldSlot.TheVariants.{Empty, Full}
use Rattle.old_image.specs.kept.Origins.{IsSourceWord}
use Rattle.old_image.specs.kept.Parts.{IsFree, ComesAfter, NoneOwn, IsFirstOwn, IsAckBefore}
use Rattle.old_image.proofs.Slots.{old_slot_read, old_slot_in-word_of}
use Rattle.old_image.proofs.Lists.{own_few}

-- a slot is free for a position where it is read as the empty one of the position
pub free_read : (program : Program) (words : Memory) (t p : ℕ) → old_slot_of program words t p ≡ Some (Empty p) → IsFree program words t p
free_read program words t p is =
    let read = old_slot_read (words (Slot t (p % (thread_def program t).queue))) (Empty p) is in
    record { empty = sym read.back; fits = read.fits }

pub read_free : (program : Program) (words : Memory) (t p : ℕ) → IsFree program words t p → old_slot_of program words t p ≡ Some (Empty p)
read_free program words t p free = ap old_slot_in free.empty ∙ old_slot_in-word_of (Empty p) free.fits

-- a slot behind the held events is right where it is free, and so is one of a held event
pub slot_held : (program : Program) (words : Memory) (t k : ℕ) → k < length (old_held program words t) → IsOldSlotWord program words t k
slot_held program words t k lt = record { empty = λ behind. absurd (omega arith); fits = λ behind. absurd (omega arith) }

pub slot_free : (program : Program) (words : Memory) (t k : ℕ) → IsFree program words t (old_released program words t + k) → IsOldSlotWord program words t k
slot_free program words t k free = record { empty = λ behind. free.empty; fits = λ behind. free.fits }

pub free_slot : (program : Program) (words : Memory) (t k : ℕ) → length (old_held program words t) ≤ k → IsOldSlotWord program words t k →
    IsFree program words t (old_released program words t + k)
free_slot program words t k behind right = record { empty = right.empty behind; fits = right.fits behind }

-- the readings of source i among the first so many events come before a number that is above each of them
pub after_most : (i j : ℕ) (held : List OldEvent) (n : ℕ) → j ≤ length held →
    ((k : ℕ) → k < j → (old_event_at held k).source.0 ≡ i → (old_event_at held k).reading < n) → after_held i (take j held) ≤ n
after_most i zero held n le below = omega arith
after_most i (suc j) [] n le below = absurd (omega arith)
after_most i (suc j) (e ∷ held) n le below =
    let rest = after_most i j held n (omega arith) (λ k lt own. below (suc k) (omega arith) own) in
    elim (cases_Bool (is_of i e)) [
      | inl is ↦
          let here : (if is_of i e then e.reading + 1 else 0) ≡ e.reading + 1 = ap (λ (b : Bool). if b then e.reading + 1 else 0) is in
          let first = below zero (omega arith) (eqb-true _ _ is) in omega arith
      | inr isnt ↦ let here : (if is_of i e then e.reading + 1 else 0) ≡ 0 = ap (λ (b : Bool). if b then e.reading + 1 else 0) isnt in omega arith
    ]

pub after_least : (i j k : ℕ) (held : List OldEvent) → k < j → j ≤ length held → (old_event_at held k).source.0 ≡ i →
    (old_event_at held k).reading < after_held i (take j held)
after_least i zero k held lt le own = absurd (omega arith)
after_least i (suc j) k [] lt le own = absurd (omega arith)
after_least i (suc j) zero (e ∷ held) lt le own =
    let here : (if is_of i e then e.reading + 1 else 0) ≡ e.reading + 1 = ap (λ (b : Bool). if b then e.reading + 1 else 0) (eq-eqb _ _ own) in omega arith
after_least i (suc j) (suc k) (e ∷ held) lt le own = let rest = after_least i j k held (omega arith) (omega arith) own in omega arith

module _ (program : Program) (words : Memory) (i : ℕ) where
  -- so the readings rise at a held event of the source where its reading isn't below that number
  pub rising : (j : ℕ) → j < length (old_held_for program words i) →
      after_held i (take j (old_held_for program words i)) ≤ (old_event_at (old_held_for program words i) j).reading → IsRisingReading program words i j
  rising j lt above own k less its = let below = after_least i j k (old_held_for program words i) less (omega arith) its in omega arith

  pub above : (j : ℕ) → j < length (old_held_for program words i) → (old_event_at (old_held_for program words i) j).source.0 ≡ i → IsRisingReading program words i j →
      after_held i (take j (old_held_for program words i)) ≤ (old_event_at (old_held_for program words i) j).reading
  above j lt own rises = after_most i j (old_held_for program words i) (old_event_at (old_held_for program words i) j).reading (omega arith) (λ k less its. rises own k less its)

-- none of the first so many is of the source where none is counted, and the other way round
pub own_none : (i j : ℕ) (held : List OldEvent) → j ≤ length held → NoneOwn i held j → own_old i (take j held) ≡ 0
own_none i zero held le none = refl
own_none i (suc j) [] le none = absurd (omega arith)
own_none i (suc j) (e ∷ held) le none =
    let rest = own_none i j held (omega arith) (λ k lt own. none (suc k) (omega arith) own) in
    elim (cases_Bool (is_of i e)) [
      | inl is ↦ absurd (none zero (omega arith) (eqb-true _ _ is))
      | inr isnt ↦ let no : flag (is_of i e) ≡ 0 = ap flag isnt in omega arith
    ]

own_some : (i j k : ℕ) (held : List OldEvent) → k < j → j ≤ length held → (old_event_at held k).source.0 ≡ i → 0 < own_old i (take j held)
own_some i zero k held lt le own = absurd (omega arith)
own_some i (suc j) k [] lt le own = absurd (omega arith)
own_some i (suc j) zero (e ∷ held) lt le own = let one : flag (is_of i e) ≡ 1 = ap flag (eq-eqb _ _ own) in omega arith
own_some i (suc j) (suc k) (e ∷ held) lt le own = let rest = own_some i j k held (omega arith) (omega arith) own in omega arith

module _ (program : Program) (words : Memory) (i : ℕ) where
  -- nothing is asked of ACK where no event of the source is held
  pub ack_free : NoneOwn i (old_held_for program words i) (length (old_held_for program words i)) → IsOldAckWord program words i
  ack_free none j lt own first = absurd (none j lt own)

  -- else it is asked for the first of them
  pub ack_right : (place : ℕ) → IsFirstOwn i (old_held_for program words i) place → IsAckBefore program words i place → IsOldAckWord program words i
  ack_right place is right j lt own first =
      elim (cases_lt j place) [
        | inl less ↦ absurd (is.before j less own)
        | inr more ↦ elim (cases_lt place j) [
          | inl later ↦ absurd (let some = own_some i j place (old_held_for program words i) later (omega arith) is.own in omega arith)
          | inr same ↦ subst (IsAckBefore program words i) (let e : place ≡ j = omega arith in e) right
        ]
      ]

  pub ack_asked : (place : ℕ) → IsFirstOwn i (old_held_for program words i) place → IsOldAckWord program words i → IsAckBefore program words i place
  ack_asked place is right = right place is.inside is.own (own_none i place (old_held_for program words i) (let lt = is.inside in omega arith) is.before)

-- the origin of a source's event, where the word's kind is that
module _ (program : Program) (words : Memory) (t : ℕ) (accepted : IsAccepted program) where
  old_source : (o : Origin) → committed words t header.origin / 2 ^ 56 ≡ 1 → committed words t header.origin ≡ origin_word o → IsOldOrigin program words t o →
      IsSourceWord program t (committed words t header.origin)
  old_source (origins.Source source reading) kind is own = record { source = source; reading = reading; is = is; known = own.0; own = own.1; fits = own.2 }
  old_source (origins.Pipe pipe item) kind is own =
      let few = accepted.counts.pipes in let lt = own.0.0 in let small = own.0.2 in absurd (omega (arith, is, kind))
  old_source (origins.Timer timer deadline) kind is own =
      let few = accepted.counts.timers in let lt = own.0.0 in let small = own.0.2 in absurd (omega (arith, is, kind))

  -- the origin's word is right where it is one of a source of the thread
  pub source_right : HasSourceChain words t → IsSourceWord program t (committed words t header.origin) → IsOldBlockWord program words t header.origin
  source_right chain is = record {
    origin = λ at runs. (origins.Source is.source is.reading, is.is, (is.known, is.own, is.fits));
    others = λ ne. absurd (ne refl);
  }

  pub right_source : HasSourceChain words t → IsOldBlockWord program words t header.origin → IsSourceWord program t (committed words t header.origin)
  right_source chain right = let found = right.origin refl chain.runs in old_source found.0 chain.of_source found.1 found.2

  -- where no chain of a source's event runs, today's check is the same
  today_origin : ¬ HasSourceChain words t → (o : Origin) → HasChain words t → committed words t header.origin ≡ origin_word o → IsOldOrigin program words t o →
      (o : Origin) × (committed words t header.origin ≡ origin_word o) × IsChainOrigin program words t o
  today_origin none (origins.Source source reading) runs is own =
      let few = accepted.counts.sources in let lt = own.0 in let fits = own.2 in
      absurd (none (record { runs = runs; of_source = omega (arith, is) }))
  today_origin none (origins.Pipe pipe item) runs is own = (origins.Pipe pipe item, is, own)
  today_origin none (origins.Timer timer deadline) runs is own = (origins.Timer timer deadline, is, own)

  old_origin : ¬ HasSourceChain words t → (o : Origin) → HasChain words t → committed words t header.origin ≡ origin_word o → IsChainOrigin program words t o →
      (o : Origin) × (committed words t header.origin ≡ origin_word o) × IsOldOrigin program words t o
  old_origin none (origins.Source source count) runs is own =
      let few = accepted.counts.sources in let lt = own.0.0 in let fits = own.0.2 in
      absurd (none (record { runs = runs; of_source = omega (arith, is) }))
  old_origin none (origins.Pipe pipe item) runs is own = (origins.Pipe pipe item, is, own)
  old_origin none (origins.Timer timer deadline) runs is own = (origins.Timer timer deadline, is, own)

-- so a test of the reading tells whether they rise there
pub rises_told : (program : Program) (words : Memory) (i place : ℕ) (e : OldEvent) (after : ℕ) {r : Bool} → place < length (old_held_for program words i) →
    e ≡ old_event_at (old_held_for program words i) place → after ≡ after_held i (take place (old_held_for program words i)) →
    (IsTrue r ↔ ComesAfter i e after) → (IsTrue r ↔ IsRisingReading program words i place)
rises_told program words i place e after {r} lt is so_far test =
    let told : (IsTrue r ↔ ComesAfter i (old_event_at (old_held_for program words i) place) (after_held i (take place (old_held_for program words i)))) =
    subst (λ (z : OldEvent × ℕ). IsTrue r ↔ ComesAfter i z.0 z.1) (λ k. (is k, so_far k)) test in (
      λ yes own. rising program words i place lt (told.0 yes own) own,
      λ rises. told.1 (λ own. above program words i place lt own rises),
    )

-- a word of the kind of a source's event is right where the number in it is that of a source of the thread
module _ (program : Program) (t word number : ℕ) (accepted : IsAccepted program) (kind : word / 2 ^ 56 ≡ 1) (is : number ≡ word % 2 ^ 56 / 2 ^ 16) where
  source_number : (w : IsSourceWord program t word) → w.source.0 ≡ number
  source_number w =
      let few = accepted.counts.sources in let lt = w.known in let fits = w.fits in let at = w.is in omega arith

  pub source_word : {r : Bool} → r ≡ feeds program t number → (IsTrue r ↔ IsSourceWord program t word)
  source_word {r} test = (
    λ yes.
        let own = and_parts (nat_lt number (length program.sources)) (source_thread program number == t) (sym test ∙ yes) in
        record {
          source = record { 0 = number };
          reading = word % 2 ^ 16;
          is = omega arith;
          known = ltb-true _ _ own.0;
          own = eqb-true _ _ own.1;
          fits = omega arith;
        },
    λ w.
        let same = source_number w in
        let known : number < length program.sources = let lt = w.known in omega arith in
        let own : source_thread program number ≡ t = subst (λ n. source_thread program n ≡ t) same w.own in
        test ∙ and_from (nat_lt number (length program.sources)) _ (lt-ltb _ _ known) (eq-eqb _ _ own),
  )

  pub no_source_word : {r : Bool} → 256 ≤ number → r ≡ false → (IsTrue r ↔ IsSourceWord program t word)
  no_source_word {r} great failed = (
    λ yes. absurd (let clash : false ≡ true = sym failed ∙ yes in cc),
    λ w. absurd (let same = source_number w in let few = accepted.counts.sources in let lt = w.known in omega arith),
  )

module _ (program : Program) (words : Memory) (t : ℕ) where
  -- of the origin nothing but the origin itself is asked
  pub block_at_origin : (HasChain words t → (o : Origin) × (committed words t header.origin ≡ origin_word o) × IsChainOrigin program words t o) →
      IsBlockWord program words t header.origin
  block_at_origin right = record {
    next = λ at. absurd (omega arith);
    first = λ at. absurd (omega arith);
    origin = λ at runs. right runs;
    value = λ at. absurd (omega arith);
    outputs = λ at. absurd (omega arith);
    written = λ q lt at. absurd (omega arith);
    taken = λ q lt at. absurd (omega arith);
    due = λ j lt at. absurd (omega arith);
    period = λ j lt at. absurd (omega arith);
    foreign_due = λ j lt at. absurd (omega arith);
    foreign_period = λ j lt at. absurd (omega arith);
    unused = λ from. absurd (omega arith);
    state = λ from. absurd (omega arith);
    rest = λ from. absurd (omega arith);
  }

  -- another word is right where it is today
  pub other_word : {r : Bool} (w : ℕ) → w ≢ header.origin → (IsTrue r ↔ IsBlockWord program words t w) → (IsTrue r ↔ IsOldBlockWord program words t w)
  other_word w ne test = (λ yes. record { origin = λ at. absurd (ne at); others = λ _. test.0 yes }, λ right. test.1 (right.others ne))

  -- and so is the origin where no chain of a source's event runs
  pub other_chain : {r : Bool} (w : ℕ) → IsAccepted program → w ≡ header.origin → ¬ HasSourceChain words t → (IsTrue r ↔ IsBlockWord program words t w) →
      (IsTrue r ↔ IsOldBlockWord program words t w)
  other_chain {r} w accepted at none test =
      let here : (IsTrue r ↔ IsBlockWord program words t header.origin) = subst (λ n. IsTrue r ↔ IsBlockWord program words t n) at test in
      subst (λ n. IsTrue r ↔ IsOldBlockWord program words t n) (sym at) (
        λ yes. record {
          origin = λ is runs. let found = (here.0 yes).origin refl runs in old_origin program words t accepted none found.0 runs found.1 found.2;
          others = λ ne. absurd (ne refl);
        },
        λ right. here.1 (block_at_origin (λ runs. let found = right.origin refl runs in today_origin program words t accepted none found.0 runs found.1 found.2)),
      )

  -- where one runs, by the test of its word
  pub source_chain : {r : Bool} (word : ℕ) → IsAccepted program → HasSourceChain words t → word ≡ committed words t header.origin → (IsTrue r ↔ IsSourceWord program t word) →
      (IsTrue r ↔ IsOldBlockWord program words t header.origin)
  source_chain {r} word accepted chain is test =
      let here : (IsTrue r ↔ IsSourceWord program t (committed words t header.origin)) = subst (λ n. IsTrue r ↔ IsSourceWord program t n) is test in
      (λ yes. source_right program words t accepted chain (here.0 yes), λ right. here.1 (right_source program words t accepted chain right))
