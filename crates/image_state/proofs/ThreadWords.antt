-- The words of a thread's committed copy stand for the thread that they tell.
use Rattle.image_state.proofs.Common.{◌≡◌, ◌≢◌, inl, inr, ℕ, ◌+◌, ◌-◌, ◌*◌, ◌^◌, ◌<◌, ◌≤◌, Bool, if◌then◌else◌, length, Some, None, refl, sym, ap, ◌∙◌, subst, arith, eq-eqb, ne_eqb, ltb-true, cases_eq, cases_lt, cases_Bool, and_parts, slice_index, get_or_past, get_or-map-range_with_len, length-map-range_with_len, ForSome, ForNone, TaskId, Event, Origin, Program, Memory, next_word, running_of, origin_word, origin_of, due_word, due_of, origin_of-origin_word, committed, pages_of, thread_def, IsAccepted, IsOwnOrigin, flag, told_finished, told_released, HasChain, IsImage, IsBlockWord, IsChainValue, own_bits, state_number, told_event, told_thread}
use Rattle.ink_base.specs.declared.limits.TheConstants as limits
use Rattle.ink_base.specs.declared.event.Origin.TheVariants as origins
use Rattle.fram_words.specs.Header as header

-- the event in the words of a thread
abbrev words_event : Memory → (t : ℕ) → Event
words_event words t = record { origin = origin_of (committed words t header.origin); value = committed words t header.value }

-- the word of what was read from a word is the word
pub next_back : (word : ℕ) → next_word (running_of word) ≡ word
next_back word =
    elim (cases_eq word 0) [
      | inl none ↦ ap (λ (b : Bool). next_word (if b then None else Some (record { 0 = word - 1 }))) (eq-eqb word 0 none) ∙ sym none
      | inr some ↦ ap (λ (b : Bool). next_word (if b then None else Some (record { 0 = word - 1 }))) (ne_eqb word 0 some)
          ∙ (let e : word - 1 + 1 ≡ word = omega (arith, some) in e)
    ]

pub due_back : (word : ℕ) → due_word (due_of word) ≡ word
due_back word =
    elim (cases_eq word 0) [
      | inl none ↦ ap (λ (b : Bool). due_word (if b then None else Some (word - 1))) (eq-eqb word 0 none) ∙ sym none
      | inr some ↦ ap (λ (b : Bool). due_word (if b then None else Some (word - 1))) (ne_eqb word 0 some)
          ∙ (let e : word - 1 + 1 ≡ word = omega (arith, some) in e)
    ]

-- a task is read exactly where a chain runs
runs_some : (word : ℕ) → word ≢ 0 → running_of word ≡ Some (record { 0 = word - 1 })
runs_some word some = ap (λ (b : Bool). if b then None else Some (record { 0 = word - 1 })) (ne_eqb word 0 some)

runs_none : (word : ℕ) → running_of word ≡ None → word ≡ 0
runs_none word is =
    elim (cases_eq word 0) [
      | inl none ↦ none
      | inr some ↦ absurd (let clash : None ≡ Some (record { 0 = word - 1 }) = sym is ∙ runs_some word some in cc)
    ]

-- a finished event that is still held is one of those that were finished
pub ended_back : (program : Program) (words : Memory) (t : ℕ) → told_released program words t + flag (told_finished program words t) ≡ committed words t header.finished
ended_back program words t =
    elim (cases_Bool (told_finished program words t)) [
      | inl done ↦
          let some : 0 < committed words t header.finished = ltb-true _ _ (and_parts _ _ done).0 in
          ap (λ (b : Bool). committed words t header.finished - flag b + flag b) done
          ∙ (let e : committed words t header.finished - 1 + 1 ≡ committed words t header.finished = omega (arith, some) in e)
      | inr not ↦ ap (λ (b : Bool). committed words t header.finished - flag b + flag b) not
          ∙ (let e : committed words t header.finished - 0 + 0 ≡ committed words t header.finished = omega arith in e)
    ]

module _ (program : Program) (words : Memory) (accepted : IsAccepted program) (image : IsImage program words) (t : ℕ) (known : t < length program.threads) where
  pub checked : (w : ℕ) → w < 48 → IsBlockWord program words t w
  checked w lt = image.blocks t w known (omega arith)

  no_event_told : committed words t header.next ≡ 0 → told_event words t ≡ None
  no_event_told none = ap (λ (b : Bool). if b then None else Some (words_event words t)) (eq-eqb _ _ none)

  event_told : HasChain words t → told_event words t ≡ Some (words_event words t)
  event_told chain = ap (λ (b : Bool). if b then None else Some (words_event words t)) (ne_eqb _ _ chain)

  pub event_is : HasChain words t → Some (words_event words t) ≡ told_event words t
  event_is chain = sym (event_told chain)

  -- the origin of its event is its own, and is what its word was made of
  own_origin : HasChain words t →
      IsOwnOrigin program t (origin_of (committed words t header.origin)) × (committed words t header.origin ≡ origin_word (origin_of (committed words t header.origin)))
  own_origin chain =
      let found = (checked header.origin (omega arith)).origin refl chain in
      let back : origin_of (committed words t header.origin) ≡ found.0 = ap origin_of found.1 ∙ origin_of-origin_word found.0 (own_bits program t found.0 accepted found.2.0) in (
        subst (IsOwnOrigin program t) (sym back) found.2.0,
        found.1 ∙ ap origin_word (sym back),
      )

  -- an idle thread has no event, a running one its own
  pub idle_told : ForNone (told_thread program words t).running ((told_thread program words t).event ≡ None)
  idle_told is = no_event_told (runs_none (committed words t header.next) is)

  chain_from : (task : TaskId) → running_of (committed words t header.next) ≡ Some task → HasChain words t
  chain_from task runs none =
      let idle : running_of (committed words t header.next) ≡ None =
      ap (λ (b : Bool). if b then None else Some (record { 0 = committed words t header.next - 1 })) (eq-eqb _ _ none) in
      absurd (let clash : None ≡ Some task = sym idle ∙ runs in cc)

  pub chain_told : ForSome (told_thread program words t).running (λ task. (e : Event) × ((told_thread program words t).event ≡ Some e) × IsOwnOrigin program t e.origin)
  chain_told task runs =
      let chain : HasChain words t = chain_from task runs in
      (words_event words t, event_told chain, (own_origin chain).0)

  -- its value has 32 bits
  pub value_small : HasChain words t → committed words t header.value < 2 ^ 32
  value_small chain = small (origin_of (committed words t header.origin)) (committed words t header.value) ((checked header.value (omega arith)).value refl chain)
    where
      small : (o : Origin) (value : ℕ) → IsChainValue o value → value < 2 ^ 32
      small (origins.Source source count) value is = is
      small (origins.Pipe pipe item) value is = is
      small (origins.Timer timer deadline) value is = omega (arith, is)

  -- its words are in the block
  pub words_told : ForSome (told_thread program words t).event (λ e. (committed words t header.origin ≡ origin_word e.origin) × (committed words t header.value ≡ e.value))
  words_told e is =
      elim (cases_eq (committed words t header.next) 0) [
        | inl none ↦ absurd (let clash : None ≡ Some e = sym (no_event_told none) ∙ is in cc)
        | inr chain ↦
            let both : Some (words_event words t) ≡ Some e = sym (event_told chain) ∙ is in
            let same : words_event words t ≡ e = cc in
            subst (λ (x : Event). (committed words t header.origin ≡ origin_word x.origin) × (committed words t header.value ≡ x.value)) same ((own_origin chain).1, refl)
      ]

  -- the word of the next task is within the tasks of a program
  pub next_small : committed words t header.next ≤ limits.TASKS
  next_small =
      elim (cases_eq (committed words t header.next) 0) [
        | inl none ↦ omega (arith, none)
        | inr chain ↦
            let task = ((checked header.next (omega arith)).next refl chain).0 in
            let few = accepted.counts.tasks in
            omega (arith, task, few, chain)
      ]

  -- and its state behind the header
  pub state_told : (beyond : (w : ℕ) → 8 * pages_of (thread_def program t) ≤ w → committed words t w ≡ 0) (w : ℕ) → header.words ≤ w →
      committed words t w ≡ slice_index (told_thread program words t).state (w - header.words)
  state_told beyond w behind =
      elim (cases_lt w (header.state (thread_def program t).state)) [
        | inl there ↦
            sym (get_or-map-range_with_len (state_number words t) 0 (thread_def program t).state (w - header.words) (w - header.words) 0 (omega (arith, behind, there)) (omega arith)
            ∙ ap (committed words t) (let e : header.state (w - header.words) ≡ w = omega (arith, behind) in e))
        | inr past ↦
            let none : slice_index (told_thread program words t).state (w - header.words) ≡ 0 =
            get_or_past (told_thread program words t).state (w - header.words) 0
            (let count = length-map-range_with_len (state_number words t) 0 (thread_def program t).state in omega (arith, count, past, behind)) in
            zero_word w past ∙ sym none
      ]
    where
      zero_word : (w : ℕ) → header.state (thread_def program t).state ≤ w → committed words t w ≡ 0
      zero_word w past =
          elim (cases_lt w (8 * pages_of (thread_def program t))) [
            | inl within ↦ (image.blocks t w known within).rest past
            | inr outside ↦ beyond w outside
          ]
