-- What SRC, ACK and the held events tell of a source is what the words stand for.
use Rattle.never_cut.proofs.Common.{◌≡◌, inl, inr, ◌⊎◌, ℕ, zero, suc, ◌+◌, ◌-◌, ◌/◌, ◌%◌, ◌^◌, ◌<◌, ◌≤◌, ◌==◌, ◌||◌, Bool, true, false, List, [], ◌∷◌, length, take, refl, sym, ap, ◌∙◌, subst, arith, eq-eqb, eqb-true, list_any, cases_Bool, cases_lt, and_parts, and_from, Event, Program, Memory, Ack, Src, src_of, event_at, event_source, event_count, IsNumber, IsOneMore, StandsSource, Numbered, Stored, KeepsNumbers, is_number, number_source, number_count, source_thread, flag, told_queue, has_number, is_one_more, told_source, own_events, held_for, IsSourceRight}
use Rattle.std.specs.Bool.{MatchBool}

-- the test of a number finds the events that have it, and no other
number_is : (i number : ℕ) (e : Event) → i < 256 → has_number i number e ≡ true → IsNumber i number e
number_is i number e few is =
    let both = and_parts (event_source e == i) (event_count e == number % 64) is in is_number i number e few (eqb-true _ _ both.0) (eqb-true _ _ both.1)

number_found : (i number : ℕ) (e : Event) → IsNumber i number e → has_number i number e ≡ true
number_found i number e is =
    and_from (event_source e == i) (event_count e == number % 64) (eq-eqb _ _ (number_source i number e is)) (eq-eqb _ _ (number_count i number e is))

-- an event that passes a test is found, and one that is found stands somewhere
any_at : (test : Event → Bool) (held : List Event) (k : ℕ) → k < length held → test (event_at held k) ≡ true → list_any test held ≡ true
any_at test [] k lt is = absurd (omega arith)
any_at test (e ∷ held) zero lt is = rw is refl
any_at test (e ∷ held) (suc k) lt is = either (test e) (list_any test held) (any_at test held k (omega arith) is)
  where
    either : (a b : Bool) → b ≡ true → (a || b) ≡ true
    either true b h = refl
    either false b h = h

any_found : (test : Event → Bool) (held : List Event) → list_any test held ≡ true → (k : ℕ) × (k < length held) × (test (event_at held k) ≡ true)
any_found test [] is = absurd (let clash : false ≡ true = is in cc)
any_found test (e ∷ held) is =
    elim (cases_Bool (test e)) [
      | inl is_so ↦ (zero, omega arith, is_so)
      | inr isnt ↦
          let rest : list_any test held ≡ true = sym (ap (λ b. b || list_any test held) isnt) ∙ is in
          let found = any_found test held rest in (suc found.0, omega (arith, found.1), found.2)
    ]

or_parts : (a b : Bool) → (a || b) ≡ true → (a ≡ true) ⊎ (b ≡ true)
or_parts true b is = inl refl
or_parts false b is = inr is

or_left : (a b : Bool) → a ≡ true → (a || b) ≡ true
or_left true b is = refl
or_left false b is = absurd (let clash : false ≡ true = is in cc)

or_right : (a b : Bool) → b ≡ true → (a || b) ≡ true
or_right true b is = refl
or_right false b is = is

module _ (program : Program) (words : Memory) (i : ℕ) (few : i < 256) where
  abbrev number : ℕ
  number = (src_of (words (Src i))).accepted

  abbrev held : List Event
  held = held_for program words i

  pub more_found : IsOneMore i (words (Src i)) (words (Ack i)) held → is_one_more program words i ≡ true
  more_found (inl holds) = or_left _ _ (any_at (has_number i number) held holds.0 holds.1 (number_found i number (event_at held holds.0) holds.2))
  more_found (inr ack) = or_right (list_any (has_number i number) held) _ (eq-eqb _ _ ack)

  pub more_is : is_one_more program words i ≡ true → IsOneMore i (words (Src i)) (words (Ack i)) held
  more_is is = elim (or_parts (list_any (has_number i number) held) (words (Ack i) == (number + 1) % 64) is) [
    | inl some ↦
        let found = any_found (has_number i number) held some in
        inl (found.0, found.1, number_is i number (event_at held found.0) few found.2)
    | inr ack ↦ inr (eqb-true _ _ ack)
  ]

  -- so the words stand for the source that they tell
  pub source_read : StandsSource i (words (Src i)) (words (Ack i)) held (told_source program words i)
  source_read = record {
    one_more = λ more.
        let is : flag (is_one_more program words i) ≡ 1 = ap flag (more_found more) in
        (omega (arith, is), omega (arith, is));
    as_many = λ neither. elim (cases_Bool (is_one_more program words i)) [
      | inl is ↦ absurd (neither (more_is is))
      | inr not ↦ let is : flag (is_one_more program words i) ≡ 0 = ap flag not in (omega (arith, is), omega (arith, is))
    ];
  }

-- the counts of a source's events are in order where each is what those before it make it
abbrev pub AreCounted : (i : ℕ) → List Event → (first : ℕ) → Type 0
AreCounted i held first =
    (j : ℕ) → j < length held → event_source (event_at held j) ≡ i → event_count (event_at held j) ≡ (first + own_events i (take j held)) % 64

first_numbered : (i : ℕ) (e : Event) (held : List Event) (first : ℕ) (b : Bool) → (event_source e == i) ≡ b → AreCounted i (e ∷ held) first →
    ((n : ℕ) → AreCounted i held n → Numbered i held n (n + own_events i held)) →
    MatchBool b ((event_count e ≡ first % 64) × Numbered i held (first + 1) (first + (flag b + own_events i held))) (Numbered i held first (first + (flag b + own_events i held)))
first_numbered i e held first true test counts rest =
    let here : event_count e ≡ (first + 0) % 64 = counts zero (omega arith) (eqb-true _ _ test) in
    let next : AreCounted i held (first + 1) = λ j lt is.
    counts (suc j) (omega arith) is
    ∙ ap (λ (b : Bool). (first + (flag b + own_events i (take j held))) % 64) test
    ∙ ap (λ n. n % 64) (let s : first + (flag true + own_events i (take j held)) ≡ first + 1 + own_events i (take j held) = omega arith in s)
    in (
      here ∙ ap (λ n. n % 64) (let z : first + 0 ≡ first = omega arith in z),
      subst (Numbered i held (first + 1)) (let s : first + 1 + own_events i held ≡ first + (flag true + own_events i held) = omega arith in s) (rest (first + 1) next),
    )
first_numbered i e held first false test counts rest =
    let next : AreCounted i held first = λ j lt is.
    counts (suc j) (omega arith) is
    ∙ ap (λ (b : Bool). (first + (flag b + own_events i (take j held))) % 64) test
    ∙ ap (λ n. n % 64) (let s : first + (flag false + own_events i (take j held)) ≡ first + own_events i (take j held) = omega arith in s)
    in subst (Numbered i held first) (let s : first + own_events i held ≡ first + (flag false + own_events i held) = omega arith in s) (rest first next)

numbered : (i : ℕ) (held : List Event) (first : ℕ) → AreCounted i held first → Numbered i held first (first + own_events i held)
numbered i [] first counts = omega arith
numbered i (e ∷ held) first counts = first_numbered i e held first (event_source e == i) refl counts (λ n more. numbered i held n more)

-- and the other way round
first_counted : (i : ℕ) (e : Event) (held : List Event) (first last : ℕ) (b : Bool) → (event_source e == i) ≡ b →
    ((n : ℕ) → Numbered i held n last → (last ≡ n + own_events i held) × AreCounted i held n) →
    MatchBool b ((event_count e ≡ first % 64) × Numbered i held (first + 1) last) (Numbered i held first last) →
    (last ≡ first + (flag b + own_events i held))
    × ((j : ℕ) → j < length (e ∷ held) → event_source (event_at (e ∷ held) j) ≡ i → event_count (event_at (e ∷ held) j) ≡ (first + own_events i (take j (e ∷ held))) % 64)
first_counted i e held first last true test rest h =
    let back = rest (first + 1) h.1 in (omega (arith, back.0), each)
  where
    each : (j : ℕ) → j < length (e ∷ held) → event_source (event_at (e ∷ held) j) ≡ i → event_count (event_at (e ∷ held) j) ≡ (first + own_events i (take j (e ∷ held))) % 64
    each zero lt own = h.0 ∙ ap (λ n. n % 64) (let z : first ≡ first + 0 = omega arith in z)
    each (suc j) lt own =
        (rest (first + 1) h.1).1 j (omega arith) own
        ∙ ap (λ n. n % 64) (let s : first + 1 + own_events i (take j held) ≡ first + (flag true + own_events i (take j held)) = omega arith in s)
        ∙ ap (λ (b : Bool). (first + (flag b + own_events i (take j held))) % 64) (sym test)
first_counted i e held first last false test rest h =
    let back = rest first h in (omega (arith, back.0), each)
  where
    each : (j : ℕ) → j < length (e ∷ held) → event_source (event_at (e ∷ held) j) ≡ i → event_count (event_at (e ∷ held) j) ≡ (first + own_events i (take j (e ∷ held))) % 64
    each zero lt own = absurd (let clash : false ≡ true = sym test ∙ eq-eqb _ _ own in cc)
    each (suc j) lt own =
        (rest first h).1 j (omega arith) own
        ∙ ap (λ n. n % 64) (let s : first + own_events i (take j held) ≡ first + (flag false + own_events i (take j held)) = omega arith in s)
        ∙ ap (λ (b : Bool). (first + (flag b + own_events i (take j held))) % 64) (sym test)

pub counted : (i : ℕ) (held : List Event) (first last : ℕ) → Numbered i held first last → (last ≡ first + own_events i held) × AreCounted i held first
counted i [] first last h = (omega (arith, h), λ j lt own. absurd (omega arith))
counted i (e ∷ held) first last h =
    let back = first_counted i e held first last (event_source e == i) refl (λ n more. counted i held n last more) h in (back.0, back.1)

-- a source that has events among these has one somewhere
some_own : (i : ℕ) (held : List Event) → 0 < own_events i held → (j : ℕ) × (j < length held) × (event_source (event_at held j) ≡ i)
some_own i [] some = absurd (omega arith)
some_own i (e ∷ held) some =
    elim (cases_Bool (event_source e == i)) [
      | inl is_so ↦ (zero, omega arith, eqb-true _ _ is_so)
      | inr isnt ↦
          let none : flag (event_source e == i) ≡ 0 = ap flag isnt in
          let found = some_own i held (omega (arith, none)) in (suc found.0, omega (arith, found.1), found.2)
    ]

module _ (program : Program) (words : Memory) (i : ℕ) (right : IsSourceRight program words i) where
  -- no more events are held than were accepted
  held_accepted : own_events i (held_for program words i) ≤ (told_source program words i).accepted
  held_accepted =
      elim (cases_lt 0 (own_events i (held_for program words i))) [
        | inl some ↦ let found = some_own i (held_for program words i) some in (right.counts found.0 found.1 found.2).0
        | inr none ↦ omega arith
      ]

  stored : Stored (words (Src i)) (told_source program words i)
  stored =
      let src : ℕ = words (Src i) in (
        src % 2 ^ 32,
        src / 2 ^ 32,
        omega arith,
        elim (cases_Bool (is_one_more program words i)) [
          | inl is ↦ let one : flag (is_one_more program words i) ≡ 1 = ap flag is in inr (omega (arith, one), omega (arith, one))
          | inr not ↦ let none : flag (is_one_more program words i) ≡ 0 = ap flag not in inl (omega (arith, none), omega (arith, none))
        ],
      )

  -- its numbers are kept in order
  pub source_keeps : KeepsNumbers i (words (Src i)) (words (Ack i)) (told_queue program words (source_thread program i)) (told_source program words i)
  source_keeps =
      let gone : ℕ = (told_source program words i).accepted - own_events i (held_for program words i) in
      let all : gone + own_events i (held_for program words i) ≡ (told_source program words i).accepted = omega (arith, held_accepted) in
      record {
        gone = gone;
        numbered = subst (Numbered i (held_for program words i) gone) all (numbered i (held_for program words i) gone (λ j lt is. (right.counts j lt is).1));
        ack_is = right.ack;
        stored = stored;
      }

  -- no more readings are accepted than settled
  pub source_ordered : (told_source program words i).accepted ≤ (told_source program words i).next
  source_ordered = let le = right.src in omega arith
