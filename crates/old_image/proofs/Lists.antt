-- Counts of the events of a source among held ones.
use Rattle.old_image.proofs.Common.{◌≡◌, ◌⊎◌, inl, inr, ℕ, zero, suc, ◌+◌, ◌<◌, ◌≤◌, ◌==◌, max, Bool, true, false, List, [], ◌∷◌, length, take, take_all, refl, sym, ap, ◌∙◌, subst, arith, if◌then◌else◌, eq-eqb, eqb-true, cases_Bool, cases_lt, list_any, Event, event_at, event_source, own_events, flag, OldEvent, old_event_at, is_of, own_old, after_held}

-- events of both forms whose sources are the same
pub record AreLike (events : List Event) (held : List OldEvent) : Type 0 where
  pub count : length events ≡ length held
  pub sources : (k : ℕ) → k < length held → event_source (event_at events k) ≡ (old_event_at held k).source.0

behind_first : (e : Event) (events : List Event) (x : OldEvent) (held : List OldEvent) → AreLike (e ∷ events) (x ∷ held) → AreLike events held
behind_first e events x held h = record {
  count = let n = h.count in omega arith;
  sources = λ k lt. h.sources (suc k) (omega arith);
}

-- so as many are of a source, among the first so many
pub own_like : (i j : ℕ) (events : List Event) (held : List OldEvent) → AreLike events held → own_events i (take j events) ≡ own_old i (take j held)
own_like i zero events held h = refl
own_like i (suc j) [] [] h = refl
own_like i (suc j) [] (x ∷ held) h = absurd (let n = h.count in omega arith)
own_like i (suc j) (e ∷ events) [] h = absurd (let n = h.count in omega arith)
own_like i (suc j) (e ∷ events) (x ∷ held) h =
    ap (λ s. flag (s == i) + own_events i (take j events)) (h.sources zero (omega arith))
    ∙ ap (λ n. flag (is_of i x) + n) (own_like i j events held (behind_first e events x held h))

-- and among all
pub own_all : (i : ℕ) (events : List Event) (held : List OldEvent) → AreLike events held → own_events i events ≡ own_old i held
own_all i events held h =
    let n = h.count in
    ap (own_events i) (sym (take_all (length events) events (omega arith)))
    ∙ (own_like i (length events) events held h ∙ ap (own_old i) (take_all (length events) held (omega arith)))

-- no more events are of a source than there are
pub own_few : (i j : ℕ) (held : List OldEvent) → own_old i (take j held) ≤ j
own_few i zero held = omega arith
own_few i (suc j) [] = omega arith
own_few i (suc j) (x ∷ held) =
    elim (cases_Bool (is_of i x)) [
      | inl is ↦ let one : flag (is_of i x) ≡ 1 = ap flag is in let rest = own_few i j held in omega arith
      | inr isnt ↦ let none : flag (is_of i x) ≡ 0 = ap flag isnt in let rest = own_few i j held in omega arith
    ]

pub own_most : (i : ℕ) (held : List OldEvent) → own_old i held ≤ length held
own_most i held = subst (λ l. own_old i l ≤ length held) (take_all (length held) held (omega arith)) (own_few i (length held) held)

-- before one of them there are fewer than in all
pub own_before : (i k : ℕ) (held : List OldEvent) → k < length held → (old_event_at held k).source.0 ≡ i → own_old i (take k held) < own_old i held
own_before i k [] lt own = absurd (omega arith)
own_before i zero (x ∷ held) lt own = let one : flag (is_of i x) ≡ 1 = ap flag (eq-eqb _ _ own) in omega arith
own_before i (suc k) (x ∷ held) lt own = let rest = own_before i k held (omega arith) own in omega arith

-- the readings of source i rise among these, from a number on
pub record Rise (i from : ℕ) (held : List OldEvent) : Type 0 where
  pub least : (j : ℕ) → j < length held → (old_event_at held j).source.0 ≡ i → from ≤ (old_event_at held j).reading
  pub rising : (j : ℕ) → j < length held → (old_event_at held j).source.0 ≡ i → (k : ℕ) → k < j → (old_event_at held k).source.0 ≡ i →
      (old_event_at held k).reading < (old_event_at held j).reading

-- so many of them take it so far
pub rise_bound : (i from : ℕ) (held : List OldEvent) → Rise i from held → (own_old i held ≡ 0) ⊎ (from + own_old i held ≤ after_held i held)
rise_bound i from [] h = inl refl
rise_bound i from (x ∷ held) h =
    elim (cases_Bool (is_of i x)) [
      | inl is ↦
          let one : flag (is_of i x) ≡ 1 = ap flag is in
          let here : (if is_of i x then x.reading + 1 else 0) ≡ x.reading + 1 = ap (λ (b : Bool). if b then x.reading + 1 else 0) is in
          let own : x.source.0 ≡ i = eqb-true _ _ is in
          let first : from ≤ x.reading = h.least zero (omega arith) own in
          let rest : Rise i (from + 1) held = record {
            least = λ j lt its. let up = h.rising (suc j) (omega arith) its zero (omega arith) own in omega arith;
            rising = λ j lt its k less its_too. h.rising (suc j) (omega arith) its (suc k) (omega arith) its_too;
          } in
          inr (elim (rise_bound i (from + 1) held rest) [ inl none ↦ omega arith | inr some ↦ omega arith ])
      | inr isnt ↦
          let none : flag (is_of i x) ≡ 0 = ap flag isnt in
          let here : (if is_of i x then x.reading + 1 else 0) ≡ 0 = ap (λ (b : Bool). if b then x.reading + 1 else 0) isnt in
          let rest : Rise i from held = record {
            least = λ j lt its. h.least (suc j) (omega arith) its;
            rising = λ j lt its k less its_too. h.rising (suc j) (omega arith) its (suc k) (omega arith) its_too;
          } in
          elim (rise_bound i from held rest) [ inl zero_own ↦ inl (omega arith) | inr some ↦ inr (omega arith) ]
    ]

-- no event passes a test that none of them passes
pub none_pass : (test : Event → Bool) (events : List Event) → ((k : ℕ) → k < length events → test (event_at events k) ≡ false) → list_any test events ≡ false
none_pass test [] none = refl
none_pass test (e ∷ events) none = rw (none zero (omega arith)) (none_pass test events (λ k lt. none (suc k) (omega arith)))
