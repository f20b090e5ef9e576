-- The counts of one source's events in a queue.
use Rattle.source_laws.proofs.Common.{◌≡◌, inl, inr, ℕ, zero, suc, ◌+◌, ◌%◌, ◌<◌, ◌≤◌, ◌==◌, Bool, true, false, List, [], ◌∷◌, ◌++◌, length, drop, sym, ap, ◌∙◌, arith, MatchBool, eq-eqb, ne_eqb, cases_eq, MatchBool-at_true, MatchBool-at_false, Event, event_at, event_source, event_count, HoldsNumber, Numbered, is_number}

match_true : (b : Bool) (P Q : Type 0) → b ≡ true → P → MatchBool b P Q
match_true true P Q e p = p
match_true false P Q e p = absurd cc

match_false : (b : Bool) (P Q : Type 0) → b ≡ false → Q → MatchBool b P Q
match_false false P Q e q = q
match_false true P Q e q = absurd cc

-- an own event in front, and another's
numbered_own : (i : ℕ) (e : Event) (held : List Event) (first last : ℕ) → event_source e ≡ i → Numbered i (e ∷ held) first last → (event_count e ≡ first % 64) × Numbered i held (first + 1) last
numbered_own i e held first last own h = MatchBool-at_true _ _ (eq-eqb (event_source e) i own) h

numbered_other : (i : ℕ) (e : Event) (held : List Event) (first last : ℕ) → (event_source e ≡ i → ⊥) → Numbered i (e ∷ held) first last → Numbered i held first last
numbered_other i e held first last other h = MatchBool-at_false _ _ (ne_eqb (event_source e) i other) h

make_own : (i : ℕ) (e : Event) (held : List Event) (first last : ℕ) → event_source e ≡ i → event_count e ≡ first % 64 → Numbered i held (first + 1) last → Numbered i (e ∷ held) first last
make_own i e held first last own c h = match_true (event_source e == i) _ _ (eq-eqb (event_source e) i own) (c, h)

make_other : (i : ℕ) (e : Event) (held : List Event) (first last : ℕ) → (event_source e ≡ i → ⊥) → Numbered i held first last → Numbered i (e ∷ held) first last
make_other i e held first last other h = match_false (event_source e == i) _ _ (ne_eqb (event_source e) i other) h

-- no more are numbered than are held
pub numbered_range : (i : ℕ) (held : List Event) (first last : ℕ) → Numbered i held first last → (first ≤ last) × (last ≤ first + length held)
numbered_range i [] first last h = (omega arith, omega arith)
numbered_range i (e ∷ held) first last h =
    elim (cases_eq (event_source e) i) [
      | inl own ↦ let t = numbered_range i held (first + 1) last (numbered_own i e held first last own h).1 in (omega (arith, t.0), omega (arith, t.1))
      | inr other ↦ let t = numbered_range i held first last (numbered_other i e held first last other h) in (omega (arith, t.0), omega (arith, t.1))
    ]

-- an own event's count is that of a number in the range
abbrev pub HasNumber : ℕ → ℕ → Event → Type 0
HasNumber first last e = (n : ℕ) × (first ≤ n) × (n < last) × (event_count e ≡ n % 64)

pub numbered_at : (i : ℕ) (held : List Event) (first last j : ℕ) → Numbered i held first last → j < length held → event_source (event_at held j) ≡ i → HasNumber first last (event_at held j)
numbered_at i [] first last j h lt own = absurd (omega arith)
numbered_at i (e ∷ held) first last zero h lt own =
    let t = numbered_own i e held first last own h in
    (first, omega arith, omega (arith, (numbered_range i held (first + 1) last t.1).0), t.0)
numbered_at i (e ∷ held) first last (suc j) h lt own =
    elim (cases_eq (event_source e) i) [
      | inl mine ↦
          let t = numbered_at i held (first + 1) last j (numbered_own i e held first last mine h).1 (omega arith) own in
          (t.0, omega (arith, t.1), t.2, t.3)
      | inr other ↦ numbered_at i held first last j (numbered_other i e held first last other h) (omega arith) own
    ]

later : (i a : ℕ) (e : Event) (held : List Event) → HoldsNumber i a held → HoldsNumber i a (e ∷ held)
later i a e held h = (suc h.0, omega (arith, h.1), h.2)

-- the last number is that of an event that is held
pub numbered_last : (i : ℕ) (held : List Event) (first a : ℕ) → i < 256 → Numbered i held first (a + 1) → first < a + 1 → HoldsNumber i a held
numbered_last i [] first a few h lt = absurd (omega arith)
numbered_last i (e ∷ held) first a few h lt =
    elim (cases_eq (event_source e) i) [
      | inl own ↦
          let t = numbered_own i e held first (a + 1) own h in
          elim (cases_eq first a) [
            | inl same ↦ (zero, omega arith, is_number i a e few own (t.0 ∙ ap (λ n. n % 64) same))
            | inr more ↦ later i a e held (numbered_last i held (first + 1) a few t.1 (omega arith))
          ]
      | inr other ↦ later i a e held (numbered_last i held first a few (numbered_other i e held first (a + 1) other h) lt)
    ]

-- one more event
pub numbered_push_own : (i : ℕ) (held : List Event) (first last : ℕ) (e : Event) → event_source e ≡ i → event_count e ≡ last % 64 → Numbered i held first last → Numbered i (held ++ e ∷ []) first (last + 1)
numbered_push_own i [] first last e own c h = make_own i e [] first (last + 1) own (c ∙ ap (λ n. n % 64) (sym h)) (ap (λ n. n + 1) h)
numbered_push_own i (x ∷ held) first last e own c h =
    elim (cases_eq (event_source x) i) [
      | inl mine ↦
          let t = numbered_own i x held first last mine h in
          make_own i x (held ++ e ∷ []) first (last + 1) mine t.0 (numbered_push_own i held (first + 1) last e own c t.1)
      | inr other ↦ make_other i x (held ++ e ∷ []) first (last + 1) other (numbered_push_own i held first last e own c (numbered_other i x held first last other h))
    ]

pub numbered_push_other : (i : ℕ) (held : List Event) (first last : ℕ) (e : Event) → (event_source e ≡ i → ⊥) → Numbered i held first last → Numbered i (held ++ e ∷ []) first last
numbered_push_other i [] first last e not_own h = make_other i e [] first last not_own h
numbered_push_other i (x ∷ held) first last e not_own h =
    elim (cases_eq (event_source x) i) [
      | inl mine ↦
          let t = numbered_own i x held first last mine h in
          make_own i x (held ++ e ∷ []) first last mine t.0 (numbered_push_other i held (first + 1) last e not_own t.1)
      | inr other ↦ make_other i x (held ++ e ∷ []) first last other (numbered_push_other i held first last e not_own (numbered_other i x held first last other h))
    ]

-- the first event leaves
pub numbered_release_own : (i : ℕ) (held : List Event) (first last : ℕ) → 0 < length held → event_source (event_at held 0) ≡ i → Numbered i held first last → (event_count (event_at held 0) ≡ first % 64) × Numbered i (drop 1 held) (first + 1) last
numbered_release_own i [] first last some own h = absurd (omega arith)
numbered_release_own i (e ∷ held) first last some own h = numbered_own i e held first last own h

pub numbered_release_other : (i : ℕ) (held : List Event) (first last : ℕ) → 0 < length held → (event_source (event_at held 0) ≡ i → ⊥) → Numbered i held first last → Numbered i (drop 1 held) first last
numbered_release_other i [] first last some other h = absurd (omega arith)
numbered_release_other i (e ∷ held) first last some other h = numbered_other i e held first last other h
