-- Each role stands once over all views.
use Rattle.event_queue.proofs.Common.{◌≡◌, ◌≢◌, inl, inr, ℕ, zero, suc, ◌+◌, ◌<◌, ◌≤◌, ◌==◌, cond, if◌then◌else◌, Bool, true, false, List, [], ◌∷◌, ◌++◌, length, length-append, length-set, set, refl, sym, ap, ◌∙◌, subst, arith, ⊎_elim, eq-eqb, ne_eqb, eqb-true, cases_eq, some, some-ne-none, some-injective, get_elem?, at_set, Part, Role, Kernel, Clock, Source, Lay, Told, View, sole, joined, emptied, first_view, all_roles, sources_from, Seats, seat_of, IsRole, same_role, times_in, times_left, times_of, StandsOnce, maker}
use Rattle.event_queue.proofs.Basics.{below, snoc_cases}
use Rattle.event_queue.proofs.Seats.{seated, seated_here, seated_else}

-- the roles of one seat go to another
abbrev pub moved : ℕ → ℕ → ℕ → ℕ
moved from to n = if n == from then to else n

abbrev pub handed : Seats → ℕ → ℕ → Seats
handed o from to = record { kernel = moved from to o.kernel; clock = moved from to o.clock; source = λ i. moved from to (o.source i) }

pub moved_from : (from to n : ℕ) → n ≡ from → moved from to n ≡ to
moved_from from to n e = ap (λ (b : Bool). cond b to n) (eq-eqb n from e)

pub moved_else : (from to n : ℕ) → n ≢ from → moved from to n ≡ n
moved_else from to n e = ap (λ (b : Bool). cond b to n) (ne_eqb n from e)

pub seat_of-handed : (o : Seats) (from to : ℕ) (r : Role) → seat_of (handed o from to) r ≡ moved from to (seat_of o r)
seat_of-handed o from to Kernel = refl
seat_of-handed o from to Clock = refl
seat_of-handed o from to (Source i) = refl

-- 1 where two numbers are the same
abbrev bit : ℕ → ℕ → ℕ
bit a b = cond (a == b) 1 0

bit_same : (a b : ℕ) → a ≡ b → bit a b ≡ 1
bit_same a b e = ap (λ (c : Bool). cond {A = ℕ} c 1 0) (eq-eqb a b e)

bit_else : (a b : ℕ) → a ≢ b → bit a b ≡ 0
bit_else a b e = ap (λ (c : Bool). cond {A = ℕ} c 1 0) (ne_eqb a b e)

role_is : (r q : Role) → same_role r q ≡ true → r ≡ q
role_is Kernel Kernel e = refl
role_is Kernel Clock e = absurd cc
role_is Kernel (Source j) e = absurd cc
role_is Clock Kernel e = absurd cc
role_is Clock Clock e = refl
role_is Clock (Source j) e = absurd cc
role_is (Source i) Kernel e = absurd cc
role_is (Source i) Clock e = absurd cc
role_is (Source i) (Source j) e = ap Source (eqb-true i j e)

same_itself : (r : Role) → same_role r r ≡ true
same_itself Kernel = refl
same_itself Clock = refl
same_itself (Source i) = eq-eqb i i refl

role_else : (r q : Role) → same_role r q ≡ false → r ≢ q
role_else r q e same = let other : same_role r q ≡ true = subst (λ (z : Role). same_role r z ≡ true) same (same_itself r) in absurd cc

-- by the seat's number
stands : {o : Seats} {views : List View} {r : Role} (z : ℕ) → seat_of o r ≡ z → z < length views → ((j : ℕ) (u : View) → get_elem? views j ≡ some u → times_of r u ≡ bit j z) → StandsOnce o views r
stands z here lt once = record { there = omega (arith, here); once = λ j u at. once j u at ∙ ap (bit j) (sym here) }

-- a step of one seat gives no role away
pub once_step : {o : Seats} (views : List View) (id : ℕ) (v w : View) (r : Role) → get_elem? views id ≡ some v → times_of r w ≡ times_of r v → StandsOnce o views r → StandsOnce o (set views id w) r
once_step {o} views id v w r at same h = record {
  there = omega (arith, h.there, length-set views id w);
  once = λ j u is.
      ⊎_elim
      (λ (x : (j ≡ id) × (w ≡ u)). ap (times_of r) (sym x.1) ∙ same ∙ h.once id v at ∙ ap (λ (k : ℕ). bit k (seat_of o r)) (sym x.0))
      (λ (x : (j ≢ id) × (get_elem? views j ≡ some u)). h.once j u x.1)
      (at_set views id j w u is);
}

-- a new seat without a role
pub once_bare : {o : Seats} (views : List View) (w : View) (r : Role) → times_of r w ≡ 0 → StandsOnce o views r → StandsOnce o (views ++ w ∷ []) r
once_bare {o} views w r none h = record {
  there = omega (arith, h.there, length-append views (w ∷ []));
  once = λ j u is.
      elim (snoc_cases views w j u is) [
        | inl before ↦ h.once j u before.1
        | inr last ↦ ap (times_of r) (sym last.1) ∙ none ∙ sym (bit_else j (seat_of o r) (λ e. absurd (omega (arith, h.there, last.0))))
      ];
}

-- the first role that a seat has to give away goes to a new one
pub once_made : {o : Seats} (lay : Lay) (views : List View) (id : ℕ) (first : Role) (rest : List Role) (told : Told) (r : Role) → get_elem? views id ≡ some (maker lay (first ∷ rest)) → seat_of o first ≡ id → StandsOnce o views r
    → StandsOnce (seated o first (length views)) (set views id (maker lay rest) ++ sole lay first [] told ∷ []) r
once_made {o} lay views id first rest told r at seat h = by_role (same_role r first) refl
  where
    new : ℕ
    new = length views

    after : View
    after = maker lay rest

    fresh : View
    fresh = sole lay first [] told

    longer : length (set views id after ++ fresh ∷ []) ≡ new + 1
    longer = omega (arith, length-append (set views id after) (fresh ∷ []), length-set views id after)

    counted : cond {A = ℕ} (same_role r first) 1 0 + times_left r rest ≡ bit id (seat_of o r)
    counted = omega (arith, h.once id (maker lay (first ∷ rest)) at)

    by_role : (b : Bool) → same_role r first ≡ b → StandsOnce (seated o first new) (set views id after ++ fresh ∷ []) r
    by_role true is =
        let same : r ≡ first = role_is r first is in
        let here : seat_of (seated o first new) r ≡ new = ap (seat_of (seated o first new)) same ∙ seated_here o first new in
        let was : id ≡ seat_of o r = sym (ap (seat_of o) same ∙ seat) in
        let one : cond {A = ℕ} (same_role r first) 1 0 ≡ 1 = ap (λ (c : Bool). cond {A = ℕ} c 1 0) is in
        let none : times_left r rest ≡ 0 = omega (arith, counted, one, bit_same id (seat_of o r) was) in
        let none' : times_of r after ≡ 0 = omega (arith, none) in
        let fresh_has : times_of r fresh ≡ 1 = omega (arith, one) in
        stands new here (omega (arith, longer)) (λ j u at_j. elim (snoc_cases (set views id after) fresh j u at_j) [
          | inl before ↦
              let lt : j < new = omega (arith, before.0, length-set views id after) in
              let away : bit j new ≡ 0 = bit_else j new (λ e. absurd (omega arith)) in
              ⊎_elim
              (λ (x : (j ≡ id) × (after ≡ u)). ap (times_of r) (sym x.1) ∙ none' ∙ sym away)
              (λ (x : (j ≢ id) × (get_elem? views j ≡ some u)). h.once j u x.1 ∙ bit_else j (seat_of o r) (λ e. x.0 (e ∙ sym was)) ∙ sym away)
              (at_set views id j after u before.1)
          | inr last ↦ let at_end : j ≡ new = omega (arith, last.0, length-set views id after) in ap (times_of r) (sym last.1) ∙ fresh_has ∙ sym (bit_same j new at_end)
        ])
    by_role false is =
        let other : r ≢ first = role_else r first is in
        let here : seat_of (seated o first new) r ≡ seat_of o r = seated_else o first r new other in
        let zero_of : cond {A = ℕ} (same_role r first) 1 0 ≡ 0 = ap (λ (c : Bool). cond {A = ℕ} c 1 0) is in
        let left : times_left r rest ≡ bit id (seat_of o r) = omega (arith, counted, zero_of) in
        let left' : times_of r after ≡ bit id (seat_of o r) = omega (arith, left) in
        let fresh_has : times_of r fresh ≡ 0 = omega (arith, zero_of) in
        stands (seat_of o r) here (omega (arith, longer, h.there)) (λ j u at_j. elim (snoc_cases (set views id after) fresh j u at_j) [
          | inl before ↦
              ⊎_elim
              (λ (x : (j ≡ id) × (after ≡ u)). ap (times_of r) (sym x.1) ∙ left' ∙ ap (λ (k : ℕ). bit k (seat_of o r)) (sym x.0))
              (λ (x : (j ≢ id) × (get_elem? views j ≡ some u)). h.once j u x.1)
              (at_set views id j after u before.1)
          | inr last ↦ let at_end : j ≡ new = omega (arith, last.0, length-set views id after) in ap (times_of r) (sym last.1) ∙ fresh_has ∙ sym (bit_else j (seat_of o r) (λ e. absurd (omega (arith, h.there))))
        ])

times_in-append : (r : Role) (xs ys : List Part) → times_in r (xs ++ ys) ≡ times_in r xs + times_in r ys
times_in-append r [] ys = omega arith
times_in-append r (x ∷ xs) ys = omega (arith, times_in-append r xs ys)

-- the roles of one seat go to another, which has none left to give away
pub once_joined : {o : Seats} (views : List View) (id : ℕ) (v : View) (other : ℕ) (w : View) (r : Role) → id ≢ other → w.to_make ≡ [] → get_elem? views id ≡ some v → get_elem? views other ≡ some w → StandsOnce o views r
    → StandsOnce (handed o other id) (set (set views id (joined v w)) other emptied) r
once_joined {o} views id v other w r differs idle at at_w h = elim (cases_eq s other) [ inl same ↦ from_other same | inr apart ↦ from_else apart ]
  where
    s : ℕ
    s = seat_of o r

    s' : ℕ
    s' = seat_of (handed o other id) r

    views' : List View
    views' = set (set views id (joined v w)) other emptied

    long : length views' ≡ length views
    long = omega (arith, length-set (set views id (joined v w)) other emptied, length-set views id (joined v w))

    both : times_of r (joined v w) ≡ bit id s + bit other s
    both =
        let none : times_left r w.to_make ≡ 0 = ap (times_left r) idle in
        let one : times_of r v ≡ bit id s = h.once id v at in
        let two : times_of r w ≡ bit other s = h.once other w at_w in
        omega (arith, times_in-append r v.parts w.parts)

    by_seat : s' < length views → ((j : ℕ) → j ≢ other → j ≢ id → bit j s ≡ bit j s') → bit id s + bit other s ≡ bit id s' → bit other s' ≡ 0 → StandsOnce (handed o other id) views' r
    by_seat lt else_same here gone = record {
      there = omega (arith, long);
      once = λ j u is.
          ⊎_elim
          (λ (x : (j ≡ other) × (emptied ≡ u)). ap (times_of r) (sym x.1) ∙ sym gone ∙ ap (λ (k : ℕ). bit k s') (sym x.0))
          (λ (x : (j ≢ other) × (get_elem? (set views id (joined v w)) j ≡ some u)).
          ⊎_elim
          (λ (y : (j ≡ id) × (joined v w ≡ u)). ap (times_of r) (sym y.1) ∙ both ∙ here ∙ ap (λ (k : ℕ). bit k s') (sym y.0))
          (λ (y : (j ≢ id) × (get_elem? views j ≡ some u)). h.once j u y.1 ∙ else_same j x.0 y.0)
          (at_set views id j (joined v w) u x.1))
          (at_set (set views id (joined v w)) other j emptied u is);
    }

    from_other : s ≡ other → StandsOnce (handed o other id) views' r
    from_other same =
        let now : s' ≡ id = seat_of-handed o other id r ∙ moved_from other id s same in
        by_seat (omega (arith, now, below views id v at)) (λ j a b. bit_else j s (λ e. a (e ∙ same)) ∙ sym (bit_else j s' (λ e. b (e ∙ now))))
        (omega (arith, bit_else id s (λ e. differs (e ∙ same)), bit_same other s (sym same), bit_same id s' (sym now))) (bit_else other s' (λ e. differs (sym (e ∙ now))))

    from_else : s ≢ other → StandsOnce (handed o other id) views' r
    from_else apart =
        let now : s' ≡ s = seat_of-handed o other id r ∙ moved_else other id s apart in
        by_seat (omega (arith, now, h.there)) (λ j a b. ap (bit j) (sym now)) (omega (arith, bit_else other s (λ e. apart (sym e)), ap (bit id) now)) (bit_else other s' (λ e. apart (sym now ∙ sym e)))

no_kernel : (i n : ℕ) → times_left Kernel (sources_from i n) ≡ 0
no_kernel i zero = refl
no_kernel i (suc n) = omega (arith, no_kernel (suc i) n)

no_clock : (i n : ℕ) → times_left Clock (sources_from i n) ≡ 0
no_clock i zero = refl
no_clock i (suc n) = omega (arith, no_clock (suc i) n)

none_before : (k i n : ℕ) → k < i → times_left (Source k) (sources_from i n) ≡ 0
none_before k i zero lt = refl
none_before k i (suc n) lt = omega (arith, bit_else k i (λ e. absurd (omega arith)), none_before k (suc i) n (omega arith))

one_source : (k i n : ℕ) → i ≤ k → k < i + n → times_left (Source k) (sources_from i n) ≡ 1
one_source k i zero le lt = absurd (omega arith)
one_source k i (suc n) le lt =
    elim (cases_eq k i) [
      | inl same ↦ omega (arith, bit_same k i same, none_before k (suc i) n (omega arith))
      | inr other ↦ omega (arith, bit_else k i other, one_source k (suc i) n (let more : suc i ≤ k = by_cases le other in more) (omega arith))
    ]
  where
    by_cases : {a b : ℕ} → a ≤ b → b ≢ a → suc a ≤ b
    by_cases {a} {b} le apart = elim (cases_eq b a) [ inl same ↦ absurd (apart same) | inr differs ↦ omega arith ]

once_among : (n : ℕ) (lay : Lay) (r : Role) → n ≡ length lay.sources → IsRole lay r → times_left r (all_roles n) ≡ 1
once_among n lay Kernel len is = omega (arith, no_kernel 0 n)
once_among n lay Clock len is = omega (arith, no_clock 0 n)
once_among n lay (Source i) len is = omega (arith, one_source i 0 n (omega arith) (omega (arith, is)))

-- at the start the one seat has all roles to give away
pub once_first : {o : Seats} (lay : Lay) (r : Role) → seat_of o r ≡ 0 → IsRole lay r → StandsOnce o (first_view lay ∷ []) r
once_first {o} lay r at is = record {
  there = omega (arith, at);
  once = one;
}
  where
    first_has : times_of r (first_view lay) ≡ 1
    first_has = omega (arith, once_among (length lay.sources) lay r refl is)

    one : (id : ℕ) (v : View) → get_elem? (first_view lay ∷ []) id ≡ some v → times_of r v ≡ bit id (seat_of o r)
    one zero v e = ap (times_of r) (sym (some-injective _ _ e)) ∙ first_has ∙ sym (bit_same 0 (seat_of o r) (sym at))
    one (suc id) v e = absurd (some-ne-none v (sym e))
