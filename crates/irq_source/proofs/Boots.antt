-- What the boot finds out: whether the last publication is in SRC.
use Rattle.irq_source.proofs.Common.{◌≡◌, ◌≢◌, inl, inr, ℕ, zero, suc, ◌+◌, ◌-◌, ◌%◌, ◌<◌, ◌≤◌, cond, nat_lt, Bool, true, false, List, [], ◌∷◌, length, refl, sym, ap, ◌∙◌, arith, cases_lt, cases_eq, nat_tests, some, some-injective, get_elem?, Won, won_below, element, below}
use Rattle.event_queue.proofs.Acks.{won_below-all}
use Rattle.irq_source.proofs.Basics.{same_count}

-- the positions rise
abbrev pub Rises : List Won → Type 0
Rises ms = (j n : ℕ) (a b : Won) → j < n → get_elem? ms j ≡ some a → get_elem? ms n ≡ some b → a.position < b.position

-- so do those after the first
later : (x : Won) (ms : List Won) → Rises (x ∷ ms) → Rises ms
later x ms r j n a b lt at_a at_b = r (suc j) (suc n) a b (omega arith) at_a at_b

-- as many positions lie between two of them
pub apart : (ms : List Won) (j n : ℕ) (a b : Won) → Rises ms → j ≤ n → get_elem? ms j ≡ some a → get_elem? ms n ≡ some b → a.position + n ≤ b.position + j
apart ms j zero a b r le at_a at_b = let same : j ≡ 0 = omega arith in omega (arith, ap (λ (m : Won). m.position) (some-injective a b (sym at_a ∙ ap (get_elem? ms) same ∙ at_b)))
apart ms j (suc n) a b r le at_a at_b =
    elim (cases_eq j (suc n)) [
      | inl same ↦ omega (arith, ap (λ (m : Won). m.position) (some-injective a b (sym at_a ∙ ap (get_elem? ms) same ∙ at_b)))
      | inr other ↦
          let c = element ms n (omega (arith, below ms (suc n) b at_b)) in
          let before : j ≤ n = by_cases le other in
          omega (arith, apart ms j n a c.0 r before at_a c.1, r n (suc n) c.0 b (omega arith) c.1 at_b)
    ]
  where
    by_cases : {x y : ℕ} → x ≤ suc y → x ≢ suc y → x ≤ y
    by_cases {x} {y} l other = elim (cases_lt x (suc y)) [ inl lt ↦ omega arith | inr ge ↦ absurd (other (omega arith)) ]

-- all but those of one turn are below a position that the last one is within a turn of
pub most_below : (ms : List Won) (c places : ℕ) → Rises ms → ((k : ℕ) (m : Won) → get_elem? ms k ≡ some m → m.position < c + places) → length ms ≤ won_below c ms + places
most_below [] c places r h = omega arith
most_below (x ∷ ms) c places r h =
    elim (cases_lt x.position c) [
      | inl lt ↦
          let one : cond {A = ℕ} (nat_lt x.position c) 1 0 ≡ 1 = ap (λ (b : Bool). cond {A = ℕ} b 1 0) (let t : nat_lt x.position c ≡ true = grind (arith, nat_tests) in t) in
          omega (arith, one, most_below ms c places (later x ms r) (λ k m at. h (suc k) m at))
      | inr ge ↦ elim (cases_lt (length ms) places) [
        | inl few ↦ omega arith
        | inr many ↦
            let b = element (x ∷ ms) (length ms) (omega arith) in
            let far = apart (x ∷ ms) 0 (length ms) x b.0 r (omega arith) refl b.1 in
            absurd (omega (arith, h (length ms) b.0 b.1))
      ]
    ]

-- no more than all
won_below-le : (c : ℕ) (ms : List Won) → won_below c ms ≤ length ms
won_below-le c [] = omega arith
won_below-le c (x ∷ ms) = omega (arith, here (nat_lt x.position c), won_below-le c ms)
  where
    here : (b : Bool) → cond {A = ℕ} b 1 0 ≤ 1
    here true = omega arith
    here false = omega arith

-- ACK, at a count of at least those that the seat knows to be released, is one above SRC's number exactly where SRC lacks the last publication, all of whose positions are released
pub ack_behind : (places a gone c w : ℕ) (ms : List Won) → places ≤ 32 → Rises ms → ((k : ℕ) (m : Won) → get_elem? ms k ≡ some m → m.position < gone + places) → gone ≤ c → w ≡ won_below c ms % 64 → a ≤ length ms → length ms ≤ a + 1
    → w ≡ (a + 1) % 64 → length ms ≡ a + 1
ack_behind places a gone c w ms few r recent le is least most hit =
    let low = most_below ms c places r (λ k m at. omega (arith, recent k m at)) in
    let high = won_below-le c ms in
    omega arith

-- and it is, where all of it is known to be released
pub ack_shows : (a gone c w : ℕ) (ms : List Won) → Rises ms → gone ≤ c → w ≡ won_below c ms % 64 → length ms ≡ a + 1 → ((m : Won) → get_elem? ms a ≡ some m → m.position < gone) → w ≡ (a + 1) % 64
ack_shows a gone c w ms r le is len past =
    let last = element ms a (omega arith) in
    let under = past last.0 last.1 in
    let all = won_below-all c ms (λ k m at. let d = apart ms k a m last.0 r (omega (arith, below ms k m at)) at last.1 in omega (arith, below ms k m at)) in
    is ∙ ap (λ (n : ℕ). n % 64) (all ∙ len)

-- an own event in a slot that isn't known to be released, with the count of SRC's number, is the publication that SRC lacks
pub seen_behind : (places a gone : ℕ) (ms : List Won) (j p c : ℕ) (m : Won) → places ≤ 32 → Rises ms → ((k : ℕ) (x : Won) → get_elem? ms k ≡ some x → x.position < gone + places) → a ≤ length ms → length ms ≤ a + 1
    → get_elem? ms j ≡ some m → m.position ≡ p → gone ≤ p → c ≡ j % 64 → c ≡ a % 64 → length ms ≡ a + 1
seen_behind places a gone ms j p c m few r recent least most at here le count same =
    let lt = below ms j m at in
    elim (cases_eq (length ms) (a + 1)) [
      | inl is ↦ is
      | inr other ↦
          let len : length ms ≡ a = same_count most least other in
          let last = element ms (a - 1) (omega arith) in
          let d = apart ms j (a - 1) m last.0 r (omega arith) at last.1 in
          let near = recent (a - 1) last.0 last.1 in
          absurd (omega arith)
    ]

-- there are no more publications than positions below them
pub few_below : (ms : List Won) (p : ℕ) → Rises ms → ((k : ℕ) (m : Won) → get_elem? ms k ≡ some m → m.position < p) → length ms ≤ p
few_below [] p r h = omega arith
few_below (x ∷ ms) p r h =
    let last = element (x ∷ ms) (length ms) (omega arith) in
    omega (arith, apart (x ∷ ms) 0 (length ms) x last.0 r (omega arith) refl last.1, h (length ms) last.0 last.1)
