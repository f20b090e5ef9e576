-- The test of an image answers whether it is worn.
use Rattle.image_state.proofs.Common.{◌≡◌, inl, inr, ℕ, zero, suc, ◌+◌, ◌^◌, ◌<◌, ◌≤◌, nat_le, Bool, true, false, List, length, subst, arith, cases_eq, lt-ltb, ltb-true, le-leb, leb-true, or_cases, or_from, or_left, or_right, Program, Memory, Clock, committed, written_of, IsWorn, ManyReadings, LateClock, ManyCommits, ManyServices, ManyWritten, ManyTaken, ManyPositions, any_below, is_high, wears, wears_source, wears_thread, wears_queue, wears_pipe}
use Rattle.fram_words.specs.Header as header

-- one that passes is below the count
pub any_from : (test : ℕ → Bool) (count n : ℕ) → n < count → test n ≡ true → any_below test count ≡ true
any_from test zero n lt is = absurd (omega arith)
any_from test (suc k) n lt is =
    elim (cases_eq n k) [
      | inl here ↦ or_right (any_below test k) (test k) (subst (λ (j : ℕ). test j ≡ true) here is)
      | inr before ↦ or_left (any_below test k) (test k) (any_from test k n (omega (arith, before, lt)) is)
    ]

-- and none below one more
pub any_not : (test : ℕ → Bool) (n : ℕ) → any_below test n ≡ false → test n ≡ false → any_below test (n + 1) ≡ false
any_not test n before here = subst (λ (k : ℕ). any_below test k ≡ false) (let more : suc n ≡ n + 1 = omega arith in more) (or_from (any_below test n) (test n) before here)

pub any_at : (test : ℕ → Bool) (count : ℕ) → any_below test count ≡ true → (n : ℕ) × (n < count) × (test n ≡ true)
any_at test zero is = absurd (cc)
any_at test (suc k) is =
    elim (or_cases (any_below test k) (test k) is) [
      | inl before ↦ let found = any_at test k before in (found.0, omega (arith, found.1), found.2)
      | inr here ↦ (k, omega arith, here)
    ]

module _ (program : Program) (listed : List ℕ) (words : Memory) where
  thread_worn : (t : ℕ) → t < length program.threads → wears_thread program listed words t ≡ true → IsWorn program listed words
  thread_worn t known is =
      elim (or_cases (is_high (committed words t header.stamp)) _ is) [
        | inl stamp ↦ ManyCommits t known (leb-true _ _ stamp)
        | inr a ↦ elim (or_cases (is_high (committed words t header.served)) _ a) [
          | inl served ↦ ManyServices t header.served known (omega arith) (omega arith) (leb-true _ _ served)
          | inr b ↦ elim (or_cases (is_high (committed words t header.trapped)) _ b) [
            | inl trapped ↦ ManyServices t header.trapped known (omega arith) (omega arith) (leb-true _ _ trapped)
            | inr c ↦ elim (or_cases (is_high (committed words t header.expired)) _ c) [
              | inl expired ↦ ManyServices t header.expired known (omega arith) (omega arith) (leb-true _ _ expired)
              | inr positions ↦ ManyPositions t known (ltb-true _ _ positions)
            ]
          ]
        ]
      ]

  pipe_worn : (q : ℕ) → q < length program.pipes → wears_pipe program words q ≡ true → IsWorn program listed words
  pipe_worn q known is =
      elim (or_cases (is_high (written_of program words q)) _ is) [
        | inl written ↦ ManyWritten q known (leb-true _ _ written)
        | inr taken ↦ ManyTaken q known (leb-true _ _ taken)
      ]

  -- what passes the test is worn
  pub worn_from : wears program listed words ≡ true → IsWorn program listed words
  worn_from is =
      elim (or_cases (nat_le (2 ^ 46) (words Clock)) _ is) [
        | inl late ↦ LateClock (leb-true _ _ late)
        | inr a ↦ elim (or_cases (any_below (wears_source program listed words) (length program.sources)) _ a) [
          | inl some ↦ let found = any_at (wears_source program listed words) (length program.sources) some in ManyReadings found.0 found.1 (ltb-true _ _ found.2)
          | inr b ↦ elim (or_cases (any_below (wears_thread program listed words) (length program.threads)) _ b) [
            | inl some ↦ let found = any_at (wears_thread program listed words) (length program.threads) some in thread_worn found.0 found.1 found.2
            | inr some ↦ let found = any_at (wears_pipe program words) (length program.pipes) some in pipe_worn found.0 found.1 found.2
          ]
        ]
      ]

  -- a worn part wears the image
  by_source : any_below (wears_source program listed words) (length program.sources) ≡ true → wears program listed words ≡ true
  by_source is = or_right (nat_le (2 ^ 46) (words Clock)) _ (or_left (any_below (wears_source program listed words) (length program.sources)) _ is)

  by_thread : (t : ℕ) → t < length program.threads → wears_thread program listed words t ≡ true → wears program listed words ≡ true
  by_thread t known is =
      or_right (nat_le (2 ^ 46) (words Clock)) _ (or_right (any_below (wears_source program listed words) (length program.sources)) _
      (or_left (any_below (wears_thread program listed words) (length program.threads)) _ (any_from (wears_thread program listed words) (length program.threads) t known is)))

  by_pipe : (q : ℕ) → q < length program.pipes → wears_pipe program words q ≡ true → wears program listed words ≡ true
  by_pipe q known is =
      or_right (nat_le (2 ^ 46) (words Clock)) _ (or_right (any_below (wears_source program listed words) (length program.sources)) _
      (or_right (any_below (wears_thread program listed words) (length program.threads)) _ (any_from (wears_pipe program words) (length program.pipes) q known is)))

  -- a count of services that is high
  services_high : (t w : ℕ) → header.served ≤ w → w ≤ header.expired → 2 ^ 31 ≤ committed words t w → wears_thread program listed words t ≡ true
  services_high t w from to many =
      or_right (is_high (committed words t header.stamp)) _
      (elim (cases_eq w header.served) [
        | inl served ↦ or_left (is_high (committed words t header.served)) _ (le-leb _ _ (subst (λ (v : ℕ). 2 ^ 31 ≤ committed words t v) served many))
        | inr a ↦ or_right (is_high (committed words t header.served)) _
            (elim (cases_eq w header.trapped) [
              | inl trapped ↦ or_left (is_high (committed words t header.trapped)) _ (le-leb _ _ (subst (λ (v : ℕ). 2 ^ 31 ≤ committed words t v) trapped many))
              | inr b ↦ or_right (is_high (committed words t header.trapped)) _
                  (or_left (is_high (committed words t header.expired)) _ (le-leb _ _
                  (subst (λ (v : ℕ). 2 ^ 31 ≤ committed words t v) (let last : w ≡ header.expired = omega (arith, from, to, a, b) in last) many)))
            ])
      ])

  positions_out : (t : ℕ) → wears_queue program listed words t ≡ true → wears_thread program listed words t ≡ true
  positions_out t is =
      or_right (is_high (committed words t header.stamp)) _ (or_right (is_high (committed words t header.served)) _
      (or_right (is_high (committed words t header.trapped)) _ (or_right (is_high (committed words t header.expired)) _ is)))

  -- what is worn passes it
  pub worn_to : IsWorn program listed words → wears program listed words ≡ true
  worn_to (ManyReadings i known many) = by_source (any_from (wears_source program listed words) (length program.sources) i known (lt-ltb _ _ many))
  worn_to (LateClock late) = or_left (nat_le (2 ^ 46) (words Clock)) _ (le-leb _ _ late)
  worn_to (ManyCommits t known many) = by_thread t known (or_left (is_high (committed words t header.stamp)) _ (le-leb _ _ many))
  worn_to (ManyServices t w known from to many) = by_thread t known (services_high t w from to many)
  worn_to (ManyWritten q known many) = by_pipe q known (or_left (is_high (written_of program words q)) _ (le-leb _ _ many))
  worn_to (ManyTaken q known many) = by_pipe q known (or_right (is_high (written_of program words q)) _ (le-leb _ _ many))
  worn_to (ManyPositions t known many) = by_thread t known (positions_out t (lt-ltb _ _ many))
