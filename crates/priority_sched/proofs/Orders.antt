-- The next thread of a scan is the one of the greatest priority below that of the last one.
use Rattle.priority_sched.proofs.Common.{◌≡◌, ℕ, zero, suc, ◌<◌, ◌≤◌, length, Option, Some, None, arith, sym, inl, inr, subst, lt-ltb, le-ltb, cases_lt, cases_eq, ThreadId, Program, IsAccepted, priority_of, better, next_among, IsHighest}

-- the numbers below one more: those below it, and it
last_or_below : (P : ℕ → Type 0) (t : ℕ) → ((u : ℕ) → u < t → P u) → P t → (u : ℕ) → u < suc t → P u
last_or_below P t below here u lt = elim (cases_eq u t) [ inl e ↦ subst P (sym e) here | inr ne ↦ below u (omega arith) ]

-- a thread at or above the bound is passed over
out_of_bound : (program : Program) (bound t : ℕ) (best : Option ThreadId) → bound ≤ priority_of program t → IsHighest program bound t best → IsHighest program bound (suc t) best
out_of_bound program bound t None le h = last_or_below (λ u. bound ≤ priority_of program u) t h le
out_of_bound program bound t (Some b) le h = (
  (let lt : b.0 < t = h.0 in omega arith),
  h.1,
  last_or_below (λ u. priority_of program u < bound → priority_of program u ≤ priority_of program b.0) t h.2 (λ lt. absurd (omega arith)),
)

better-below : (program : Program) (bound t : ℕ) (best : Option ThreadId) → priority_of program t < bound → IsHighest program bound t best →
    IsHighest program bound (suc t) (better program bound t best)
better-below program bound t None lt h =
    rw (lt-ltb (priority_of program t) bound lt) (
      (let e : t < suc t = omega arith in e),
      lt,
      last_or_below (λ u. priority_of program u < bound → priority_of program u ≤ priority_of program t) t
          (λ u below within. let out : bound ≤ priority_of program u = h u below in absurd (omega arith)) (λ _. omega arith),
    )
better-below program bound t (Some b) lt h =
    elim (cases_lt (priority_of program b.0) (priority_of program t)) [
      | inl above ↦
          rw (lt-ltb (priority_of program t) bound lt, lt-ltb (priority_of program b.0) (priority_of program t) above) (
            (let e : t < suc t = omega arith in e),
            lt,
            last_or_below (λ u. priority_of program u < bound → priority_of program u ≤ priority_of program t) t
                (λ u below within. let old : priority_of program u ≤ priority_of program b.0 = h.2 u below within in omega arith) (λ _. omega arith),
          )
      | inr low ↦
          rw (lt-ltb (priority_of program t) bound lt, le-ltb (priority_of program b.0) (priority_of program t) low) (
            (let old : b.0 < t = h.0 in omega arith),
            h.1,
            last_or_below (λ u. priority_of program u < bound → priority_of program u ≤ priority_of program b.0) t h.2 (λ _. low),
          )
    ]

better_is_highest : (program : Program) (bound t : ℕ) (best : Option ThreadId) → IsHighest program bound t best → IsHighest program bound (suc t) (better program bound t best)
better_is_highest program bound t best h =
    elim (cases_lt (priority_of program t) bound) [
      | inl lt ↦ better-below program bound t best lt h
      | inr le ↦ rw (le-ltb (priority_of program t) bound le) (out_of_bound program bound t best le h)
    ]

pub next_is_highest : (program : Program) (bound count : ℕ) → IsHighest program bound count (next_among program bound count)
next_is_highest program bound zero = λ u lt. absurd (omega arith)
next_is_highest program bound (suc t) = better_is_highest program bound t (next_among program bound t) (next_is_highest program bound t)

-- two threads of one priority are one
pub same_priority : (program : Program) (t u : ℕ) → IsAccepted program → t < length program.threads → u < length program.threads →
    priority_of program t ≡ priority_of program u → t ≡ u
same_priority program t u accepted known within e =
    elim (cases_lt t u) [
      | inl lt ↦ absurd (accepted.distinct.priorities t u lt within e)
      | inr le ↦ elim (cases_lt u t) [
        | inl lt ↦ absurd (accepted.distinct.priorities u t lt known (sym e))
        | inr ge ↦ omega arith
      ]
    ]
