-- What it means that no fault came, and the first fault of a loop.
use Rattle.prog_check.proofs.Common.{◌≡◌, ℕ, zero, suc, ◌+◌, ◌<◌, Bool, true, false, Option, Some, None, refl, ap, ◌∙◌, inl, inr, ◌⊎◌, arith, add-one, cases_lt, Cause, JobFault, unless, ◌or_else◌}
use Rattle.prog_check.specs.Faults.{first_below}

pub or_else_none : (p q : Option JobFault) → (p or_else q) ≡ None → (p ≡ None) × (q ≡ None)
or_else_none None q h = (refl, h)
or_else_none (Some f) q h = absurd (cc)

pub unless_none : (holds : Bool) (line : ℕ) (cause : Cause) → unless holds line cause ≡ None → holds ≡ true
unless_none true line cause h = refl
unless_none false line cause h = absurd (cc)

below_or_last : (k n : ℕ) → k < suc n → (k < n) ⊎ (k ≡ n)
below_or_last k n lt = elim (cases_lt k n) [ inl below ↦ inl below | inr above ↦ inr (omega arith) ]

-- no number below the count has a fault
pub each_none : (fault : ℕ → Option JobFault) (n : ℕ) → first_below fault n ≡ None → (k : ℕ) → k < n → fault k ≡ None
unfolding first_below
each_none fault zero h k lt = absurd (omega arith)
each_none fault (suc n) h k lt =
    let p = or_else_none (first_below fault n) (fault n) h in
    elim (below_or_last k n lt) [ inl below ↦ each_none fault n p.0 k below | inr last ↦ ap fault last ∙ p.1 ]

pub first_below_zero : (fault : ℕ → Option JobFault) → first_below fault 0 ≡ None
unfolding first_below
first_below_zero fault = refl

pub first_below_more : (fault : ℕ → Option JobFault) (n : ℕ) → first_below fault n ≡ None → fault n ≡ None → first_below fault (n + 1) ≡ None
unfolding first_below
first_below_more fault n front here = rw (add-one, front, here) refl

-- a fault behind which more numbers stand
pub first_below_at : (fault : ℕ → Option JobFault) (n count : ℕ) (f : JobFault) → first_below fault n ≡ None → fault n ≡ Some f → n < count → first_below fault count ≡ Some f
unfolding first_below
first_below_at fault n zero f front here lt = absurd (omega arith)
first_below_at fault n (suc count) f front here lt =
    elim (below_or_last n count lt) [
      | inl below ↦ rw (first_below_at fault n count f front here below) refl
      | inr last ↦ rw (← last, front) here
    ]
