-- The threads that a scan has looked at, after one more.
use Rattle.priority_sched.proofs.Common.{◌≡◌, ◌≢◌, ℕ, true, List, [], ◌∷◌, ◌++◌, refl, sym, inl, inr, ◌==◌, eq-eqb, ne_eqb, cases_Bool, ThreadId, is_looked}

-- the last one was looked at
pub looked-last : (looked : List ThreadId) (t : ThreadId) → is_looked (looked ++ t ∷ []) t.0 ≡ true
looked-last [] t = rw (eq-eqb t.0 t.0 refl) refl
looked-last (v ∷ looked) t = elim (cases_Bool (v.0 == t.0)) [ inl e ↦ rw e refl | inr e ↦ rw e (looked-last looked t) ]

-- and of the others those that were before
pub looked-other : (looked : List ThreadId) (t : ThreadId) (u : ℕ) → u ≢ t.0 → is_looked (looked ++ t ∷ []) u ≡ is_looked looked u
looked-other [] t u ne = rw (ne_eqb t.0 u (λ e. ne (sym e))) refl
looked-other (v ∷ looked) t u ne = elim (cases_Bool (v.0 == u)) [ inl e ↦ rw e refl | inr e ↦ rw e (looked-other looked t u ne) ]

-- one that was looked at stays so
pub looked-more : (looked : List ThreadId) (t : ThreadId) (u : ℕ) → is_looked looked u ≡ true → is_looked (looked ++ t ∷ []) u ≡ true
looked-more [] t u h = absurd cc
looked-more (v ∷ looked) t u h = elim (cases_Bool (v.0 == u)) [ inl e ↦ rw e refl | inr e ↦ rw e (looked-more looked t u (rw e at h)) ]
