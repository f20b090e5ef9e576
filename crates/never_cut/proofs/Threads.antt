-- A state with one thread in another's place.
use Rattle.never_cut.proofs.Common.{◌≡◌, ◌≢◌, inl, inr, ℕ, ◌<◌, List, length, get_or, set, sym, ap, ◌∙◌, get_or-set_same, get_or-set_other, cases_eq, cases_lt, set_past, get_or-set_at, Model, ThreadModel, no_thread, thread_of, with_thread}

pub thread_of-with_same : (m : Model) (t : ℕ) (x : ThreadModel) → t < length m.threads → thread_of (with_thread m t x) t ≡ x
thread_of-with_same m t x lt = get_or-set_same m.threads t x no_thread lt

pub thread_of-with_other : (m : Model) (t u : ℕ) (x : ThreadModel) → u ≢ t → thread_of (with_thread m t x) u ≡ thread_of m u
thread_of-with_other m t u x ne = get_or-set_other m.threads t u x no_thread ne

-- what an element has in common with the one in its place, each element has in common with its successor
pub kept-at : {A X : Type 0} (d : A) (part : A → X) (xs : List A) (s t : ℕ) (x : A) → part x ≡ part (get_or xs s d) → part (get_or (set xs s x) t d) ≡ part (get_or xs t d)
kept-at d part xs s t x same =
    elim (cases_eq t s) [
      | inl is ↦
          elim (cases_lt s (length xs)) [
            | inl within ↦ ap part (get_or-set_at xs s t x d is within) ∙ same ∙ ap (λ k. part (get_or xs k d)) (sym is)
            | inr past ↦ ap (λ ys. part (get_or ys t d)) (set_past xs s x past)
          ]
      | inr apart ↦ ap part (get_or-set_other xs s t x d apart)
    ]

pub kept-set : {X : Type 0} (part : ThreadModel → X) (xs : List ThreadModel) (s t : ℕ) (x : ThreadModel) → part x ≡ part (get_or xs s no_thread) →
    part (get_or (set xs s x) t no_thread) ≡ part (get_or xs t no_thread)
kept-set part xs s t x same = kept-at no_thread part xs s t x same
