-- The first place of a list that passes a test.
use Rattle.task_run.proofs.Common.{◌≡◌, ◌≤◌, Bool, List, length, arith, refl, inl, inr, nat_lt, not, unwrap_or, ltb-false, position, position_or_len, cases_Bool, prefix_len-le-length}

pub unwrap_or-position : {X : Type 0} (p : X → Bool) (xs : List X) → unwrap_or (position p xs) (length xs) ≡ position_or_len p xs
unwrap_or-position p xs =
    elim (cases_Bool (nat_lt (position_or_len p xs) (length xs))) [
      | inl t ↦ rw t refl
      | inr f ↦
          let beyond : length xs ≤ position_or_len p xs = ltb-false (position_or_len p xs) (length xs) f in
          let within : position_or_len p xs ≤ length xs = prefix_len-le-length (λ x. not (p x)) xs in
          rw f (omega arith)
    ]

-- for the function that looks a task up
pub ruleset first_place = (unwrap_or-position)
