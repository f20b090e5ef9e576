-- Counts of calls, and what an answer says of them.
use Rattle.std.specs.Prelude.{◌≡◌, ℕ, ◌+◌, ◌-◌, ◌^◌, ◌≤◌, min, max, Result, OnOk, OnErr, MatchResult}

-- one more, or the same where a count has come to its last value
abbrev pub next_count : ℕ → ℕ
next_count n = max n (min (n + 1) (2 ^ 64 - 1))

-- the count rose
abbrev pub Rose : ℕ → ℕ → Type 0
Rose before now = next_count before ≤ now

-- the count of faults never falls, rises with each error, and stays where there is none
pub record HasCause {T E : Type 0} (before now : ℕ) (result : Result T E) : Type 0 where
  pub later : before ≤ now
  pub failed : OnErr result (Rose before now)
  pub kept : OnOk result (now ≡ before)

-- the count grows by one at each Ok, and by nothing else
abbrev pub CountsOk : {T E : Type 0} → ℕ → ℕ → Result T E → Type 0
CountsOk before now result = MatchResult result (λ _. now ≡ next_count before) (λ _. now ≡ before)
