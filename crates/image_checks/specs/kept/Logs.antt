-- The check of logs, in two parts: what a log word asks of its own log, and that its stamp stands in no earlier one.
use Rattle.std.specs.Prelude.{◌≡◌, ◌≢◌, ◌+◌, ◌<◌, ◌≤◌, ℕ}
use Rattle.fram_words.specs.Places.{Memory}
use Rattle.fram_words.specs.Header as header
use Rattle.thread_state.specs.Pages.{committed}
use Rattle.never_cut.specs.Image.{stamp_at}
use Rattle.image_checks.specs.Failing.{HoldsBelow}
pub use Rattle.image_checks.specs.Failing.{OutputsFit}

-- below a count P holds of the numbers before the end, and not of the end where that is below the count
pub record IsEnd (P : ℕ → Type 0) (count end : ℕ) : Type 0 where
  pub within : end ≤ count
  pub before : HoldsBelow P end
  pub fails : end < count → ¬ P end

-- the stamp of an output is from 1 to the thread's own, and isn't less than the one before it
pub record IsInOrder (words : Memory) (t n : ℕ) : Type 0 where
  pub least : 1 ≤ stamp_at words t n
  pub most : stamp_at words t n ≤ committed words t header.stamp
  pub ordered : (k : ℕ) → k + 1 ≡ n → stamp_at words t k ≤ stamp_at words t n

-- the stamps of the first outputs of a thread don't fall
abbrev pub AreRising : Memory → (t count : ℕ) → Type 0
AreRising words t count = (k : ℕ) → k + 1 < count → stamp_at words t k ≤ stamp_at words t (k + 1)

-- the stamp of an output of thread t stands in no word of the log of thread u
abbrev pub IsApart : Memory → (u t n : ℕ) → Type 0
IsApart words u t n = (k : ℕ) → k < committed words u header.outputs → stamp_at words u k ≢ stamp_at words t n

-- nor in the logs of the first so many threads
abbrev pub IsApartFromFirst : Memory → (count t n : ℕ) → Type 0
IsApartFromFirst words count t n = (u : ℕ) → u < count → IsApart words u t n

-- the outputs from one on, up to the end, have lower stamps, and the one at the end hasn't where there is one
pub record IsPast (words : Memory) (t from count stamp end : ℕ) : Type 0 where
  pub least : from ≤ end
  pub within : end ≤ count
  pub lower : (k : ℕ) → from ≤ k → k < end → stamp_at words t k < stamp
  pub stops : end < count → stamp ≤ stamp_at words t end

-- the least stamp that an output may have: 1 for the first one, and that of the one before it for another
pub record IsLeast (words : Memory) (t n least : ℕ) : Type 0 where
  pub first : 1 ≤ least
  pub only : n ≡ 0 → least ≡ 1
  pub before : (k : ℕ) → k + 1 ≡ n → stamp_at words t k ≡ least

-- the first outputs of one thread have lower stamps than those of another from one to an end
abbrev pub AreLower : Memory → (u from t n end : ℕ) → Type 0
AreLower words u from t n end = (k m : ℕ) → k < from → n ≤ m → m < end → stamp_at words u k < stamp_at words t m
