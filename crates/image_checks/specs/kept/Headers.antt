-- The check of blocks at the words of the header, each by what it holds.
use Rattle.std.specs.Prelude.{◌≡◌, ◌-◌, ◌^◌, ◌<◌, ◌≤◌, ◌⊎◌, ℕ, false}
use Rattle.task_isa.specs.declared.program.Program.{Program}
use Rattle.fram_words.specs.Places.{Memory, Clock}
use Rattle.fram_words.specs.Header as header
use Rattle.fram_words.specs.declared.header.Header.{Header}
use Rattle.fram_words.specs.declared.header.Header.TheVariants as headers
use Rattle.ink_base.specs.declared.event.Origin.{Origin}
use Rattle.fram_words.specs.Held.{origin_word, origin_of}
use Rattle.thread_state.specs.Pages.{committed}
use Rattle.prog_check.specs.Lookup.{thread_def}
use Rattle.never_cut.specs.Stands.{writes_pipe, reads_pipe, owns_timer}
use Rattle.never_cut.specs.Ranges.{IsTaskOf}
use Rattle.never_cut.specs.Image.{HasChain, IsChainOrigin, IsChainValue}

-- the next task is the thread's
abbrev pub IsRightNext : Program → Memory → (t : ℕ) → Type 0
IsRightNext program words t = HasChain words t → IsTaskOf program t (committed words t header.next - 1)

-- the word is that of an origin that the thread's chain may have
abbrev pub IsChainWord : Program → Memory → (t word : ℕ) → Type 0
IsChainWord program words t word = (o : Origin) × (word ≡ origin_word o) × IsChainOrigin program words t o

-- a running chain has such a word
abbrev pub IsRightOrigin : Program → Memory → (t : ℕ) → Type 0
IsRightOrigin program words t = HasChain words t → IsChainWord program words t (committed words t header.origin)

-- and the value of its event
abbrev pub IsRightValue : Program → Memory → (t : ℕ) → Type 0
IsRightValue program words t = HasChain words t → IsChainValue (origin_of (committed words t header.origin)) (committed words t header.value)

-- a word of the header is right in the committed copy
abbrev pub IsRightHeader : Program → Memory → (t : ℕ) → Header → Type 0
IsRightHeader program words t headers.Next = IsRightNext program words t
IsRightHeader program words t headers.First = committed words t header.first ≤ words Clock
IsRightHeader program words t headers.Origin = IsRightOrigin program words t
IsRightHeader program words t headers.Value = IsRightValue program words t
IsRightHeader program words t headers.Outputs = committed words t header.outputs ≤ (thread_def program t).log
IsRightHeader program words t (headers.Written q) = writes_pipe program t q ≡ false → committed words t (header.written q) ≡ 0
IsRightHeader program words t (headers.Taken q) = reads_pipe program t q ≡ false → committed words t (header.taken q) ≡ 0
IsRightHeader program words t (headers.Due j) =
    (committed words t (header.due j) ≤ 2 ^ 48) × (owns_timer program t j ≡ false → committed words t (header.due j) ≡ 0)
IsRightHeader program words t (headers.Period j) =
    (committed words t (header.period j) < 2 ^ 32) × (owns_timer program t j ≡ false → committed words t (header.period j) ≡ 0)
IsRightHeader program words t headers.Stamp = Unit {0}
IsRightHeader program words t headers.Finished = Unit {0}
IsRightHeader program words t headers.Served = Unit {0}
IsRightHeader program words t headers.Trapped = Unit {0}
IsRightHeader program words t headers.Expired = Unit {0}

-- a word behind the header's that are used is 0, or a number of the state, which has 32 bits
abbrev pub IsRightBehind : Program → Memory → (t w : ℕ) → Type 0
IsRightBehind program words t w =
    (committed words t w ≡ 0) ⊎ ((header.words ≤ w) × (w < header.state (thread_def program t).state) × (committed words t w < 2 ^ 32))
