-- The words that a scan loads, by the state that they stand for.
use Rattle.priority_sched.proofs.Common.{◌≡◌, ℕ, ◌+◌, ◌%◌, ◌<◌, length, arith, subst, slice_index, Program, Memory, Ring, pipe_def, Model, pipe_of, StandsPrivate}
pub use Rattle.never_cut.proofs.Blocks.{first_word, event_words, taken_count, written_count, timer_count}

-- the first item of a pipe
pub item_word : (program : Program) (words : Memory) (m : Model) (q : ℕ) → StandsPrivate words program m → q < length program.pipes → 0 < length (pipe_of m q).items →
    words (Ring q ((pipe_of m q).taken % (pipe_def program q).places)) ≡ slice_index (pipe_of m q).items 0
item_word program words m q h within some =
    let first : (pipe_of m q).taken + 0 ≡ (pipe_of m q).taken = omega arith in
    subst (λ n. words (Ring q (n % (pipe_def program q).places)) ≡ slice_index (pipe_of m q).items 0) first (h.pipes q within 0 some)
