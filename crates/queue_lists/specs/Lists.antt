-- The lists of all sources of a program, and what of them is of a thread's queue.
use Rattle.std.specs.Prelude.{ℕ, zero, suc, ◌+◌, ◌==◌, List, [], length, slice_index_or, if◌then◌else◌}
use Rattle.task_isa.specs.declared.program.Program.{Program}
use Rattle.prog_check.specs.Lookup.{source_thread}
use Rattle.irq_source.specs.declared.lists.Declined.{Declined}
use Rattle.irq_source.specs.declared.lists.Published.{Published}

-- the published and the refused readings of a source, in order
pub record Lists : Type 0 where
  pub accepted : List Published
  pub refused : List Declined

-- the lists of a source that has none
abbrev pub no_lists : Lists
no_lists = record { accepted = []; refused = [] }

-- the lists of source i
abbrev pub lists_at : List Lists → ℕ → Lists
lists_at lists i = slice_index_or lists i no_lists

-- the sum of a number for each of the first n sources
abbrev pub sum_below : (ℕ → ℕ) → (n : ℕ) → ℕ
sum_below f zero = 0
sum_below f (suc n) = sum_below f n + f n

-- what source i has published in thread t's queue
abbrev pub accepted_into : Program → List Lists → (t i : ℕ) → List Published
accepted_into program lists t i = if source_thread program i == t then (lists_at lists i).accepted else []

-- how many events the first n sources have published there
abbrev pub events_into : Program → List Lists → (t n : ℕ) → ℕ
events_into program lists t n = sum_below (λ i. length (accepted_into program lists t i)) n

-- and all of them
abbrev pub all_into : Program → List Lists → (t : ℕ) → ℕ
all_into program lists t = events_into program lists t (length lists)
