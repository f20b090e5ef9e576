-- What a charge leaves behind: its entries, and how many accesses each actor made.
use Rattle.std.specs.Prelude.{ℕ, zero, suc, ◌+◌, List, [], ◌∷◌, ◌++◌, replicate, slice_index, slice_index_or, slice_set, Option}
use Rattle.ink_base.specs.declared.entry.Entry.{Entry}
use Rattle.ink_base.specs.declared.entry.Entry.TheVariants.{Tick}
use Rattle.never_cut.specs.Journal.{noted}
pub use Rattle.kernel_core.specs.declared.charge_record.ChargeRecord.{ChargeRecord}

-- a charge that has not begun, of a board with so many sources
abbrev pub not_begun : ℕ → ChargeRecord
not_begun sources = record { off = 0; entries = []; kernel_steps = 0; source_steps = replicate sources 0; tick_steps = 0 }

-- it begins with the ticks that went by in the dark
abbrev pub begun : ℕ → ChargeRecord → ChargeRecord
begun off c = record c { off = off; entries = c.entries ++ Tick off ∷ [] }

-- with an access of the kernel
abbrev pub with_kernel : Option Entry → ChargeRecord → ChargeRecord
with_kernel entry c = record c { entries = noted c.entries entry; kernel_steps = c.kernel_steps + 1 }

-- with an access of a source
abbrev pub with_source : ℕ → Option Entry → ChargeRecord → ChargeRecord
with_source i entry c = record c { entries = noted c.entries entry; source_steps = slice_set c.source_steps i (slice_index c.source_steps i + 1) }

-- with a tick of the clock
abbrev pub with_tick : ChargeRecord → ChargeRecord
with_tick c = record c { entries = c.entries ++ Tick 1 ∷ []; tick_steps = c.tick_steps + 1 }

-- the entries of the first so many charges, in order
abbrev pub journal_of : List ChargeRecord → ℕ → List Entry
journal_of charges zero = []
journal_of [] (suc n) = []
journal_of (c ∷ charges) (suc n) = c.entries ++ journal_of charges n

-- one of the charges
abbrev pub charge_of : List ChargeRecord → ℕ → ChargeRecord
charge_of charges k = slice_index_or charges k (not_begun 0)
