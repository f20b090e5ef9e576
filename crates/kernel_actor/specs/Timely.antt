-- The entries of a charge are no earlier than what the kernel's seat had been told.
use Rattle.std.specs.Prelude.{◌≡◌, ◌⊎◌, ℕ, ◌≤◌, List, slice_index}
use mathlib.Core.Option.{some}
use lib.ListN.{get_elem?}
use Rattle.kernel_account.specs.declared.entry.KernelEntry.{KernelEntry}
use Rattle.kernel_account.specs.declared.entry.KernelEntry.TheVariants.{Scan, Look, Commit, Release}
use Rattle.event_queue.specs.declared.view.Told.{Told}

-- a scan's clock is no earlier than the one that was told, and a look that found nothing is at no position that was told as published
abbrev pub IsTimely : Told → KernelEntry → Type 0
IsTimely told (Scan clock) = told.clock ≤ clock
IsTimely told (Look t p) = slice_index told.published t.0 ≤ p
IsTimely told (Commit t) = Unit {0}
IsTimely told (Release t) = Unit {0}

-- each entry that was added is so
pub record AddsTimely (told : Told) (old new : List KernelEntry) : Type 0 where
  pub each : (n : ℕ) (e : KernelEntry) → get_elem? new n ≡ some e → (get_elem? old n ≡ some e) ⊎ IsTimely told e
