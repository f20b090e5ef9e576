-- The record of a charge while it is written.
use Rattle.std.specs.Prelude.{◌≡◌, ℕ, ◌+◌, ◌≤◌, length}
use Rattle.kernel_core.specs.Record.{ChargeRecord, not_begun}

-- a charge's record, for how many more entries it has room, and for how many in all
pub record Recorded : Type 0 where
  pub charge : ChargeRecord
  pub spare : ℕ
  pub capacity : ℕ

-- at most one entry's room is taken
pub record KeepsRoom (old new : Recorded) : Type 0 where
  pub spare : old.spare ≤ new.spare + 1
  pub capacity : new.capacity ≡ old.capacity

-- the record as it was before the charge began, with all its room
abbrev pub emptied : Recorded → Recorded
emptied r = record { charge = not_begun (length r.charge.source_steps); spare = r.capacity; capacity = r.capacity }
