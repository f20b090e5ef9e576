-- How far a source is in a charge: how many accesses it has made there, by the readings that it settled and the tails that it helped on.
use Rattle.std.specs.Prelude.{ℕ, ◌+◌, ◌*◌, ◌/◌, ◌^◌, ◌≤◌, length}
use Rattle.push_core.specs.declared.stage.Stage.{Stage}
use Rattle.push_core.specs.declared.stage.Stage.TheVariants.{LoadSrc, LoadSlots, LoadAck, LoadTail, LoadSlot, Publish, MoveTail, HelpTail, StoreSkip, StoreAccepted}
use Rattle.event_queue.specs.Calls.{Knows}

-- the accesses of a charge up to a row: those of the boot, and those of the round that the row is in
abbrev pub spent : (places : ℕ) → Stage → ℕ
spent places LoadSrc = 0
spent places (LoadSlots n seen) = n + 1
spent places (LoadAck seen) = places + 1
spent places LoadTail = places + 2
spent places (LoadSlot p) = places + 3
spent places (Publish p) = places + 4
spent places (MoveTail p) = places + 5
spent places (HelpTail p) = places + 5
spent places StoreSkip = places + 4
spent places StoreAccepted = places + 6

-- the position up to which a source in this row has come: the greatest tail that it saw, or the one that it tries
abbrev pub reach : (tail : ℕ) → Stage → ℕ
reach tail (LoadSlot p) = p
reach tail (Publish p) = p
reach tail (MoveTail p) = p + 1
reach tail (HelpTail p) = p
reach tail stage = tail

-- the access moves another's tail
abbrev pub helps : Stage → ℕ
helps (HelpTail p) = 1
helps stage = 0

-- one access: what it costs, and how far it brings the source
pub record PacesOne (places : ℕ) (old new : Stage) (src src' : ℕ) (s s' : Knows) : Type 0 where
  pub costs : 1 + spent places old + 5 * (src / 2 ^ 32) ≤ spent places new + 5 * (src' / 2 ^ 32) + 4 * helps old
  pub advances : reach s.tail old + helps old + length s'.mine ≤ reach s'.tail new + length s.mine

-- So many accesses from a cut on, before which so many readings were settled: five for each that was settled since, four for each tail that was
-- helped on. The tails that were helped on and the own events are at different positions, but for a tail that a cut held back.
pub record IsPaced (places made before : ℕ) (stage : Stage) (src : ℕ) (s : Knows) : Type 0 where
  pub helped : ℕ
  pub accesses : made + 5 * before ≤ spent places stage + 5 * (src / 2 ^ 32) + 4 * helped
  pub tails : helped + length s.mine ≤ reach s.tail stage + 1
