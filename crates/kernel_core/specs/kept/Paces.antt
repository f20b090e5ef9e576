-- How far a source is in a charge: how many accesses it has made there, by the readings that it settled and the events that the others pushed.
use Rattle.std.specs.Prelude.{◌≡◌, ℕ, ◌+◌, ◌-◌, ◌*◌, ◌<◌, ◌≤◌, length, count_by, slice_index}
use Rattle.fram_words.specs.Places.{Tail}
use Rattle.prog_check.specs.Lookup.{source_thread}
use Rattle.push_core.specs.Queue.{published}
use Rattle.push_core.specs.declared.stage.Stage.{Stage}
use Rattle.push_core.specs.declared.stage.Stage.TheVariants.{LoadSrc, LoadSlots, LoadAck, LoadTail, LoadSlot, Publish, MoveTail, HelpTail, StoreSkip, StoreAccepted}
use Rattle.source_laws.specs.Model.{places_for}
use Rattle.kernel_core.specs.Record.{ChargeRecord, charge_of}
use Rattle.kernel_core.specs.Board.{Setup, Board, sides, row_of}
use Rattle.kernel_core.specs.Stands.{memory, state}
use Rattle.kernel_core.specs.Views.{sides_of}
use Rattle.kernel_core.specs.Settled.{settles, pushes_beside, ChargesSettle}

-- the accesses of a charge up to a row: those of the boot, and those of the round that the row is in; a round counts as settled from its entry on
abbrev pub spent : (places : ℕ) → Stage → ℕ
spent places LoadSrc = 0
spent places (LoadSlots n seen) = n + 1
spent places (LoadAck seen) = places + 1
spent places LoadTail = places + 3
spent places (LoadSlot p) = places + 4
spent places (Publish p) = places + 5
spent places (MoveTail p) = places + 1
spent places (HelpTail p) = places + 6
spent places StoreSkip = places + 5
spent places StoreAccepted = places + 2

-- the position up to which a source in this row has come: the tail, or the one that it loaded
abbrev pub reach : (tail : ℕ) → Stage → ℕ
reach tail (LoadSlot p) = p
reach tail (Publish p) = p
reach tail (MoveTail p) = p + 1
reach tail (HelpTail p) = p
reach tail _ = tail

-- Five accesses for each settled reading, four for each tail that was helped on. The helped tails rise, none of them is at an event that the
-- source pushed in this charge, and all but one are at events that others pushed in it.
pub record IsPaced (places made settled others tail events : ℕ) (stage : Stage) : Type 0 where
  pub helped : ℕ
  pub accesses : made ≤ spent places stage + 5 * settled + 4 * helped
  pub tails : helped + events ≤ reach tail stage + 1 + others

-- the pace of source i of a board in a charge
abbrev pub IsPacedIn : Setup → Board → ℕ → ChargeRecord → Type 0
IsPacedIn s b i c =
    IsPaced (places_for (sides s) i) (slice_index c.source_steps i) (count_by (settles i) c.entries) (count_by (pushes_beside s.program i) c.entries)
    (memory s b (Tail (source_thread s.program i))) (published ((sides_of (state s b)).queue (source_thread s.program i))) (row_of b i).stage

-- a charge in which no source has made an access
pub record IsFresh (c : ChargeRecord) : Type 0 where
  pub steps : (i : ℕ) → slice_index c.source_steps i ≡ 0

-- what every turn and every cut keeps: each charge has settled enough, those that have not begun are fresh, and the one at hand has its pace
pub record Settles (s : Setup) (b : Board) : Type 0 where
  pub all : ChargesSettle s.program b.charges
  pub later : (k : ℕ) → b.begun ≤ k → IsFresh (charge_of b.charges k)
  pub paced : 0 < b.begun → (i : ℕ) → i < length s.program.sources → IsPacedIn s b i (charge_of b.charges (b.begun - 1))
