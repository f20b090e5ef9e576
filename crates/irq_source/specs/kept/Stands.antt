-- A source that stands at a row of its table.
use Rattle.std.specs.Prelude.{◌≡◌, ℕ, ◌+◌, ◌/◌, ◌%◌, ◌^◌, ◌<◌, ◌≤◌, true, false, length}
use mathlib.Core.Option.{some}
use lib.ListN.{get_elem?}
use Rattle.push_core.specs.declared.port.Port.{Port}
use Rattle.push_core.specs.declared.row.Row.{Row}
use Rattle.push_core.specs.declared.stage.Stage.{Stage}
use Rattle.push_core.specs.declared.stage.Stage.TheVariants.{LoadSrc, LoadSlots, LoadAck, LoadTail, LoadSlot, Publish, MoveTail, HelpTail, StoreSkip, StoreAccepted}
use Rattle.push_core.specs.Table.{IsRowFor}
use Rattle.event_queue.specs.Calls.{Won, Knows}
use Rattle.irq_source.specs.Known.{SrcKept, MineKept}

-- SRC has the numbers of the row
pub record IsInSrc (src a k : ℕ) : Type 0 where
  pub accepted : src % 2 ^ 32 ≡ a
  pub next : src / 2 ^ 32 ≡ k

-- the last publication, where SRC lacks it, is known to be released if its place is one of the first n
abbrev pub IsPast : (places a n : ℕ) → Knows → Type 0
IsPast places a n s = (m : Won) → get_elem? s.mine a ≡ some m → m.position % places < n → m.position < s.gone

-- what each row knows
abbrev pub StageKept : (places src : ℕ) → Knows → (a k : ℕ) → Stage → Type 0
StageKept places src s a k LoadSrc = Unit {0}
StageKept places src s a k (LoadSlots n seen) = IsInSrc src a k × (seen ≡ true → length s.mine ≡ a + 1) × (seen ≡ false → IsPast places a n s)
StageKept places src s a k (LoadAck seen) = IsInSrc src a k × (seen ≡ true → length s.mine ≡ a + 1) × (seen ≡ false → (m : Won) → get_elem? s.mine a ≡ some m → m.position < s.gone)
StageKept places src s a k LoadTail = IsInSrc src a k × (length s.mine ≡ a)
StageKept places src s a k (LoadSlot p) = IsInSrc src a k × (length s.mine ≡ a) × (p ≤ s.tail)
StageKept places src s a k (Publish p) = IsInSrc src a k × (length s.mine ≡ a) × (p ≤ s.tail) × (p < s.gone + places)
StageKept places src s a k (MoveTail p) = IsInSrc src a k × (length s.mine ≡ a + 1) × (p < s.out)
StageKept places src s a k (HelpTail p) = IsInSrc src a k × (length s.mine ≡ a) × (p < s.out)
StageKept places src s a k StoreSkip = IsInSrc src a k × (length s.mine ≡ a)
StageKept places src s a k StoreAccepted = IsInSrc src a k × (length s.mine ≡ a + 1)

-- a source at a row of its table, with its SRC and what its seat knows
pub record Stands (port : Port) (number src : ℕ) (s : Knows) (row : Row) : Type 0 where
  pub row_for : IsRowFor port number row
  pub src_kept : SrcKept number (src % 2 ^ 32) (src / 2 ^ 32) s
  pub mine_kept : MineKept port.queue.places s
  pub at : StageKept port.queue.places src s row.accepted row.next row.stage
