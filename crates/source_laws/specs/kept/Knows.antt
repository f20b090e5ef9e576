-- What the registers of a source know between two accesses.
use Rattle.std.specs.Prelude.{◌≡◌, ◌⊎◌, ℕ, ◌+◌, ◌%◌, ◌^◌, ◌<◌, ◌≤◌, Bool, true, length}
use Rattle.push_core.specs.Queue.{Queue, Source, published, event_at, IsNumber}
use Rattle.source_laws.specs.Model.{Near}
use Rattle.push_core.specs.Table.{src_word}
use Rattle.push_core.specs.declared.stage.Stage.{Stage}
use Rattle.push_core.specs.declared.stage.Stage.TheVariants.{LoadSrc, LoadSlots, LoadAck, LoadTail, LoadSlot, Publish, MoveTail, HelpTail, StoreSkip, StoreAccepted}
use Rattle.push_core.specs.declared.row.Row.{Row}

-- an event of source i with the number a stands in a slot from n on
abbrev pub IsAhead : (i places : ℕ) → Queue → (a n : ℕ) → Type 0
IsAhead i places q a n = (j : ℕ) × (j < length q.held) × IsNumber i a (event_at q.held j) × (n ≤ (q.released + j) % places)

-- the source's event with the number a stands in a slot from this one on, or is acknowledged
abbrev pub IsShown : (i places : ℕ) → Near → (a slot : ℕ) → Type 0
IsShown i places n a slot = IsAhead i places n.queue a slot ⊎ (n.ack ≡ (a + 1) % 64)

-- in the boot, before the load of a slot: the source's event with number a was seen, is still to be seen, or isn't there
pub record Boots (i places : ℕ) (n : Near) (a k slot : ℕ) (seen : Bool) : Type 0 where
  pub word : n.src ≡ src_word a k
  pub small : a < 2 ^ 32
  pub seen_one : seen ≡ true → n.source.accepted ≡ a + 1
  pub unseen_one : n.source.accepted ≡ a + 1 → (seen ≡ true) ⊎ IsShown i places n a slot

-- SRC and the registers count all that was accepted and settled
pub record IsReady (src : ℕ) (s : Source) (a k : ℕ) : Type 0 where
  pub word : src ≡ src_word a k
  pub accepted : s.accepted ≡ a
  pub next : s.next ≡ k

-- SRC and the registers lack the last one
pub record IsLate (src : ℕ) (s : Source) (a k : ℕ) : Type 0 where
  pub word : src ≡ src_word a k
  pub accepted : s.accepted ≡ a + 1
  pub next : s.next ≡ k + 1

-- what source i knows in each row, with the accepted number a and the next reading k
abbrev pub KnowsAt : (i places readings : ℕ) → Near → (a k : ℕ) → Stage → Type 0
KnowsAt i places readings n a k LoadSrc = (a ≡ 0) × (k ≡ 0)
KnowsAt i places readings n a k (LoadSlots slot seen) = Boots i places n a k slot seen × (slot < places)
KnowsAt i places readings n a k (LoadAck seen) = Boots i places n a k places seen
KnowsAt i places readings n a k LoadTail = IsReady n.src n.source a k
KnowsAt i places readings n a k (LoadSlot p) = IsReady n.src n.source a k × (k < readings) × (p ≤ n.tail)
KnowsAt i places readings n a k (Publish p) = IsReady n.src n.source a k × (k < readings) × (p ≤ n.tail) × (p < n.queue.released + places)
KnowsAt i places readings n a k (MoveTail p) = IsLate n.src n.source a k × (p < published n.queue)
KnowsAt i places readings n a k (HelpTail p) = IsReady n.src n.source a k × (k < readings) × (p < published n.queue)
KnowsAt i places readings n a k StoreSkip = IsReady n.src n.source a k × (n.source.refused ≡ true) × (k < readings)
KnowsAt i places readings n a k StoreAccepted = IsLate n.src n.source a k

-- what source i knows in the row that it is in
abbrev pub Knows : (i places readings : ℕ) → Near → Row → Type 0
Knows i places readings n row = KnowsAt i places readings n row.accepted row.next row.stage
