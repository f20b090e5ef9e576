-- What a source's seat knows, and what its row has to do with it.
use Rattle.std.specs.Prelude.{◌≡◌, ◌⊎◌, ℕ, ◌+◌, ◌/◌, ◌^◌, ◌<◌, ◌≤◌, max, length}
use mathlib.Core.Option.{some}
use lib.ListN.{get_elem?}
use Rattle.push_core.specs.declared.phase.Phase.{Phase}
use Rattle.push_core.specs.declared.phase.Phase.TheVariants.{Boot, Ready, Published, Refused}
use Rattle.event_queue.specs.declared.view.View.{View}
use Rattle.event_queue.specs.Calls.{Won, Knows, mine_of, next_of, tail_of}
use Rattle.event_queue.specs.Views.{calls_of, out_of, gone_of}

-- what a seat with this view knows as source i: its publications, and how far its queue is published and released
abbrev pub known : View → ℕ → Knows
known v i = record { mine = mine_of (calls_of v); next = next_of (calls_of v); tail = tail_of (calls_of v); out = out_of v i; gone = gone_of v i }

-- how many readings are settled: those that SRC counts, and one more where a later one was published
abbrev pub settled_of : (src : ℕ) → Knows → ℕ
settled_of src s = max (src / 2 ^ 32) s.next

-- What is known of a source's row, once its boot is over: its accepted number is that of its publications, and its next reading is the first
-- that is not settled; of a reading that is published and not yet stored, each is one less
abbrev pub KnowsItsPlace : Phase → (accepted next src : ℕ) → Knows → Type 0
KnowsItsPlace Boot accepted next src s = Unit {0}
KnowsItsPlace Ready accepted next src s = (length s.mine ≡ accepted) × (settled_of src s ≡ next)
KnowsItsPlace Refused accepted next src s = (length s.mine ≡ accepted) × (settled_of src s ≡ next)
KnowsItsPlace Published accepted next src s = (length s.mine ≡ accepted + 1) × (settled_of src s ≡ next + 1)

-- SRC, by its accepted number a and next reading k, has all publications, or all but the last one, which is that of reading k
pub record SrcKept (number a k : ℕ) (s : Knows) : Type 0 where
  pub ordered : a ≤ k
  pub within : k ≤ number
  pub least : a ≤ length s.mine
  pub most : length s.mine ≤ a + 1
  pub settled : length s.mine ≡ a → s.next ≤ k
  pub behind : length s.mine ≡ a + 1 → (s.next ≡ k + 1) × (k < number)

-- the positions of the publications rise, the seat knows that all but those of the last turn are released, and it has seen their tails
pub record MineKept (places : ℕ) (s : Knows) : Type 0 where
  pub rises : (j n : ℕ) (a b : Won) → j < n → get_elem? s.mine j ≡ some a → get_elem? s.mine n ≡ some b → a.position < b.position
  pub recent : (k : ℕ) (m : Won) → get_elem? s.mine k ≡ some m → m.position < s.gone + places
  pub tails : length s.mine ≤ s.tail + 1

-- What accesses add to what is known: nothing is forgotten, and each publication is at a position that was not known to be published. So the
-- number of known publications of others does not fall
pub record Added (old new : Knows) : Type 0 where
  pub kept : (k : ℕ) (m : Won) → get_elem? old.mine k ≡ some m → get_elem? new.mine k ≡ some m
  pub new_ones : (k : ℕ) (m : Won) → get_elem? new.mine k ≡ some m → (get_elem? old.mine k ≡ some m) ⊎ (old.out ≤ m.position)
  pub out : old.out ≤ new.out
  pub gone : old.gone ≤ new.gone
  pub others : old.out + length new.mine ≤ new.out + length old.mine
