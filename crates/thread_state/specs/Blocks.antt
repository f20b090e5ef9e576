-- Where the words of a thread's block have their addresses.
use Rattle.std.specs.Prelude.{ℕ, ◌+◌, ◌*◌, ◌/◌, ◌%◌, ◌^◌, ◌<◌, ◌≤◌}
use Rattle.std.specs.Int.{bit_at}
use Rattle.ink_base.specs.declared.limits.TheConstants as limits
use Rattle.fram_words.specs.declared.access.Access as declared
use Rattle.fram_words.specs.declared.access.Access.TheVariants as fram
use Rattle.fram_words.specs.Places.{Place, Commit, Page, Access, Load, Store, Exchange, Add}
use Rattle.fram_words.specs.Header.{words as header_words}
use Rattle.thread_state.specs.declared.block.Block.{Block}

-- the number of pages
abbrev pub pages_of : Block → ℕ
pages_of block = (block.words + 7) / 8

-- a header and no more words of state than a thread can have, and each of its places has an address
pub record IsPlaced (block : Block) : Type 0 where
  pub header : header_words ≤ block.words
  pub state : block.words ≤ header_words + limits.STATE_NUMBERS
  pub pages : block.first + 16 * pages_of block ≤ 2 ^ 32

-- a commit word of the block has no bit at or above the number of pages
abbrev pub IsCommitWord : Block → ℕ → Type 0
IsCommitWord block word = word < 2 ^ pages_of block

-- the address of a word in the copies that a mask names
abbrev pub address_in : Block → ℕ → ℕ → ℕ
address_in block mask word = block.first + 16 * (word / 8) + 8 * bit_at mask (word / 8) + word % 8

-- the address of a place of the block's thread, whichever thread that is
abbrev pub address_of : Block → Place → ℕ
address_of block (Commit thread) = block.commit
address_of block (Page thread page copy word) = block.first + 16 * page + 8 * copy + word
address_of block _ = 0

-- the access to the address of its place
abbrev pub at_block : Block → Access → declared.Access
at_block block (Load p) = fram.Load (address_of block p)
at_block block (Store p v) = fram.Store (address_of block p) v
at_block block (Exchange p e v) = fram.Exchange (address_of block p) e v
at_block block (Add p n) = fram.Add (address_of block p) n

-- a word of the thread that the block has
abbrev pub IsWithin : Block → Place → Type 0
IsWithin block (Commit thread) = Unit {0}
IsWithin block (Page thread page copy word) = (page < pages_of block) × (copy < 2) × (word < 8)
IsWithin block _ = ⊥
