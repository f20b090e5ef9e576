-- The machine of a thread's writes as contracts see it.
use Rattle.std.specs.Prelude.{ℕ, ◌/◌, ◌<◌, cond, IsTrue, Option, Some, None, IsNone}
use Rattle.std.specs.Option.{option_map}
use Rattle.fram_words.specs.declared.access.Access as declared
use Rattle.thread_state.specs.declared.block.Block.{Block}
use Rattle.thread_state.specs.Blocks.{IsPlaced, IsCommitWord, pages_of, at_block}
use Rattle.thread_state.specs.Pages.{Buffer, no_writes, is_dirty, copy_access, after_copy, get_access, write_access, commit_access}
use Rattle.thread_state.specs.Buffers.{goes_on}

-- the block, the registers of its writes, and the page that is being copied, if one is
pub record Writes : Type 0 where
  pub block : Block
  pub buffer : Buffer
  pub under_way : Option ℕ

-- a page that is copied is one of the block
abbrev pub IsCopied : Block → Option ℕ → Type 0
IsCopied block None = Unit {0}
IsCopied block (Some page) = page < pages_of block

-- the block is placed, and its commit word, its dirty pages and the page that is copied are within it
pub record IsKept (block : Block) (buffer : Buffer) (under_way : Option ℕ) : Type 0 where
  pub placed : IsPlaced block
  pub allowed : IsCommitWord block buffer.commit
  pub pages : IsCommitWord block buffer.dirty
  pub within : IsCopied block under_way

-- the registers, without writes
abbrev pub begun : Block → ℕ → Writes
begun block commit = record { block = block; buffer = no_writes commit; under_way = None }

-- no copying is under way
abbrev pub IsAtRest : Writes → Type 0
IsAtRest w = IsNone w.under_way

-- the page of the word is dirty
abbrev pub CanWrite : Writes → ℕ → Type 0
CanWrite w word = IsTrue (is_dirty w.buffer (word / 8))

-- the accesses, to the places of the block's thread
abbrev pub wanted : Writes → Option declared.Access
wanted w = option_map (λ page. at_block w.block (copy_access 0 w.buffer.commit page w.buffer.copying)) w.under_way

-- the access that reads a word of the block
abbrev pub read_of : Writes → ℕ → declared.Access
read_of w word = at_block w.block (get_access 0 w.buffer word)

-- the access that writes one
abbrev pub write_of : Writes → ℕ → ℕ → declared.Access
write_of w word value = at_block w.block (write_access 0 w.buffer word value)

-- the store that makes all writes committed at once
abbrev pub commit_of : Writes → declared.Access
commit_of w = at_block w.block (commit_access 0 w.buffer)

-- after the answer to the wanted access
abbrev pub taken_at : Writes → ℕ → Option ℕ → Writes
taken_at w word None = w
taken_at w word (Some page) =
    record {
      block = w.block;
      buffer = after_copy w.buffer page w.buffer.copying word;
      under_way = cond (goes_on w.buffer.copying) (Some page) None;
    }

-- the registers after an access found this word
abbrev pub taken : Writes → ℕ → Writes
taken w word = taken_at w word w.under_way

-- a clean page is to be copied
abbrev pub prepared : Writes → ℕ → Writes
prepared w page =
    cond (is_dirty w.buffer page) w (record { block = w.block; buffer = w.buffer; under_way = Some page })

-- all writes are given up
abbrev pub discarded : Writes → Writes
discarded w = begun w.block w.buffer.commit
