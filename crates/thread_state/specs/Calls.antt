-- What any calls of the machine do to the words of its thread, and the law that they keep.
use Rattle.std.specs.Prelude.{◌≡◌, ℕ, ◌/◌, ◌^◌, ◌<◌, List, [], ◌∷◌, length, bit_or, Option, Some, None, IsSome}
use Rattle.std.specs.Int.{bit_at}
use Rattle.fram_words.specs.Places.{Place, Commit, Memory, perform, answer}
use Rattle.thread_state.specs.declared.block.Block.{Block}
use Rattle.thread_state.specs.Pages.{Loading, committed, copy_access, get_access, write_access, commit_access, put, IsOutside}
use Rattle.thread_state.specs.Writes.{Writes, begun, IsAtRest, CanWrite, prepared, taken, discarded}

-- a call of `prepare_write`; of `want` and `take`, with the wanted access between them; of `write`, with its access; and of `discard`
pub data Call : Type 0 where
  Prepare : (word : ℕ) → Call
  Copy : Call
  Write : (word value : ℕ) → Call
  Discard : Call

-- when the call may be made
abbrev pub CanCall : Writes → Call → Type 0
CanCall w (Prepare word) = IsAtRest w
CanCall w Copy = IsSome w.under_way
CanCall w (Write word value) = IsAtRest w × CanWrite w word
CanCall w Discard = IsAtRest w

-- the word that the wanted access finds, and the memory after it
abbrev pub found : ℕ → Memory → Writes → Option ℕ → ℕ
found thread m w None = 0
found thread m w (Some page) = answer m (copy_access thread w.buffer.commit page w.buffer.copying)

-- the memory after that access
abbrev pub copied : ℕ → Memory → Writes → Option ℕ → Memory
copied thread m w None = m
copied thread m w (Some page) = perform m (copy_access thread w.buffer.commit page w.buffer.copying)

-- the registers after a call
abbrev pub registers_after : ℕ → Memory → Writes → Call → Writes
registers_after thread m w (Prepare word) = prepared w (word / 8)
registers_after thread m w Copy = taken w (found thread m w w.under_way)
registers_after thread m w (Write word value) = w
registers_after thread m w Discard = discarded w

-- and the memory
abbrev pub memory_after : ℕ → Memory → Writes → Call → Memory
memory_after thread m w Copy = copied thread m w w.under_way
memory_after thread m w (Write word value) = perform m (write_access thread w.buffer word value)
memory_after thread m w _ = m

-- each call may be made in its turn
abbrev pub CanCallAll : ℕ → Memory → Writes → List Call → Type 0
CanCallAll thread m w [] = Unit {0}
CanCallAll thread m w (call ∷ calls) =
    CanCall w call × CanCallAll thread (memory_after thread m w call) (registers_after thread m w call) calls

-- the registers after calls one after another
abbrev pub registers_after_all : ℕ → Memory → Writes → List Call → Writes
registers_after_all thread m w [] = w
registers_after_all thread m w (call ∷ calls) =
    registers_after_all thread (memory_after thread m w call) (registers_after thread m w call) calls

-- the memory after them
abbrev pub memory_after_all : ℕ → Memory → Writes → List Call → Memory
memory_after_all thread m w [] = m
memory_after_all thread m w (call ∷ calls) =
    memory_after_all thread (memory_after thread m w call) (registers_after thread m w call) calls

-- the contents after a call: a write puts its word, and what is given up is as it was committed
abbrev pub contents_after : (ℕ → ℕ) → (ℕ → ℕ) → Call → ℕ → ℕ
contents_after first now (Write word value) = put now word value
contents_after first now Discard = first
contents_after first now _ = now

-- of each word the last that was written, or else the committed one
abbrev pub last_written : (ℕ → ℕ) → (ℕ → ℕ) → List Call → ℕ → ℕ
last_written first now [] = now
last_written first now (call ∷ calls) = last_written first (contents_after first now call) calls

-- What calls have left: the committed copy is as at the start, a read answers the last that was written or else the committed word,
-- the one store of `commit` makes all of these the committed copy, and no word outside of the thread's pages is changed.
pub record IsLeft (thread : ℕ) (start end : Memory) (w : Writes) (contents : ℕ → ℕ) : Type 0 where
  pub kept : (word : ℕ) → committed end thread word ≡ committed start thread word
  pub reads : (word : ℕ) → answer end (get_access thread w.buffer word) ≡ contents word
  pub commits : (word : ℕ) → committed (perform end (commit_access thread w.buffer)) thread word ≡ contents word
  pub outside : (place : Place) → IsOutside thread place → end place ≡ start place

-- any calls on any memory, from a machine without writes on
abbrev pub OneStoreCommits : Type 0
OneStoreCommits =
    (thread : ℕ) (block : Block) (m : Memory) (calls : List Call) → let w = begun block (m (Commit thread)) in
    CanCallAll thread m w calls →
    IsLeft thread m (memory_after_all thread m w calls) (registers_after_all thread m w calls)
    (last_written (committed m thread) (committed m thread) calls)

-- the registers after these answers to the accesses of a copying
abbrev pub taken_all : Writes → List ℕ → Writes
taken_all w [] = w
taken_all w (word ∷ words) = taken_all (taken w word) words

-- the registers with a dirty set, at rest
abbrev pub resting : Block → ℕ → ℕ → Writes
resting block commit dirty = record { block = block; buffer = record { commit = commit; dirty = dirty; copying = Loading 0 }; under_way = None }

-- a clean page is copied by sixteen accesses, and dirty after them
pub record CopiesBySixteen (block : Block) (commit dirty page : ℕ) : Type 0 where
  pub more : (words : List ℕ) → length words < 16 → IsSome (taken_all (prepared (resting block commit dirty) page) words).under_way
  pub over : (words : List ℕ) → length words ≡ 16 →
      taken_all (prepared (resting block commit dirty) page) words ≡ resting block commit (bit_or dirty (2 ^ page))

-- of every page that is not dirty
abbrev pub SixteenCopy : Type 0
SixteenCopy = (block : Block) (commit dirty page : ℕ) → bit_at dirty page ≡ 0 → CopiesBySixteen block commit dirty page
