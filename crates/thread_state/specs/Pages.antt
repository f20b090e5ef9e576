-- A thread's block of words on pages of eight words, each in two copies. A mask names one copy of each page.
use Rattle.std.specs.Prelude.{◌≡◌, ◌≢◌, ◌⊎◌, ℕ, ◌+◌, ◌-◌, ◌/◌, ◌^◌, ◌<◌, ◌==◌, Bool, cond, bit_or, bit_xor}
use Rattle.std.specs.Int.{bit_at}
use Rattle.fram_words.specs.Places.{Place, Commit, Page, Memory, Access, Load, Store}
pub use Rattle.thread_state.specs.Committed.{place_in, word_in, committed}

-- how far the copying of a page is: the next word to load, or one that was loaded and is to be stored
pub data Copying : Type 0 where
  Loading : (word : ℕ) → Copying
  Storing : (word value : ℕ) → Copying

-- the registers of a thread's writes: its commit word, the pages that were written, and a copy under way
pub record Buffer : Type 0 where
  pub commit : ℕ
  pub dirty : ℕ
  pub copying : Copying

-- the registers of a thread that has written nothing since its commit
abbrev pub no_writes : ℕ → Buffer
no_writes commit = record { commit = commit; dirty = 0; copying = Loading 0 }

-- a page is dirty once its other copy holds what was written since the commit
abbrev pub is_dirty : Buffer → ℕ → Bool
is_dirty b page = bit_at b.dirty page == 1

-- the working copy: a dirty page in its other copy, every other page in its committed copy
abbrev pub working_mask : Buffer → ℕ
working_mask b = bit_xor b.commit b.dirty

-- a word as the thread reads it, with its own writes
abbrev pub working : Memory → ℕ → Buffer → ℕ → ℕ
working m thread b word = word_in m thread (working_mask b) word

-- the next access of the copying of a page
abbrev pub copy_access : ℕ → ℕ → ℕ → Copying → Access
copy_access thread commit page (Loading k) = Load (Page thread page (bit_at commit page) k)
copy_access thread commit page (Storing k v) = Store (Page thread page (1 - bit_at commit page) k) v

-- and the registers after it
abbrev pub after_copy : Buffer → ℕ → Copying → ℕ → Buffer
after_copy b page (Loading k) word = record { commit = b.commit; dirty = b.dirty; copying = Storing k word }
after_copy b page (Storing k v) word =
    record {
      commit = b.commit;
      dirty = cond (k == 7) (bit_or b.dirty (2 ^ page)) b.dirty;
      copying = cond (k == 7) (Loading 0) (Loading (k + 1));
    }

-- a write on a dirty page
abbrev pub write_access : ℕ → Buffer → ℕ → ℕ → Access
write_access thread b word value = Store (place_in thread (working_mask b) word) value

-- the next access of a write: the copying of its page first, where the page is clean
abbrev pub put_access : ℕ → Buffer → ℕ → ℕ → Access
put_access thread b word value =
    cond (is_dirty b (word / 8)) (write_access thread b word value) (copy_access thread b.commit (word / 8) b.copying)

-- a read
abbrev pub get_access : ℕ → Buffer → ℕ → Access
get_access thread b word = Load (place_in thread (working_mask b) word)

-- the store that turns the commit word's bits of the dirty pages
abbrev pub commit_access : ℕ → Buffer → Access
commit_access thread b = Store (Commit thread) (working_mask b)

-- the words of a page before the k-th are equal in both copies
abbrev pub AgreeBelow : Memory → ℕ → ℕ → ℕ → ℕ → Type 0
AgreeBelow m thread commit page k =
    (j : ℕ) → j < k → m (Page thread page (1 - bit_at commit page) j) ≡ m (Page thread page (bit_at commit page) j)

-- what is known while a page is copied
abbrev pub IsCopied : Memory → ℕ → ℕ → ℕ → Copying → Type 0
IsCopied m thread commit page (Loading k) = (k < 8) × AgreeBelow m thread commit page k
IsCopied m thread commit page (Storing k v) =
    (k < 8) × AgreeBelow m thread commit page k × (v ≡ m (Page thread page (bit_at commit page) k))

-- The registers know the commit word, and the working copy reads as `contents`.
pub record Buffered (m : Memory) (thread : ℕ) (b : Buffer) (contents : ℕ → ℕ) : Type 0 where
  pub commit : b.commit ≡ m (Commit thread)
  pub words : (w : ℕ) → working m thread b w ≡ contents w

-- the contents after a write
abbrev pub put : (ℕ → ℕ) → ℕ → ℕ → ℕ → ℕ
put contents word value w = cond (w == word) value (contents w)

-- no word of the pages of the thread
abbrev pub IsOutside : ℕ → Place → Type 0
IsOutside thread (Page u page copy word) = u ≢ thread
IsOutside thread _ = Unit {0}

-- a page whose copying goes on, or is over
abbrev pub IsUnderWay : Memory → ℕ → Buffer → ℕ → Type 0
IsUnderWay m thread b page =
    ((bit_at b.dirty page ≡ 0) × IsCopied m thread b.commit page b.copying) ⊎ ((bit_at b.dirty page ≡ 1) × (b.copying ≡ Loading 0))
