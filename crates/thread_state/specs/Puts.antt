-- A put of a word by the registers alone, access by access, as a task makes it, and the calls that it stands for.
use Rattle.std.specs.Prelude.{◌≡◌, ℕ, zero, suc, ◌/◌, cond, List, [], ◌∷◌, ◌++◌, replicate}
use Rattle.fram_words.specs.Places.{Commit, Memory, perform, answer}
use Rattle.thread_state.specs.declared.block.Block.{Block}
use Rattle.thread_state.specs.Pages.{Buffer, committed, is_dirty, put_access, after_copy, put}
use Rattle.thread_state.specs.Writes.{Writes, begun, IsAtRest}
use Rattle.thread_state.specs.Calls.{Call, Prepare, Copy, Write, CanCallAll, memory_after_all, registers_after_all, last_written, IsLeft}

-- the memory and the registers
pub record Written : Type 0 where
  pub memory : Memory
  pub buffer : Buffer

-- the registers after an access of a put, which found this word: the copying goes on, and the write leaves them
abbrev pub put_taken : Buffer → (word found : ℕ) → Buffer
put_taken b word found = cond (is_dirty b (word / 8)) b (after_copy b (word / 8) b.copying found)

-- after the first so many accesses of a put of a word
abbrev pub put_by : ℕ → (word value : ℕ) → (accesses : ℕ) → Written → Written
put_by thread word value zero x = x
put_by thread word value (suc n) x =
    put_by thread word value n
    (record {
      memory = perform x.memory (put_access thread x.buffer word value);
      buffer = put_taken x.buffer word (answer x.memory (put_access thread x.buffer word value));
    })

-- the accesses of a whole put: the write, and sixteen before it that copy a clean page
abbrev pub accesses_of_put : Buffer → ℕ → ℕ
accesses_of_put b word = cond (is_dirty b (word / 8)) 1 17

-- the memory and the registers after a whole put
abbrev pub put_whole : ℕ → (word value : ℕ) → Written → Written
put_whole thread word value x = put_by thread word value (accesses_of_put x.buffer word) x

-- the calls that make the page of a word ready, copy it where it is clean, and write the word
abbrev pub calls_of_put : Buffer → (word value : ℕ) → List Call
calls_of_put b word value = Prepare word ∷ (cond (is_dirty b (word / 8)) [] (replicate 16 Copy) ++ (Write word value ∷ []))

-- A put is those calls: they may be made, they leave the same memory and registers, and what calls leave a put has left.
pub record IsPut (thread : ℕ) (start m : Memory) (w : Writes) (contents : ℕ → ℕ) (word value : ℕ) : Type 0 where
  pub can : CanCallAll thread m w (calls_of_put w.buffer word value)
  pub memory : (put_whole thread word value (record { memory = m; buffer = w.buffer })).memory ≡ memory_after_all thread m w (calls_of_put w.buffer word value)
  pub registers : record w { buffer = (put_whole thread word value (record { memory = m; buffer = w.buffer })).buffer } ≡ registers_after_all thread m w (calls_of_put w.buffer word value)
  pub left : IsLeft thread start (put_whole thread word value (record { memory = m; buffer = w.buffer })).memory
      (record w { buffer = (put_whole thread word value (record { memory = m; buffer = w.buffer })).buffer }) (put contents word value)

-- after any calls that leave no copying under way, any put of a word
abbrev pub PutsAreCalls : Type 0
PutsAreCalls =
    (thread : ℕ) (block : Block) (m : Memory) (calls : List Call) (word value : ℕ) → let w = begun block (m (Commit thread)) in
    CanCallAll thread m w calls → IsAtRest (registers_after_all thread m w calls) →
    IsPut thread m (memory_after_all thread m w calls) (registers_after_all thread m w calls) (last_written (committed m thread) (committed m thread) calls) word value
