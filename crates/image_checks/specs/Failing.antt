-- Words that fail to be an image: the place that a reader names. It is the first one, in the order of the checks and of their places, at which a check fails.
use Rattle.std.specs.Prelude.{ℕ, ◌+◌, ◌*◌, ◌%◌, ◌<◌, ◌≤◌, Option, Some, None, length}
use Rattle.task_isa.specs.declared.program.Program.{Program}
use Rattle.fram_words.specs.Places.{Place, Memory, Code, Commit, Log, Ring, Tail, Slot, Ack, Src}
use Rattle.fram_words.specs.Header as header
use Rattle.thread_state.specs.Pages.{place_in, committed}
use Rattle.prog_check.specs.Lookup.{thread_def, pipe_def, task_def, source_thread}
use Rattle.ink_layout.specs.Shape.{pages_of}
use Rattle.never_cut.specs.Image.{IsCodeWord, IsCommitWord, IsBlockWord, IsPipeCount, IsItemWord, IsLogWord, IsSlotWord, IsTailWord, IsOnlyFinished, IsIdleFinished, IsFirstServed, IsSrcWord, IsCountWord, IsAckWord, IsPipeRight, IsQueueRight, IsSourceRight, written_of, held_for}
use Rattle.never_cut.specs.ReadOff.{told_released}

-- n is the first number below a count of which P doesn't hold
pub record IsFirstFault (P : ℕ → Type 0) (count n : ℕ) : Type 0 where
  pub inside : n < count
  pub before : (k : ℕ) → k < n → P k
  pub fails : ¬ P n

-- P holds of all numbers below the count
abbrev pub HoldsBelow : (P : ℕ → Type 0) → (count : ℕ) → Type 0
HoldsBelow P count = (n : ℕ) → n < count → P n

-- the first number below the count of which P doesn't hold, or none where it holds of all
abbrev pub FindsFault : (P : ℕ → Type 0) → (count : ℕ) → Option ℕ → Type 0
FindsFault P count None = HoldsBelow P count
FindsFault P count (Some n) = IsFirstFault P count n

-- where a word of a thread's committed copy stands
abbrev pub block_place : Memory → (t w : ℕ) → Place
block_place words t w = place_in t (words (Commit t)) w

-- the code words of a task are the program's
abbrev pub IsTaskCode : Program → Memory → (x : ℕ) → Type 0
IsTaskCode program words x = HoldsBelow (IsCodeWord program words x) (length (task_def program x).code)

-- the words of a thread's committed copy are right
abbrev pub IsBlock : Program → Memory → (t : ℕ) → Type 0
IsBlock program words t = HoldsBelow (IsBlockWord program words t) (8 * pages_of (thread_def program t))

-- the words of a thread's log that have an output are right
abbrev pub IsLog : Program → Memory → (t : ℕ) → Type 0
IsLog program words t = HoldsBelow (IsLogWord program words t) (committed words t header.outputs)

-- the slots of a thread's queue are right
abbrev pub AreSlots : Program → Memory → (t : ℕ) → Type 0
AreSlots program words t = HoldsBelow (IsSlotWord program words t) (thread_def program t).queue

-- the counts of a source's held events are right
abbrev pub AreCounts : Program → Memory → (i : ℕ) → Type 0
AreCounts program words i = HoldsBelow (IsCountWord program words i) (length (held_for program words i))

-- no thread has more outputs than places for them
abbrev pub OutputsFit : Program → Memory → Type 0
OutputsFit program words = HoldsBelow (λ t. committed words t header.outputs ≤ (thread_def program t).log) (length program.threads)

-- check 1 holds: every code word
abbrev pub CodeHolds : Program → Memory → Type 0
CodeHolds program words = HoldsBelow (IsTaskCode program words) (length program.tasks)

-- check 2: every commit word
abbrev pub CommitWordsHold : Program → Memory → Type 0
CommitWordsHold program words = HoldsBelow (IsCommitWord program words) (length program.threads)

-- check 3: every word of the committed copies
abbrev pub BlocksHold : Program → Memory → Type 0
BlocksHold program words = HoldsBelow (IsBlock program words) (length program.threads)

-- check 4: every pipe
abbrev pub PipesHold : Program → Memory → Type 0
PipesHold program words = HoldsBelow (IsPipeRight program words) (length program.pipes)

-- check 5: every log
abbrev pub LogsHold : Program → Memory → Type 0
LogsHold program words = HoldsBelow (IsLog program words) (length program.threads)

-- check 6: every queue
abbrev pub QueuesHold : Program → Memory → Type 0
QueuesHold program words = HoldsBelow (IsQueueRight program words) (length program.threads)

-- check 7: every source
abbrev pub SourcesHold : Program → Memory → Type 0
SourcesHold program words = HoldsBelow (IsSourceRight program words) (length program.sources)

-- p is a place at which the first of so many parts fails, of which P doesn't hold; F tells at which place a part fails
pub record IsFirstIn (P : ℕ → Type 0) (count : ℕ) (F : ℕ → Place → Type 0) (p : Place) : Type 0 where
  pub part : ℕ
  pub inside : part < count
  pub before : HoldsBelow P part
  pub fault : F part p

-- where the code of task x fails: at its first word that isn't the program's
pub data IsCodeFault (program : Program) (words : Memory) (x : ℕ) : Place → Type 0 where
  CodeFails : (n : ℕ) → IsFirstFault (IsCodeWord program words x) (length (task_def program x).code) n → IsCodeFault program words x (Code x n)

-- where the commit word of thread t fails
pub data IsCommitFault (program : Program) (words : Memory) (t : ℕ) : Place → Type 0 where
  CommitFails : ¬ IsCommitWord program words t → IsCommitFault program words t (Commit t)

-- where the block of thread t fails: at the first wrong word of the committed copy
pub data IsBlockFault (program : Program) (words : Memory) (t : ℕ) : Place → Type 0 where
  BlockFails : (w : ℕ) → IsFirstFault (IsBlockWord program words t) (8 * pages_of (thread_def program t)) w →
      IsBlockFault program words t (block_place words t w)

-- where pipe q fails: at the count in its writer's block, or else at the ring word of its first item that is wrong
pub data IsPipeFault (program : Program) (words : Memory) (q : ℕ) : Place → Type 0 where
  CountFails : ¬ IsPipeCount program words q → IsPipeFault program words q (block_place words (pipe_def program q).writer.0 (header.written q))
  ItemFails : (n : ℕ) → IsPipeCount program words q → IsFirstFault (IsItemWord program words q) (written_of program words q) n →
      IsPipeFault program words q (Ring q (n % (pipe_def program q).places))

-- where the log of thread t fails: at its first wrong word
pub data IsLogFault (program : Program) (words : Memory) (t : ℕ) : Place → Type 0 where
  LogFails : (n : ℕ) → IsFirstFault (IsLogWord program words t) (committed words t header.outputs) n → IsLogFault program words t (Log t n)

-- where the queue of thread t fails: at the slot of the first position that is wrong; or else at its tail, at the number of its finished events, at its
-- next task, at the origin of its event
pub data IsQueueFault (program : Program) (words : Memory) (t : ℕ) : Place → Type 0 where
  SlotFails : (k : ℕ) → IsFirstFault (IsSlotWord program words t) (thread_def program t).queue k →
      IsQueueFault program words t (Slot t ((told_released program words t + k) % (thread_def program t).queue))
  TailFails : AreSlots program words t → ¬ IsTailWord program words t → IsQueueFault program words t (Tail t)
  OnlyFinishedFails : AreSlots program words t → IsTailWord program words t → ¬ IsOnlyFinished program words t →
      IsQueueFault program words t (block_place words t header.finished)
  IdleFinishedFails : AreSlots program words t → IsTailWord program words t → IsOnlyFinished program words t → ¬ IsIdleFinished program words t →
      IsQueueFault program words t (block_place words t header.next)
  FirstServedFails : AreSlots program words t → IsTailWord program words t → IsOnlyFinished program words t → IsIdleFinished program words t →
      ¬ IsFirstServed program words t → IsQueueFault program words t (block_place words t header.origin)

-- where source i fails: at its SRC; or else at the slot of the first held event with a wrong count, at its ACK
pub data IsSourceFault (program : Program) (words : Memory) (i : ℕ) : Place → Type 0 where
  SrcFails : ¬ IsSrcWord words i → IsSourceFault program words i (Src i)
  EventFails : (j : ℕ) → IsSrcWord words i → IsFirstFault (IsCountWord program words i) (length (held_for program words i)) j →
      IsSourceFault program words i
      (Slot (source_thread program i) ((told_released program words (source_thread program i) + j) % (thread_def program (source_thread program i)).queue))
  AckFails : IsSrcWord words i → AreCounts program words i → ¬ IsAckWord program words i → IsSourceFault program words i (Ack i)

-- the first place at which check 1 fails
abbrev pub IsFirstCodeFault : Program → Memory → Place → Type 0
IsFirstCodeFault program words p = IsFirstIn (IsTaskCode program words) (length program.tasks) (IsCodeFault program words) p

-- check 2
abbrev pub IsFirstCommitFault : Program → Memory → Place → Type 0
IsFirstCommitFault program words p = IsFirstIn (IsCommitWord program words) (length program.threads) (IsCommitFault program words) p

-- check 3
abbrev pub IsFirstBlockFault : Program → Memory → Place → Type 0
IsFirstBlockFault program words p = IsFirstIn (IsBlock program words) (length program.threads) (IsBlockFault program words) p

-- check 4
abbrev pub IsFirstPipeFault : Program → Memory → Place → Type 0
IsFirstPipeFault program words p = IsFirstIn (IsPipeRight program words) (length program.pipes) (IsPipeFault program words) p

-- check 5
abbrev pub IsFirstLogFault : Program → Memory → Place → Type 0
IsFirstLogFault program words p = IsFirstIn (IsLog program words) (length program.threads) (IsLogFault program words) p

-- check 6
abbrev pub IsFirstQueueFault : Program → Memory → Place → Type 0
IsFirstQueueFault program words p = IsFirstIn (IsQueueRight program words) (length program.threads) (IsQueueFault program words) p

-- check 7
abbrev pub IsFirstSourceFault : Program → Memory → Place → Type 0
IsFirstSourceFault program words p = IsFirstIn (IsSourceRight program words) (length program.sources) (IsSourceFault program words) p

-- The first place at which words fail to be an image of the program: that of the first check that fails.
pub data IsFirstFailing (program : Program) (words : Memory) : Place → Type 0 where
  InCode : {p : Place} → IsFirstCodeFault program words p → IsFirstFailing program words p
  InCommitWords : {p : Place} → CodeHolds program words → IsFirstCommitFault program words p → IsFirstFailing program words p
  InBlocks : {p : Place} → CodeHolds program words → CommitWordsHold program words → IsFirstBlockFault program words p → IsFirstFailing program words p
  InPipes : {p : Place} → CodeHolds program words → CommitWordsHold program words → BlocksHold program words → IsFirstPipeFault program words p →
      IsFirstFailing program words p
  InLogs : {p : Place} → CodeHolds program words → CommitWordsHold program words → BlocksHold program words → PipesHold program words →
      IsFirstLogFault program words p → IsFirstFailing program words p
  InQueues : {p : Place} → CodeHolds program words → CommitWordsHold program words → BlocksHold program words → PipesHold program words →
      LogsHold program words → IsFirstQueueFault program words p → IsFirstFailing program words p
  InSources : {p : Place} → CodeHolds program words → CommitWordsHold program words → BlocksHold program words → PipesHold program words →
      LogsHold program words → QueuesHold program words → IsFirstSourceFault program words p → IsFirstFailing program words p
