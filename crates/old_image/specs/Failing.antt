-- Words that fail to be an image of the earlier form: the place that a reader names. It is the first one, in the order of the checks and of their places,
-- at which a check fails. Those on code, commit words, pipes and logs name what they do today.
use Rattle.std.specs.Prelude.{ℕ, ◌+◌, ◌*◌, ◌%◌, length}
use Rattle.task_isa.specs.declared.program.Program.{Program}
use Rattle.fram_words.specs.Places.{Place, Memory, Tail, Slot, Ack}
use Rattle.fram_words.specs.Header as header
use Rattle.prog_check.specs.Lookup.{thread_def, source_thread}
use Rattle.ink_layout.specs.Shape.{pages_of}
use Rattle.image_checks.specs.Failing.{IsFirstFault, HoldsBelow, IsFirstIn, CodeHolds, CommitWordsHold, PipesHold, LogsHold, IsFirstCodeFault, IsFirstCommitFault, IsFirstPipeFault, IsFirstLogFault, block_place}
use Rattle.old_image.specs.Told.{old_released, old_held_for}
use Rattle.old_image.specs.Image.{IsOldBlockWord, IsOldSlotWord, IsOldTailWord, IsOldOnlyFinished, IsOldIdleFinished, IsOldFirstServed, IsRisingReading, IsOldAckWord, IsOldQueueRight, IsOldSourceRight}

-- the words of a thread's committed copy are right
abbrev pub IsOldBlock : Program → Memory → (t : ℕ) → Type 0
IsOldBlock program words t = HoldsBelow (IsOldBlockWord program words t) (8 * pages_of (thread_def program t))

-- the slots of a thread's queue are right
abbrev pub AreOldSlots : Program → Memory → (t : ℕ) → Type 0
AreOldSlots program words t = HoldsBelow (IsOldSlotWord program words t) (thread_def program t).queue

-- the readings of a source's held events rise
abbrev pub AreRising : Program → Memory → (i : ℕ) → Type 0
AreRising program words i = HoldsBelow (IsRisingReading program words i) (length (old_held_for program words i))

-- check 3 holds: every word of the committed copies
abbrev pub OldBlocksHold : Program → Memory → Type 0
OldBlocksHold program words = HoldsBelow (IsOldBlock program words) (length program.threads)

-- check 6: every queue
abbrev pub OldQueuesHold : Program → Memory → Type 0
OldQueuesHold program words = HoldsBelow (IsOldQueueRight program words) (length program.threads)

-- check 7: every source
abbrev pub OldSourcesHold : Program → Memory → Type 0
OldSourcesHold program words = HoldsBelow (IsOldSourceRight program words) (length program.sources)

-- where the block of thread t fails: at the first wrong word of the committed copy
pub data IsOldBlockFault (program : Program) (words : Memory) (t : ℕ) : Place → Type 0 where
  BlockFails : (w : ℕ) → IsFirstFault (IsOldBlockWord program words t) (8 * pages_of (thread_def program t)) w →
      IsOldBlockFault program words t (block_place words t w)

-- where the queue of thread t fails: at the slot of the first position that is wrong; or else at its tail, at the number of its finished events, at its
-- next task, at the origin of its event
pub data IsOldQueueFault (program : Program) (words : Memory) (t : ℕ) : Place → Type 0 where
  SlotFails : (k : ℕ) → IsFirstFault (IsOldSlotWord program words t) (thread_def program t).queue k →
      IsOldQueueFault program words t (Slot t ((old_released program words t + k) % (thread_def program t).queue))
  TailFails : AreOldSlots program words t → ¬ IsOldTailWord program words t → IsOldQueueFault program words t (Tail t)
  OnlyFinishedFails : AreOldSlots program words t → IsOldTailWord program words t → ¬ IsOldOnlyFinished program words t →
      IsOldQueueFault program words t (block_place words t header.finished)
  IdleFinishedFails : AreOldSlots program words t → IsOldTailWord program words t → IsOldOnlyFinished program words t → ¬ IsOldIdleFinished program words t →
      IsOldQueueFault program words t (block_place words t header.next)
  FirstServedFails : AreOldSlots program words t → IsOldTailWord program words t → IsOldOnlyFinished program words t → IsOldIdleFinished program words t →
      ¬ IsOldFirstServed program words t → IsOldQueueFault program words t (block_place words t header.origin)

-- where source i fails: at the slot of the first held event whose reading doesn't come after those before it, or else at its ACK
pub data IsOldSourceFault (program : Program) (words : Memory) (i : ℕ) : Place → Type 0 where
  ReadingFails : (j : ℕ) → IsFirstFault (IsRisingReading program words i) (length (old_held_for program words i)) j →
      IsOldSourceFault program words i
      (Slot (source_thread program i) ((old_released program words (source_thread program i) + j) % (thread_def program (source_thread program i)).queue))
  AckFails : AreRising program words i → ¬ IsOldAckWord program words i → IsOldSourceFault program words i (Ack i)

-- the first place at which check 3 fails
abbrev pub IsFirstOldBlockFault : Program → Memory → Place → Type 0
IsFirstOldBlockFault program words p = IsFirstIn (IsOldBlock program words) (length program.threads) (IsOldBlockFault program words) p

-- check 6
abbrev pub IsFirstOldQueueFault : Program → Memory → Place → Type 0
IsFirstOldQueueFault program words p = IsFirstIn (IsOldQueueRight program words) (length program.threads) (IsOldQueueFault program words) p

-- check 7
abbrev pub IsFirstOldSourceFault : Program → Memory → Place → Type 0
IsFirstOldSourceFault program words p = IsFirstIn (IsOldSourceRight program words) (length program.sources) (IsOldSourceFault program words) p

-- The first place at which words fail to be an image of the program in the earlier form: that of the first check that fails.
pub data IsFirstFailingOld (program : Program) (words : Memory) : Place → Type 0 where
  InCode : {p : Place} → IsFirstCodeFault program words p → IsFirstFailingOld program words p
  InCommitWords : {p : Place} → CodeHolds program words → IsFirstCommitFault program words p → IsFirstFailingOld program words p
  InBlocks : {p : Place} → CodeHolds program words → CommitWordsHold program words → IsFirstOldBlockFault program words p → IsFirstFailingOld program words p
  InPipes : {p : Place} → CodeHolds program words → CommitWordsHold program words → OldBlocksHold program words → IsFirstPipeFault program words p →
      IsFirstFailingOld program words p
  InLogs : {p : Place} → CodeHolds program words → CommitWordsHold program words → OldBlocksHold program words → PipesHold program words →
      IsFirstLogFault program words p → IsFirstFailingOld program words p
  InQueues : {p : Place} → CodeHolds program words → CommitWordsHold program words → OldBlocksHold program words → PipesHold program words →
      LogsHold program words → IsFirstOldQueueFault program words p → IsFirstFailingOld program words p
  InSources : {p : Place} → CodeHolds program words → CommitWordsHold program words → OldBlocksHold program words → PipesHold program words →
      LogsHold program words → OldQueuesHold program words → IsFirstOldSourceFault program words p → IsFirstFailingOld program words p
