-- Words that are an image have no place at which a check fails.
use Rattle.ink_image.proofs.Common.{ℕ, ◌*◌, ◌<◌, length, Program}
use Rattle.fram_words.specs.Places.{Memory, Place}
use Rattle.fram_words.specs.Header as header
use Rattle.thread_state.specs.Pages.{committed}
use Rattle.prog_check.specs.Lookup.{thread_def, task_def}
use Rattle.ink_layout.specs.Shape.{pages_of}
use Rattle.never_cut.specs.Image.{IsImage, IsCodeWord, IsCommitWord, IsBlockWord, IsPipeRight, IsLogWord, IsQueueRight, IsSourceRight}
use Rattle.image_checks.specs.Failing.{IsFirstFailing, InCode, InCommitWords, InBlocks, InPipes, InLogs, InQueues, InSources, IsCodeFault, CodeFails, IsCommitFault, CommitFails, IsBlockFault, BlockFails, IsPipeFault, CountFails, ItemFails, IsLogFault, LogFails, IsQueueFault, SlotFails, TailFails, OnlyFinishedFails, IdleFinishedFails, FirstServedFails, IsSourceFault, SrcFails, EventFails, AckFails}
use Rattle.old_image.specs.Image.{IsOldImage, IsOldBlockWord, IsOldQueueRight, IsOldSourceRight}
use Rattle.old_image.specs.Failing as old

code_holds : (program : Program) (words : Memory) (x : ℕ) (p : Place) → ((n : ℕ) → n < length (task_def program x).code → IsCodeWord program words x n) → IsCodeFault program words x p → ⊥
code_holds program words x p right (CodeFails n first) = first.fails (right n first.inside)

commit_holds : (program : Program) (words : Memory) (t : ℕ) (p : Place) → IsCommitWord program words t → IsCommitFault program words t p → ⊥
commit_holds program words t p right (CommitFails fails) = fails right

block_holds : (program : Program) (words : Memory) (t : ℕ) (p : Place) → ((w : ℕ) → w < 8 * pages_of (thread_def program t) → IsBlockWord program words t w) → IsBlockFault program words t p → ⊥
block_holds program words t p right (BlockFails w first) = first.fails (right w first.inside)

pipe_holds : (program : Program) (words : Memory) (q : ℕ) (p : Place) → IsPipeRight program words q → IsPipeFault program words q p → ⊥
pipe_holds program words q p right (CountFails fails) = fails right.counts
pipe_holds program words q p right (ItemFails n counts first) = first.fails (right.items n)

log_holds : (program : Program) (words : Memory) (t : ℕ) (p : Place) → ((n : ℕ) → n < committed words t header.outputs → IsLogWord program words t n) → IsLogFault program words t p → ⊥
log_holds program words t p right (LogFails n first) = first.fails (right n first.inside)

queue_holds : (program : Program) (words : Memory) (t : ℕ) (p : Place) → IsQueueRight program words t → IsQueueFault program words t p → ⊥
queue_holds program words t p right (SlotFails k first) = first.fails (right.slots k first.inside)
queue_holds program words t p right (TailFails slots fails) = fails right.tail
queue_holds program words t p right (OnlyFinishedFails slots tail fails) = fails right.only
queue_holds program words t p right (IdleFinishedFails slots tail only fails) = fails right.idle
queue_holds program words t p right (FirstServedFails slots tail only idle fails) = fails right.served

source_holds : (program : Program) (words : Memory) (i : ℕ) (p : Place) → IsSourceRight program words i → IsSourceFault program words i p → ⊥
source_holds program words i p right (SrcFails fails) = fails right.src
source_holds program words i p right (EventFails j src first) = first.fails (right.counts j first.inside)
source_holds program words i p right (AckFails src counts fails) = fails right.ack

pub today_holds : (program : Program) (words : Memory) (p : Place) → IsImage program words → IsFirstFailing program words p → ⊥
today_holds program words p image (InCode at) = code_holds program words at.part p (λ n lt. image.code at.part n at.inside lt) at.fault
today_holds program words p image (InCommitWords a at) = commit_holds program words at.part p (image.commit_words at.part at.inside) at.fault
today_holds program words p image (InBlocks a b at) = block_holds program words at.part p (λ w lt. image.blocks at.part w at.inside lt) at.fault
today_holds program words p image (InPipes a b c at) = pipe_holds program words at.part p (image.pipes at.part at.inside) at.fault
today_holds program words p image (InLogs a b c d at) = log_holds program words at.part p (λ n lt. image.logs at.part n at.inside lt) at.fault
today_holds program words p image (InQueues a b c d e at) = queue_holds program words at.part p (image.queues at.part at.inside) at.fault
today_holds program words p image (InSources a b c d e f at) = source_holds program words at.part p (image.sources at.part at.inside) at.fault

-- and in the earlier form
old_block_holds : (program : Program) (words : Memory) (t : ℕ) (p : Place) → ((w : ℕ) → w < 8 * pages_of (thread_def program t) → IsOldBlockWord program words t w) → old.IsOldBlockFault program words t p → ⊥
old_block_holds program words t p right (old.BlockFails w first) = first.fails (right w first.inside)

old_queue_holds : (program : Program) (words : Memory) (t : ℕ) (p : Place) → IsOldQueueRight program words t → old.IsOldQueueFault program words t p → ⊥
old_queue_holds program words t p right (old.SlotFails k first) = first.fails (right.slots k first.inside)
old_queue_holds program words t p right (old.TailFails slots fails) = fails right.tail
old_queue_holds program words t p right (old.OnlyFinishedFails slots tail fails) = fails right.only
old_queue_holds program words t p right (old.IdleFinishedFails slots tail only fails) = fails right.idle
old_queue_holds program words t p right (old.FirstServedFails slots tail only idle fails) = fails right.served

old_source_holds : (program : Program) (words : Memory) (i : ℕ) (p : Place) → IsOldSourceRight program words i → old.IsOldSourceFault program words i p → ⊥
old_source_holds program words i p right (old.ReadingFails j first) = first.fails (right.rising j first.inside)
old_source_holds program words i p right (old.AckFails rising fails) = fails right.ack

pub earlier_holds : (program : Program) (words : Memory) (p : Place) → IsOldImage program words → old.IsFirstFailingOld program words p → ⊥
earlier_holds program words p image (old.InCode at) = code_holds program words at.part p (λ n lt. image.code at.part n at.inside lt) at.fault
earlier_holds program words p image (old.InCommitWords a at) = commit_holds program words at.part p (image.commit_words at.part at.inside) at.fault
earlier_holds program words p image (old.InBlocks a b at) = old_block_holds program words at.part p (λ w lt. image.blocks at.part w at.inside lt) at.fault
earlier_holds program words p image (old.InPipes a b c at) = pipe_holds program words at.part p (image.pipes at.part at.inside) at.fault
earlier_holds program words p image (old.InLogs a b c d at) = log_holds program words at.part p (λ n lt. image.logs at.part n at.inside lt) at.fault
earlier_holds program words p image (old.InQueues a b c d e at) = old_queue_holds program words at.part p (image.queues at.part at.inside) at.fault
earlier_holds program words p image (old.InSources a b c d e f at) = old_source_holds program words at.part p (image.sources at.part at.inside) at.fault
