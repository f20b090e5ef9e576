-- The seven checks together: they make an image, an image passes them, and the place at which one of them fails is on the board.
use Rattle.std.proofs.Common.{ℕ, ◌+◌, ◌*◌, ◌%◌, ◌<◌, length, arith}
use Rattle.task_isa.specs.declared.program.Program.{Program}
use Rattle.fram_words.specs.Places.{Place, Memory, Slot}
use Rattle.fram_words.specs.Header as header
use Rattle.prog_check.specs.Accepted.{IsAccepted}
use Rattle.prog_check.specs.Lookup.{thread_def, pipe_def, source_thread}
use Rattle.ink_layout.specs.Shape.{IsOnBoard, pages_of}
use Rattle.never_cut.specs.Image.{IsImage}
use Rattle.never_cut.specs.ReadOff.{told_released}
use Rattle.image_checks.specs.Failing.{block_place, CodeHolds, CommitWordsHold, BlocksHold, PipesHold, LogsHold, QueuesHold, SourcesHold, IsCodeFault, IsCommitFault, IsBlockFault, IsPipeFault, IsLogFault, IsQueueFault, IsSourceFault, IsFirstFailing, CodeFails, CommitFails, BlockFails, CountFails, ItemFails, LogFails, SlotFails, TailFails, OnlyFinishedFails, IdleFinishedFails, FirstServedFails, SrcFails, EventFails, AckFails, InCode, InCommitWords, InBlocks, InPipes, InLogs, InQueues, InSources}
use Rattle.image_checks.proofs.LogWords.{outputs_fit}

module _ (program : Program) (words : Memory) where
  -- words of which the seven checks hold are an image
  pub image_of : CodeHolds program words → CommitWordsHold program words → BlocksHold program words → PipesHold program words → LogsHold program words →
      QueuesHold program words → SourcesHold program words → IsImage program words
  image_of code commits blocks pipes logs queues sources = record {
    code = λ x n lt within. code x lt n within;
    commit_words = commits;
    blocks = λ t w lt within. blocks t lt w within;
    pipes = pipes;
    logs = λ t n lt within. logs t lt n within;
    queues = queues;
    sources = sources;
  }

  -- where the code of a task of the program fails is on the board
  code_on : (x : ℕ) {p : Place} → x < length program.tasks → IsCodeFault program words x p → IsOnBoard program p
  code_on x lt (CodeFails n first) = (lt, first.inside)

  commit_on : (t : ℕ) {p : Place} → t < length program.threads → IsCommitFault program words t p → IsOnBoard program p
  commit_on t lt (CommitFails fails) = lt

  -- a word of a block is on the board
  word_on : (t w : ℕ) → t < length program.threads → w < 8 * pages_of (thread_def program t) → IsOnBoard program (block_place words t w)
  word_on t w lt within = (lt, omega arith, omega arith, omega arith)

  block_on : (t : ℕ) {p : Place} → t < length program.threads → IsBlockFault program words t p → IsOnBoard program p
  block_on t lt (BlockFails w first) = word_on t w lt first.inside

  pipe_on : (q : ℕ) {p : Place} → IsAccepted program → q < length program.pipes → IsPipeFault program words q p → IsOnBoard program p
  pipe_on q accepted lt (CountFails fails) =
      let few = accepted.counts.pipes in word_on (pipe_def program q).writer.0 (header.written q) (accepted.pipes q lt).writer (omega arith)
  pipe_on q accepted lt (ItemFails n counts first) = let some = (accepted.pipes q lt).places_least in (lt, omega arith)

  log_on : (t : ℕ) {p : Place} → BlocksHold program words → t < length program.threads → IsLogFault program words t p → IsOnBoard program p
  log_on t blocks lt (LogFails n first) = let fits = outputs_fit program words blocks t lt in let before = first.inside in (lt, omega arith)

  slot_on : (t n : ℕ) → IsAccepted program → t < length program.threads → IsOnBoard program (Slot t (n % (thread_def program t).queue))
  slot_on t n accepted lt = let some = (accepted.threads t lt).queue_least in (lt, omega arith)

  queue_on : (t : ℕ) {p : Place} → IsAccepted program → t < length program.threads → IsQueueFault program words t p → IsOnBoard program p
  queue_on t accepted lt (SlotFails k first) = slot_on t (told_released program words t + k) accepted lt
  queue_on t accepted lt (TailFails slots fails) = lt
  queue_on t accepted lt (OnlyFinishedFails slots tail fails) = word_on t header.finished lt (omega arith)
  queue_on t accepted lt (IdleFinishedFails slots tail only fails) = word_on t header.next lt (omega arith)
  queue_on t accepted lt (FirstServedFails slots tail only idle fails) = word_on t header.origin lt (omega arith)

  source_on : (i : ℕ) {p : Place} → IsAccepted program → i < length program.sources → IsSourceFault program words i p → IsOnBoard program p
  source_on i accepted lt (SrcFails fails) = lt
  source_on i accepted lt (EventFails j src first) =
      slot_on (source_thread program i) (told_released program words (source_thread program i) + j) accepted (accepted.sources i lt)
  source_on i accepted lt (AckFails src counts fails) = lt

  -- the first place at which words fail is on the board
  pub failing_there : (p : Place) → IsAccepted program → IsFirstFailing program words p → IsOnBoard program p
  failing_there p accepted (InCode f) = code_on f.part f.inside f.fault
  failing_there p accepted (InCommitWords a f) = commit_on f.part f.inside f.fault
  failing_there p accepted (InBlocks a b f) = block_on f.part f.inside f.fault
  failing_there p accepted (InPipes a b c f) = pipe_on f.part accepted f.inside f.fault
  failing_there p accepted (InLogs a b c d f) = log_on f.part c f.inside f.fault
  failing_there p accepted (InQueues a b c d e f) = queue_on f.part accepted f.inside f.fault
  failing_there p accepted (InSources a b c d e g f) = source_on f.part accepted f.inside f.fault

module _ (program : Program) (words : Memory) (image : IsImage program words) where
  no_code : (x : ℕ) {p : Place} → x < length program.tasks → IsCodeFault program words x p → ⊥
  no_code x lt (CodeFails n first) = first.fails (image.code x n lt first.inside)

  no_commit : (t : ℕ) {p : Place} → t < length program.threads → IsCommitFault program words t p → ⊥
  no_commit t lt (CommitFails fails) = fails (image.commit_words t lt)

  no_block : (t : ℕ) {p : Place} → t < length program.threads → IsBlockFault program words t p → ⊥
  no_block t lt (BlockFails w first) = first.fails (image.blocks t w lt first.inside)

  no_pipe : (q : ℕ) {p : Place} → q < length program.pipes → IsPipeFault program words q p → ⊥
  no_pipe q lt (CountFails fails) = fails (image.pipes q lt).counts
  no_pipe q lt (ItemFails n counts first) = first.fails ((image.pipes q lt).items n)

  no_log : (t : ℕ) {p : Place} → t < length program.threads → IsLogFault program words t p → ⊥
  no_log t lt (LogFails n first) = first.fails (image.logs t n lt first.inside)

  no_queue : (t : ℕ) {p : Place} → t < length program.threads → IsQueueFault program words t p → ⊥
  no_queue t lt (SlotFails k first) = first.fails ((image.queues t lt).slots k first.inside)
  no_queue t lt (TailFails slots fails) = fails (image.queues t lt).tail
  no_queue t lt (OnlyFinishedFails slots tail fails) = fails (image.queues t lt).only
  no_queue t lt (IdleFinishedFails slots tail only fails) = fails (image.queues t lt).idle
  no_queue t lt (FirstServedFails slots tail only idle fails) = fails (image.queues t lt).served

  no_source : (i : ℕ) {p : Place} → i < length program.sources → IsSourceFault program words i p → ⊥
  no_source i lt (SrcFails fails) = fails (image.sources i lt).src
  no_source i lt (EventFails j src first) = first.fails ((image.sources i lt).counts j first.inside)
  no_source i lt (AckFails src counts fails) = fails (image.sources i lt).ack

  -- an image fails nowhere
  pub fails_nowhere : (p : Place) → ¬ IsFirstFailing program words p
  fails_nowhere p (InCode f) = no_code f.part f.inside f.fault
  fails_nowhere p (InCommitWords a f) = no_commit f.part f.inside f.fault
  fails_nowhere p (InBlocks a b f) = no_block f.part f.inside f.fault
  fails_nowhere p (InPipes a b c f) = no_pipe f.part f.inside f.fault
  fails_nowhere p (InLogs a b c d f) = no_log f.part f.inside f.fault
  fails_nowhere p (InQueues a b c d e f) = no_queue f.part f.inside f.fault
  fails_nowhere p (InSources a b c d e g f) = no_source f.part f.inside f.fault
