-- The checks together: they make an image of the earlier form, and the place at which one of them fails is on the board.
use Rattle.old_image.proofs.Common.{ℕ, ◌+◌, ◌*◌, ◌/◌, ◌%◌, ◌<◌, ◌≤◌, ◌≢◌, refl, length, arith, Place, Memory, Program, committed, thread_def, pipe_def, source_thread, pages_of, IsAccepted, IsOldImage}
use Rattle.std.proofs.Common.{IfNone, IfSome, None, Option, Some}
use Rattle.fram_words.specs.Header as header
use Rattle.ink_layout.specs.Shape.{IsOnBoard}
use Rattle.image_checks.specs.Failing as today
use Rattle.image_checks.specs.Failing.{OutputsFit, LogsHold, block_place, IsCodeFault, IsCommitFault, IsPipeFault, IsLogFault}
use Rattle.old_image.specs.Failing as old
use Rattle.old_image.specs.Failing.{OldBlocksHold, OldQueuesHold, OldSourcesHold, IsOldBlockFault, IsOldQueueFault, IsOldSourceFault, IsFirstFailingOld}
use Rattle.old_image.specs.kept.Parts.{PrivateHolds}

module _ (program : Program) (words : Memory) where
  -- words of which the seven checks hold are an image
  pub image_of : PrivateHolds program words → OldQueuesHold program words → OldSourcesHold program words → IsOldImage program words
  image_of h queues sources = record {
    code = λ x n lt within. h.code x lt n within;
    commit_words = h.commit_words;
    blocks = λ t w lt within. h.blocks t lt w within;
    pipes = h.pipes;
    logs = λ t n lt within. h.logs t lt n within;
    queues = queues;
    sources = sources;
  }

  -- where the blocks are right no thread has more outputs than places for them
  pub old_outputs_fit : OldBlocksHold program words → OutputsFit program words
  old_outputs_fit blocks t known =
      let ne : header.outputs ≢ header.origin = λ e. omega arith in ((blocks t known header.outputs (omega arith)).others ne).outputs refl

  -- a word of a block is on the board
  word_on : (t w : ℕ) → t < length program.threads → w < 8 * pages_of (thread_def program t) → IsOnBoard program (block_place words t w)
  word_on t w lt within = (lt, omega arith, omega arith, omega arith)

  -- and so is each place at which a part fails
  code_on : (x : ℕ) {p : Place} → x < length program.tasks → IsCodeFault program words x p → IsOnBoard program p
  code_on x lt (today.CodeFails n first) = (lt, first.inside)

  commit_on : (t : ℕ) {p : Place} → t < length program.threads → IsCommitFault program words t p → IsOnBoard program p
  commit_on t lt (today.CommitFails fails) = lt

  block_on : (t : ℕ) {p : Place} → t < length program.threads → IsOldBlockFault program words t p → IsOnBoard program p
  block_on t lt (old.BlockFails w first) = word_on t w lt first.inside

  pipe_on : (q : ℕ) {p : Place} → IsAccepted program → q < length program.pipes → IsPipeFault program words q p → IsOnBoard program p
  pipe_on q accepted lt (today.CountFails fails) =
      let few = accepted.counts.pipes in word_on (pipe_def program q).writer.0 (header.written q) (accepted.pipes q lt).writer (omega arith)
  pipe_on q accepted lt (today.ItemFails n counts first) = let some = (accepted.pipes q lt).places_least in (lt, omega arith)

  log_on : (t : ℕ) {p : Place} → OutputsFit program words → t < length program.threads → IsLogFault program words t p → IsOnBoard program p
  log_on t fit lt (today.LogFails n first) = let fits = fit t lt in let before = first.inside in (lt, omega arith)

  queue_on : (t : ℕ) {p : Place} → IsAccepted program → t < length program.threads → IsOldQueueFault program words t p → IsOnBoard program p
  queue_on t accepted lt (old.SlotFails k first) = let some = (accepted.threads t lt).queue_least in (lt, omega arith)
  queue_on t accepted lt (old.TailFails slots fails) = lt
  queue_on t accepted lt (old.OnlyFinishedFails slots tail fails) = word_on t header.finished lt (omega arith)
  queue_on t accepted lt (old.IdleFinishedFails slots tail only fails) = word_on t header.next lt (omega arith)
  queue_on t accepted lt (old.FirstServedFails slots tail only idle fails) = word_on t header.origin lt (omega arith)

  source_on : (i : ℕ) {p : Place} → IsAccepted program → i < length program.sources → IsOldSourceFault program words i p → IsOnBoard program p
  source_on i accepted lt (old.ReadingFails j first) =
      let fed = accepted.sources i lt in let some = (accepted.threads (source_thread program i) fed).queue_least in (fed, omega arith)
  source_on i accepted lt (old.AckFails rising fails) = lt

  pub failing_there : (p : Place) → IsAccepted program → IsFirstFailingOld program words p → IsOnBoard program p
  failing_there p accepted (old.InCode f) = code_on f.part f.inside f.fault
  failing_there p accepted (old.InCommitWords a f) = commit_on f.part f.inside f.fault
  failing_there p accepted (old.InBlocks a b f) = block_on f.part f.inside f.fault
  failing_there p accepted (old.InPipes a b c f) = pipe_on f.part accepted f.inside f.fault
  failing_there p accepted (old.InLogs a b c d f) = log_on f.part (old_outputs_fit c) f.inside f.fault
  failing_there p accepted (old.InQueues a b c d e f) = queue_on f.part accepted f.inside f.fault
  failing_there p accepted (old.InSources a b c d e g f) = source_on f.part accepted f.inside f.fault

-- what is known of an answer's place, or where there is none
pub some_map : {X : Type 0} (P Q : X → Type 0) (found : Option X) → ((x : X) → P x → Q x) → IfSome found P → IfSome found Q
some_map P Q None step known = tt
some_map P Q (Some x) step known = step x known

pub none_map : {X : Type 0} (P Q : Type 0) (found : Option X) → (P → Q) → IfNone found P → IfNone found Q
none_map P Q None step known = step known
none_map P Q (Some x) step known = tt
