-- The renewed words of an image of the earlier form are an image of today's, which isn't worn where those weren't.
use Rattle.old_image.proofs.Common.{◌≡◌, ℕ, ◌+◌, ◌^◌, ◌<◌, ◌≤◌, List, length, refl, sym, ap, ◌∙◌, subst, arith, Memory, Code, Commit, Clock, Program, thread_def, pages_of, committed, IsAccepted, IsImage, IsWorn, IsOldImage, IsRenewed, IsOldWorn, StayFresh}
use Rattle.fram_words.specs.Header as header
use Rattle.never_cut.specs.Worn as worn
use Rattle.old_image.specs.Worn as was
use Rattle.old_image.proofs.NewBlocks.{block_right, log_right, pipe_right, commit_same, committed_same, clock_same, taken_same, written_same}
use Rattle.old_image.proofs.NewQueues.{queue_right, published_same}
use Rattle.old_image.proofs.NewSources.{source_right, next_told}

module _ (program : Program) (old new : Memory) (renewed : IsRenewed program old new) (accepted : IsAccepted program) (image : IsOldImage program old) where
  pub renewed_image : IsImage program new
  renewed_image = record {
    code = λ x n known lt. renewed.same (Code x n) tt ∙ image.code x n known lt;
    commit_words = λ t known. subst (λ w. w < 2 ^ pages_of (thread_def program t)) (sym (commit_same program old new renewed t)) (image.commit_words t known);
    blocks = λ t w known lt. block_right program old new renewed accepted image t known w lt;
    pipes = λ q known. pipe_right program old new renewed accepted image q known;
    logs = λ t n known lt. log_right program old new renewed accepted image t known n lt;
    queues = λ t known. queue_right program old new renewed accepted image t known;
    sources = λ i known. source_right program old new renewed accepted image i known;
  }

  was_worn : (listed : List ℕ) → IsWorn program listed new → IsOldWorn program listed old
  was_worn listed (worn.ManyReadings i known many) = was.ManyReadings i known (omega (arith, next_told program old new renewed accepted image i known))
  was_worn listed (worn.LateClock late) = was.LateClock (omega (arith, clock_same program old new renewed))
  was_worn listed (worn.ManyCommits t known many) = was.ManyCommits t known (omega (arith, committed_same program old new renewed t header.stamp (omega arith)))
  was_worn listed (worn.ManyServices t w known from to many) = was.ManyServices t w known from to (omega (arith, committed_same program old new renewed t w (omega arith)))
  was_worn listed (worn.ManyWritten q known many) = was.ManyWritten q known (omega (arith, written_same program old new renewed q))
  was_worn listed (worn.ManyTaken q known many) = was.ManyTaken q known (omega (arith, taken_same program old new renewed q))
  was_worn listed (worn.ManyPositions t known many) = was.ManyPositions t known (omega (arith, published_same program old new renewed accepted image t known))

  pub stays_fresh : StayFresh program old new
  stays_fresh = record { fresh = λ listed fresh is. fresh (was_worn listed is) }
