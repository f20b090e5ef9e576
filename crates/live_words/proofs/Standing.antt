-- The words at the end stand for the last state.
use Rattle.std.proofs.Common.{◌≡◌, ℕ, ◌<◌, List, length, slice_index, sym, ap, ◌∙◌, subst, arith}
use Rattle.std.proofs.lemmas.List.FromFn.{get_or-map-range_with_len}
use Rattle.ink_base.specs.declared.event.Event.{Event}
use Rattle.fram_words.specs.Places.{Tail, Ack, Src}
use Rattle.push_core.specs.Queue.{Queue, StandsQueue, StandsSource, KeepsNumbers}
use Rattle.prog_check.specs.Lookup.{thread_def, source_thread}
use Rattle.never_cut.specs.declared.source_model.SourceModel.{SourceModel}
use Rattle.never_cut.specs.State.{thread_of, source_of, queue_of, source_in, no_source}
use Rattle.never_cut.specs.Stands.{Stands, StandsPrivate, slots_of}
use Rattle.never_cut.specs.Images.{KeepTheirNumbers}
use Rattle.never_cut.proofs.Privates.{private_stays}
use Rattle.never_cut.proofs.Follows.{follow_privately, follow_released, follow_finished}
use Rattle.job_parts.specs.Job.{JobParts}
use Rattle.event_queue.specs.declared.view.Call.{Call}
use Rattle.event_queue.specs.Calls.{released_of}
use Rattle.event_queue.specs.Places as set
use Rattle.event_queue.specs.Places.{word_at}
use Rattle.event_queue.specs.Rule.{QueueKept}
use Rattle.event_queue.specs.Views.{places_of}
use Rattle.kernel_actor.proofs.Ending.{own_blocks}
use Rattle.live_account.specs.declared.record.LiveRecord.{LiveRecord}
use Rattle.live_account.specs.Kernel.{events_in}
use Rattle.live_account.specs.Queues.{words_at, source_state}
use Rattle.live_words.specs.Ends.{IsLeft, queue_left, source_by}
use Rattle.live_words.specs.Finals.{word_of}
use Rattle.live_words.proofs.Follow.{calls, own_state, last, follows, held_last, clock_word}
use Rattle.live_words.proofs.Queues.{stands_queue}

module _ (job : JobParts) (r : LiveRecord) (left : IsLeft job r) where
  -- each queue is the one that is left
  pub last_queue : (t : ℕ) → t < length job.program.threads → queue_of (thread_of (last job r left) t) ≡ queue_left r (calls job r left) t (thread_of (own_state job r left) t).finished
  last_queue t lt =
      let held = held_last job r left t lt in
      let finished = follow_finished (own_state job r left) (last job r left) t (follows job r left) in
      let released : (thread_of (last job r left) t).released ≡ released_of t (calls job r left) = follow_released (own_state job r left) (last job r left) t (follows job r left) ∙ left.ends.released t lt in
      λ j. record { held = held j; finished = finished j; released = released j }

  -- a source has accepted and settled what its SRC tells
  pub last_source : (i : ℕ) → i < length job.program.sources → source_of (last job r left) i ≡ source_by job.program r i (slice_index left.srcs i)
  last_source i lt =
      get_or-map-range_with_len (source_state job.program r) 0 (length job.program.sources) i i no_source lt (omega arith)
      ∙ ap (source_by job.program r i) (left.words.srcs_same i lt)

  stands_private : StandsPrivate (words_at job.program r) job.program (last job r left)
  stands_private =
      private_stays (word_of job.program left.own) (words_at job.program r) job.program (own_state job r left) (last job r left) (own_blocks (word_of job.program left.own) (words_at job.program r) left.words.own_same)
      (follow_privately job.program (own_state job r left) (last job r left) (follows job r left)) left.ends.private

  queue_stands : (t : ℕ) → t < length job.program.threads → StandsQueue (thread_def job.program t).queue (slots_of (words_at job.program r) t) (words_at job.program r (Tail t)) (queue_of (thread_of (last job r left) t))
  queue_stands t lt =
      let kept : QueueKept (thread_def job.program t).queue (λ n. word_at left.lay left.closed (set.Slot t n)) (words_at job.program r (Tail t)) (left.finished.entries t) (released_of t (calls job r left)) =
      subst (λ (z : ℕ × ℕ × List Call). QueueKept z.0 (λ n. word_at left.lay left.closed (set.Slot t n)) z.1 (left.finished.entries t) (released_of t z.2))
      (λ j. (left.is_lay.places t lt j, sym (left.words.tails t lt) j, left.finished.kernel_is j)) (left.finished.kept.queues t) in
      let least : 0 < places_of left.lay t = left.finished.limits.some t (let size = left.is_lay.queues in omega arith) in
      let some_place : 0 < (thread_def job.program t).queue = omega (arith, least, left.is_lay.places t lt) in
      subst (StandsQueue (thread_def job.program t).queue (slots_of (words_at job.program r) t) (words_at job.program r (Tail t))) (sym (last_queue t lt))
      (stands_queue (left.finished.entries t) (events_in r t) (left.events t lt) (thread_def job.program t).queue (λ n. word_at left.lay left.closed (set.Slot t n)) (slots_of (words_at job.program r) t)
      (words_at job.program r (Tail t)) (released_of t (calls job r left)) (thread_of (own_state job r left) t).finished some_place (λ n less. left.words.slots t n lt less) kept)

  fed : (i : ℕ) → i < length job.program.sources → source_thread job.program i < length job.program.threads
  fed i lt =
      let known = left.finished.limits.queues i (omega (arith, lt, left.is_lay.sources)) in
      omega (arith, known, left.is_lay.queue i lt, left.is_lay.queues)

  source_stands : (i : ℕ) → i < length job.program.sources →
      StandsSource i (words_at job.program r (Src i)) (words_at job.program r (Ack i)) (thread_of (last job r left) (source_thread job.program i)).held (source_in (source_of (last job r left) i))
  source_stands i lt =
      subst (λ (z : ℕ × ℕ × List Event × SourceModel). StandsSource i z.0 z.1 z.2 (source_in z.3))
      (λ j. (sym (left.words.srcs_same i lt) j, sym (left.words.acks i lt) j, sym (held_last job r left (source_thread job.program i) (fed i lt)) j, sym (last_source i lt) j)) (left.sources i lt).stands

  pub stands : Stands (words_at job.program r) job.program (last job r left)
  stands = record {
    private = stands_private;
    shared = record { queues = queue_stands; clock = left.words.clock ∙ clock_word job r left; sources = source_stands };
  }

  pub numbers : KeepTheirNumbers job.program (words_at job.program r) (last job r left)
  numbers i lt =
      let t : ℕ = source_thread job.program i in
      subst (λ (z : ℕ × ℕ × Queue × SourceModel). KeepsNumbers i z.0 z.1 z.2 (source_in z.3))
      (λ j. (sym (left.words.srcs_same i lt) j, sym (left.words.acks i lt) j, sym (last_queue t (fed i lt)) j, sym (last_source i lt) j))
      ((left.sources i lt).numbers (thread_of (own_state job r left) t).finished (left.ends.finished t (fed i lt)))
