-- The accesses that write the end of a service.
use Rattle.task_run.proofs.Common.{◌≡◌, ℕ, ◌+◌, true, false, List, length, get_or, refl, ap, ◌∙◌, sym, subst, arith, Option, Some, None, Memory, store, place_in, working, working_mask, Buffer, put, TaskId, Event, Origin, Program, Sent, Pick, Model, thread_of, is_of_queue, Saved, saved, thread_words, log_of, AreLogged, flag, Ending, Execution, WriteNext, WriteFinished, ReadTotal, WriteTotal, WriteStamp, StoreCommit, TaskMachine, next_by, total_word, after_next, end_phase, assignment, begun, consumed, worked, rested, finish, finished_by, with_total, counted, concluded, IsLast, Finishing, Told, told, Serving}
use Rattle.ink_base.specs.declared.event.Origin.TheVariants as origins
use Rattle.task_run.specs.declared.ending.Ending.TheVariants as endings
use Rattle.task_run.proofs.Accesses.{machine_at, Steps, Holding, put_step, holding_load, holding_put, serving_at}
use Rattle.task_run.proofs.Words.{words-stamp, words-rested, words-next, words-finish, words-total, words-of_total, total_high}

with_total-state : (ending : Ending) (n : ℕ) (y : Saved) → (with_total ending n y).state ≡ y.state
with_total-state (endings.Next task) n y = refl
with_total-state endings.Done n y = refl
with_total-state endings.Trapped n y = refl
with_total-state endings.Expired n y = refl

with_total-outputs : (ending : Ending) (n : ℕ) (y : Saved) → (with_total ending n y).outputs ≡ y.outputs
with_total-outputs (endings.Next task) n y = refl
with_total-outputs endings.Done n y = refl
with_total-outputs endings.Trapped n y = refl
with_total-outputs endings.Expired n y = refl

-- a service that is over is counted
concluded-last : (ending : Ending) (o : Origin) (y : Saved) → IsLast ending → concluded ending o y ≡ counted ending (finished_by o (rested y))
concluded-last (endings.Next task) o y last = absurd last
concluded-last endings.Done o y last = refl
concluded-last endings.Trapped o y last = refl
concluded-last endings.Expired o y last = refl

-- a queue event is finished
finished-queue : (o : Origin) (value : ℕ) (y : Saved) → is_of_queue (record { origin = o; value = value }) ≡ true → finished_by o y ≡ finish y
finished-queue (origins.Source source count) value y is = refl
finished-queue (origins.Pipe pipe item) value y is = absurd (let clash : false ≡ true = is in cc)
finished-queue (origins.Timer timer deadline) value y is = absurd (let clash : false ≡ true = is in cc)

-- nothing of the queue is finished where a service begins
consumed-ended : (o : Origin) (x : Saved) → (consumed o x).ended ≡ x.ended
consumed-ended (origins.Source source count) x = refl
consumed-ended (origins.Pipe pipe item) x = refl
consumed-ended (origins.Timer timer deadline) x = refl

begun-ended : (pick : Pick) (x : Saved) → (begun pick x).ended ≡ x.ended
begun-ended pick x = by_running pick.running
  where
    by_running : (r : Option TaskId) → (elim r as (λ _. Saved) [ Some task ↦ x | None ↦ consumed pick.event.origin (record x { first = pick.time }) ]).ended ≡ x.ended
    by_running (Some task) = refl
    by_running None = consumed-ended pick.event.origin (record x { first = pick.time })

-- the end goes on to be written
finishes_as : (p : Told) (old y new : Saved) → Finishing p old → y ≡ new → Finishing (record p { y = y }) new
finishes_as p old y new f is = record { is = is; sent = f.sent; end = f.end; origin = f.origin; value = f.value }

module _ (program : Program) (m : Model) (words : Memory) (pick : Pick) (stamp : ℕ) (b : Buffer) (ending : Ending) (e : Execution) where
  abbrev worked_here : Saved
  worked_here = worked (saved program m pick.thread.0) (assignment program m pick) pick stamp

  -- the service is over: the thread is idle
  pub rested_serving : (n : Memory) (y : Saved) (sends : List Sent) (s o v : ℕ) (k : Ending) (origin : Origin) (value : ℕ) → pick.event ≡ record { origin = origin; value = value } → IsLast k →
      Holding program n m (machine_at pick stamp b k e WriteNext) (rested y) sends s o v →
      Finishing (told program m (machine_at pick stamp b k e WriteNext) y sends s o v) worked_here →
      Serving program n m (machine_at pick stamp b k e (end_phase origin))
  rested_serving n y sends s o v k (origins.Source source count) value is last held f =
      serving_at program m n (machine_at pick stamp b k e WriteNext) e WriteFinished (rested y) sends s o v held
      (finishes_as (told program m (machine_at pick stamp b k e WriteNext) y sends s o v) worked_here (rested y) (rested worked_here) f (ap rested f.is), last, ap is_of_queue is)
  rested_serving n y sends s o v k (origins.Pipe pipe item) value is last held f =
      serving_at program m n (machine_at pick stamp b k e WriteNext) e ReadTotal (rested y) sends s o v held (
        finishes_as (told program m (machine_at pick stamp b k e WriteNext) y sends s o v) worked_here (rested y) (finished_by pick.event.origin (rested worked_here)) f
            (ap rested f.is ∙ ap (λ (x : Event). finished_by x.origin (rested worked_here)) (sym is)),
        last,
      )
  rested_serving n y sends s o v k (origins.Timer timer deadline) value is last held f =
      serving_at program m n (machine_at pick stamp b k e WriteNext) e ReadTotal (rested y) sends s o v held (
        finishes_as (told program m (machine_at pick stamp b k e WriteNext) y sends s o v) worked_here (rested y) (finished_by pick.event.origin (rested worked_here)) f
            (ap rested f.is ∙ ap (λ (x : Event). finished_by x.origin (rested worked_here)) (sym is)),
        last,
      )

  pub step-stamp : Serving program words m (machine_at pick stamp b ending e WriteStamp) → Steps program m words (machine_at pick stamp b ending e WriteStamp)
  step-stamp h =
      let r : TaskMachine = machine_at pick stamp b ending e WriteStamp in
      put_step program m words r 0 (stamp + 1) (machine_at pick stamp b ending e StoreCommit) h (omega arith) (λ c. refl) λ dirty fresh.
      serving_at program m (store words (place_in pick.thread.0 (working_mask b) 0) (stamp + 1)) r e StoreCommit h.y h.sends (stamp + 1) h.o h.v
      (holding_put program m words r 0 (stamp + 1) h.y h.sends (stamp + 1) h.o h.v h dirty fresh (words-stamp h.y h.s h.o h.v (stamp + 1)) h.logged h.sent h.size)
      (record { is = h.progress.is; sent = h.progress.sent; end = h.progress.end; origin = h.progress.origin; value = h.progress.value }, refl)

  pub step-finished : Serving program words m (machine_at pick stamp b ending e WriteFinished) → Steps program m words (machine_at pick stamp b ending e WriteFinished)
  step-finished h =
      let r : TaskMachine = machine_at pick stamp b ending e WriteFinished in
      let t : ℕ = pick.thread.0 in
      let p = h.picked in
      let f = h.progress.0 in
      let unflagged : flag (thread_of m t).finished ≡ 0 = ap (λ z. flag z) (p.calm t p.known) in
      let ended : h.y.ended ≡ (thread_of m t).released + flag (thread_of m t).finished = ap (λ (z : Saved). z.ended) f.is ∙ begun-ended pick (saved program m t) in
      let same : pick.position ≡ h.y.ended = let released = p.position in omega arith in
      put_step program m words r 5 (pick.position + 1) (machine_at pick stamp b ending e ReadTotal) h (omega arith) (λ c. refl) λ dirty fresh.
      serving_at program m (store words (place_in t (working_mask b) 5) (pick.position + 1)) r e ReadTotal (finish h.y) h.sends h.s h.o h.v
      (holding_put program m words r 5 (pick.position + 1) (finish h.y) h.sends h.s h.o h.v h dirty fresh
      (λ k. ap (λ n. put (λ j. get_or (thread_words h.y h.s h.o h.v) j 0) 5 (n + 1) k) same ∙ words-finish h.y h.s h.o h.v k) h.logged h.sent h.size) (
        finishes_as (told program m r h.y h.sends h.s h.o h.v) (rested worked_here) (finish h.y) (finished_by pick.event.origin (rested worked_here)) f
            (ap finish f.is ∙ sym (finished-queue pick.event.origin pick.event.value (rested worked_here) h.progress.2)),
        h.progress.1,
      )

  pub step-read_total : Serving program words m (machine_at pick stamp b ending e ReadTotal) → Steps program m words (machine_at pick stamp b ending e ReadTotal)
  step-read_total h =
      let r : TaskMachine = machine_at pick stamp b ending e ReadTotal in
      let word : ℕ = working words pick.thread.0 b (total_word ending) in
      serving_at program m words r e (WriteTotal (word + 1)) h.y h.sends h.s h.o h.v (holding_load program m words r h h.ready)
      (h.progress.0, h.progress.1, ap (λ n. n + 1) (h.buffered.words (total_word ending) ∙ words-of_total ending h.y h.s h.o h.v))

  pub step-write_total : (n : ℕ) → Serving program words m (machine_at pick stamp b ending e (WriteTotal n)) → Steps program m words (machine_at pick stamp b ending e (WriteTotal n))
  step-write_total n h =
      let r : TaskMachine = machine_at pick stamp b ending e (WriteTotal n) in
      let f = h.progress.0 in
      let y : Saved = with_total ending n h.y in
      let made : y ≡ concluded ending pick.event.origin worked_here =
      ap (λ k. with_total ending k h.y) h.progress.2 ∙ (ap (λ z. counted ending z) f.is ∙ sym (concluded-last ending pick.event.origin worked_here h.progress.1))
      in
      put_step program m words r (total_word ending) n (machine_at pick stamp b ending e WriteStamp) h (let high = total_high ending in omega arith) (λ c. refl) λ dirty fresh.
      serving_at program m (store words (place_in pick.thread.0 (working_mask b) (total_word ending)) n) r e WriteStamp y h.sends h.s h.o h.v
      (holding_put program m words r (total_word ending) n y h.sends h.s h.o h.v h dirty fresh (words-total ending h.y h.s h.o h.v n)
      (subst (λ l. AreLogged (log_of words pick.thread.0) l) (sym (with_total-outputs ending n h.y)) h.logged) h.sent
      (ap length (with_total-state ending n h.y) ∙ h.size))
      (finishes_as (told program m r h.y h.sends h.s h.o h.v) (finished_by pick.event.origin (rested worked_here)) y (concluded ending pick.event.origin worked_here) f made)

  -- the thread is idle
  rests_serving : (k : Ending) → next_by k ≡ 0 → after_next k pick.event.origin ≡ end_phase pick.event.origin → IsLast k →
      Serving program words m (machine_at pick stamp b k e WriteNext) → Steps program m words (machine_at pick stamp b k e WriteNext)
  rests_serving k zero_is after last h =
      let r : TaskMachine = machine_at pick stamp b k e WriteNext in
      put_step program m words r 1 (next_by k) (machine_at pick stamp b k e (after_next k pick.event.origin)) h (omega arith) (λ c. refl) λ dirty fresh.
      let n : Memory = store words (place_in pick.thread.0 (working_mask b) 1) (next_by k) in
      subst (λ phase. Serving program n m (machine_at pick stamp b k e phase)) (sym after)
      (rested_serving n h.y h.sends h.s h.o h.v k pick.event.origin pick.event.value refl last
      (holding_put program m words r 1 (next_by k) (rested h.y) h.sends h.s h.o h.v h dirty fresh
      (λ j. ap (λ w. put (λ i. get_or (thread_words h.y h.s h.o h.v) i 0) 1 w j) zero_is ∙ words-rested h.y h.s h.o h.v j) h.logged h.sent h.size)
      h.progress)

  -- how the chain goes on
  next_serving : (k : Ending) → Serving program words m (machine_at pick stamp b k e WriteNext) → Steps program m words (machine_at pick stamp b k e WriteNext)
  next_serving (endings.Next task) h =
      let r : TaskMachine = machine_at pick stamp b (endings.Next task) e WriteNext in
      let y : Saved = record (h.y) { running = Some (record { 0 = task }) } in
      put_step program m words r 1 (task + 1) (machine_at pick stamp b (endings.Next task) e WriteStamp) h (omega arith) (λ c. refl) λ dirty fresh.
      serving_at program m (store words (place_in pick.thread.0 (working_mask b) 1) (task + 1)) r e WriteStamp y h.sends h.s h.o h.v
      (holding_put program m words r 1 (task + 1) y h.sends h.s h.o h.v h dirty fresh (words-next h.y h.s h.o h.v task) h.logged h.sent h.size)
      (finishes_as (told program m r h.y h.sends h.s h.o h.v) worked_here y (concluded (endings.Next task) pick.event.origin worked_here) h.progress
      (ap (λ (z : Saved). record z { running = Some (record { 0 = task }) }) h.progress.is))
  next_serving endings.Done h = rests_serving endings.Done refl refl tt h
  next_serving endings.Trapped h = rests_serving endings.Trapped refl refl tt h
  next_serving endings.Expired h = rests_serving endings.Expired refl refl tt h

  pub step-next : Serving program words m (machine_at pick stamp b ending e WriteNext) → Steps program m words (machine_at pick stamp b ending e WriteNext)
  step-next h = next_serving ending h
