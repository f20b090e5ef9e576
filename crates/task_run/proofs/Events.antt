-- The accesses that write the event's words, and the start of its task.
use Rattle.task_run.proofs.Common.{◌≡◌, ℕ, false, List, [], refl, ap, ◌∙◌, sym, subst, arith, None, Memory, store, origin_word, place_in, working_mask, Buffer, Origin, Program, Sent, first_task, IsAccepted, Pick, Model, Readings, IsSound, Saved, saved, Ending, Execution, Phase, WriteFirst, WriteOrigin, WriteValue, WriteTaken, ReadPeriod, Fetch, WriteNext, TaskMachine, after_event, after_value, execution_of, assignment, begun, consumed, Before, Again, Beginning, IsOfPipe, IsOfTimer, told, Serving}
use Rattle.task_run.specs.kept.Served.{Begins as Starts}
use Rattle.ink_base.specs.declared.event.Origin.TheVariants as origins
use Rattle.task_run.specs.declared.ending.Ending.TheVariants as endings
use Rattle.task_run.proofs.Accesses.{machine_at, Steps, Holding, put_step, holding_put, serving_at}
use Rattle.task_run.proofs.Words.{words-first, words-origin, words-value}
use Rattle.task_run.proofs.Traps.{begun-idle}
use Rattle.task_run.proofs.Starts.{task-idle, start_running, trapped_finishing}

module _ (program : Program) (readings : Readings) (m : Model) (pick : Pick) (stamp : ℕ) (b : Buffer) (e : Execution)
    (accepted : IsAccepted program) (sound : IsSound program readings m) where
  abbrev x : Saved
  x = saved program m pick.thread.0

  -- once all of the event's words are written, the first task starts; a task that has trapped ends
  pub event_serving : (words : Memory) (phase : Phase) (y : Saved) (sends : List Sent) (s : ℕ) (k : Ending) → Before (assignment program m pick) x k →
      Holding program words m (machine_at pick stamp b k e phase) y sends s (origin_word pick.event.origin) pick.event.value →
      pick.running ≡ None → (assignment program m pick).late ≡ false → sends ≡ [] → y ≡ begun pick x →
      Serving program words m (after_event program (machine_at pick stamp b k e phase) k)
  event_serving words phase y sends s endings.Done Starts held idle early unsent made =
      serving_at program m words (machine_at pick stamp b endings.Done e phase) (execution_of (record { 0 = first_task program pick.thread.0 })) Fetch y sends s (origin_word pick.event.origin) pick.event.value
      held
      (start_running program readings m pick stamp (record { 0 = first_task program pick.thread.0 }) y sends s (origin_word pick.event.origin) pick.event.value accepted sound held.picked.known
      (task-idle program words m pick held.picked idle) early made unsent refl refl)
  event_serving words phase y sends s endings.Trapped (Again trap) held idle early unsent made =
      serving_at program m words (machine_at pick stamp b endings.Trapped e phase) e WriteNext y sends s (origin_word pick.event.origin) pick.event.value held
      (trapped_finishing (told program m (machine_at pick stamp b endings.Trapped e WriteNext) y sends s (origin_word pick.event.origin) pick.event.value) early trap refl made unsent refl refl)
  event_serving words phase y sends s (endings.Next task) before held idle early unsent made = elim before [ ]
  event_serving words phase y sends s endings.Expired before held idle early unsent made = elim before [ ]

module _ (program : Program) (readings : Readings) (m : Model) (words : Memory) (pick : Pick) (stamp : ℕ) (b : Buffer) (ending : Ending) (e : Execution) where
  abbrev begins_at : Saved
  begins_at = record (saved program m pick.thread.0) { first = pick.time }

  pub step-first : Serving program words m (machine_at pick stamp b ending e WriteFirst) → Steps program m words (machine_at pick stamp b ending e WriteFirst)
  step-first h =
      let r : TaskMachine = machine_at pick stamp b ending e WriteFirst in
      let p = h.progress in
      put_step program m words r 2 pick.time (machine_at pick stamp b ending e WriteOrigin) h (omega arith) (λ c. refl) λ dirty fresh.
      serving_at program m (store words (place_in pick.thread.0 (working_mask b) 2) pick.time) r e WriteOrigin (record (h.y) { first = pick.time }) h.sends h.s h.o h.v
      (holding_put program m words r 2 pick.time (record (h.y) { first = pick.time }) h.sends h.s h.o h.v h dirty fresh (words-first h.y h.s h.o h.v pick.time) h.logged h.sent h.size)
      (record { idle = p.idle; early = p.early; is = ap (λ (z : Saved). record z { first = pick.time }) p.is; unsent = p.unsent; before = p.before })

  pub step-origin : Serving program words m (machine_at pick stamp b ending e WriteOrigin) → Steps program m words (machine_at pick stamp b ending e WriteOrigin)
  step-origin h =
      let r : TaskMachine = machine_at pick stamp b ending e WriteOrigin in
      let word : ℕ = origin_word pick.event.origin in
      let p = h.progress in
      put_step program m words r 3 word (machine_at pick stamp b ending e WriteValue) h (omega arith) (λ c. refl) λ dirty fresh.
      serving_at program m (store words (place_in pick.thread.0 (working_mask b) 3) word) r e WriteValue h.y h.sends h.s word h.v
      (holding_put program m words r 3 word h.y h.sends h.s word h.v h dirty fresh (words-origin h.y h.s h.o h.v word) h.logged h.sent h.size)
      (record { idle = p.idle; early = p.early; is = p.is; unsent = p.unsent; before = p.before }, refl)

  -- after the value, by the event's origin
  value_serving : IsAccepted program → IsSound program readings m → (new : Memory) (y : Saved) (sends : List Sent) (s : ℕ) (o : Origin) → pick.event.origin ≡ o →
      Holding program new m (machine_at pick stamp b ending e WriteValue) y sends s (origin_word pick.event.origin) pick.event.value →
      Beginning (told program m (machine_at pick stamp b ending e WriteValue) y sends s (origin_word pick.event.origin) pick.event.value) begins_at →
      Serving program new m (after_value program (machine_at pick stamp b ending e WriteValue) o)
  value_serving accepted sound new y sends s (origins.Source source count) is held p =
      event_serving program readings m pick stamp b e accepted sound new WriteValue y sends s ending p.before held p.idle p.early p.unsent
      (p.is ∙ sym (begun-idle pick (saved program m pick.thread.0) p.idle ∙ ap (λ o. consumed o begins_at) is))
  value_serving accepted sound new y sends s (origins.Pipe pipe item) is held p =
      serving_at program m new (machine_at pick stamp b ending e WriteValue) e WriteTaken y sends s (origin_word pick.event.origin) pick.event.value held
      (record { idle = p.idle; early = p.early; is = p.is; unsent = p.unsent; before = p.before }, refl, refl, subst IsOfPipe (sym is) tt)
  value_serving accepted sound new y sends s (origins.Timer timer deadline) is held p =
      serving_at program m new (machine_at pick stamp b ending e WriteValue) e ReadPeriod y sends s (origin_word pick.event.origin) pick.event.value held
      (record { idle = p.idle; early = p.early; is = p.is; unsent = p.unsent; before = p.before }, refl, refl, subst IsOfTimer (sym is) tt)

  pub step-value : IsAccepted program → IsSound program readings m → Serving program words m (machine_at pick stamp b ending e WriteValue) →
      Steps program m words (machine_at pick stamp b ending e WriteValue)
  step-value accepted sound h =
      let r : TaskMachine = machine_at pick stamp b ending e WriteValue in
      let n : Memory = store words (place_in pick.thread.0 (working_mask b) 4) pick.event.value in
      let p = h.progress.0 in
      put_step program m words r 4 pick.event.value (after_value program r pick.event.origin) h (omega arith) (λ c. refl) λ dirty fresh.
      let held : Holding program n m r h.y h.sends h.s h.o pick.event.value =
      holding_put program m words r 4 pick.event.value h.y h.sends h.s h.o pick.event.value h dirty fresh (words-value h.y h.s h.o h.v pick.event.value) h.logged h.sent h.size
      in value_serving accepted sound n h.y h.sends h.s pick.event.origin refl
      (subst (λ o. Holding program n m r h.y h.sends h.s o pick.event.value) h.progress.1 held)
      (record { idle = p.idle; early = p.early; is = p.is; unsent = p.unsent; before = p.before })
