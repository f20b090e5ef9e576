-- The accesses that consume the event of a pipe or a timer.
use Rattle.task_run.proofs.Common.{◌≡◌, ℕ, ◌+◌, ◌<◌, arith, refl, ap, ◌∙◌, sym, subst, Memory, store, origin_word, place_in, working, working_mask, Buffer, Origin, after_service, Program, IsAccepted, Pick, Model, Readings, IsSound, Saved, saved, Begins, picked_begins, Ending, Execution, WriteTaken, ReadPeriod, WriteDue, TaskMachine, after_event, changed, with_due, Serving}
use Rattle.ink_base.specs.declared.limits.TheConstants as limits
use Rattle.fram_words.specs.Header as header
use Rattle.ink_base.specs.declared.event.Origin.TheVariants as origins
use Rattle.task_run.proofs.Accesses.{machine_at, Steps, Holding, put_step, holding_load, holding_put, serving_at}
use Rattle.task_run.proofs.Words.{words-taken, words-due, words-of_period}
use Rattle.task_run.proofs.Traps.{begun-idle}
use Rattle.task_run.proofs.Events.{event_serving}

-- a pick with this event
abbrev with_event : Pick → Origin → ℕ → Pick
with_event pick origin value = record pick { event = record { origin = origin; value = value } }

module _ (program : Program) (readings : Readings) (m : Model) (words : Memory) (pick : Pick) (stamp : ℕ) (b : Buffer) (ending : Ending) (e : Execution)
    (accepted : IsAccepted program) (sound : IsSound program readings m) where
  abbrev begins_at : Saved
  begins_at = record (saved program m pick.thread.0) { first = pick.time }

  -- an item is taken
  taken_by : (o : Origin) (value : ℕ) → Serving program words m (machine_at (with_event pick o value) stamp b ending e WriteTaken) →
      Steps program m words (machine_at (with_event pick o value) stamp b ending e WriteTaken)
  taken_by (origins.Source source count) value h = absurd h.progress.3
  taken_by (origins.Timer timer deadline) value h = absurd h.progress.3
  taken_by (origins.Pipe pipe item) value h =
      let q : Pick = with_event pick (origins.Pipe pipe item) value in
      let r : TaskMachine = machine_at q stamp b ending e WriteTaken in
      let p = h.progress.0 in
      let first : Begins program m q.thread.0 h.picked.scan.time q.event = picked_begins program readings words m q sound h.picked p.idle in
      let small : pipe.0 < limits.PIPES = let known = first.0 in let few = accepted.counts.pipes in omega arith in
      let loaded : q.taken ≡ item = h.picked.loaded p.idle in
      let y : Saved = record (h.y) { taken = changed h.y.taken pipe.0 (q.taken + 1) } in
      let n : Memory = store words (place_in q.thread.0 (working_mask b) (header.taken pipe.0)) (q.taken + 1) in
      put_step program m words r (header.taken pipe.0) (q.taken + 1) (after_event program r ending) h (omega arith) (λ c. refl) λ dirty fresh.
      let held : Holding program n m r y h.sends h.s h.o h.v =
      holding_put program m words r (header.taken pipe.0) (q.taken + 1) y h.sends h.s h.o h.v h dirty fresh (λ k. words-taken h.y h.s h.o h.v pipe.0 (q.taken + 1) k small) h.logged h.sent h.size
      in event_serving program readings m q stamp b e accepted sound n WriteTaken y h.sends h.s ending p.before
      (subst (λ v. Holding program n m r y h.sends h.s (origin_word q.event.origin) v) h.progress.2 (subst (λ o. Holding program n m r y h.sends h.s o h.v) h.progress.1 held))
      p.idle p.early p.unsent
      (ap (λ (z : Saved). record z { taken = changed z.taken pipe.0 (q.taken + 1) }) p.is
      ∙ (ap (λ k. record begins_at { taken = changed begins_at.taken pipe.0 (k + 1) }) loaded
      ∙ sym (begun-idle q (saved program m q.thread.0) p.idle)))

  pub step-taken : Serving program words m (machine_at pick stamp b ending e WriteTaken) → Steps program m words (machine_at pick stamp b ending e WriteTaken)
  step-taken h = taken_by pick.event.origin pick.event.value h

  -- the period of a timer
  period_by : (o : Origin) (value : ℕ) → Serving program words m (machine_at (with_event pick o value) stamp b ending e ReadPeriod) →
      Steps program m words (machine_at (with_event pick o value) stamp b ending e ReadPeriod)
  period_by (origins.Source source count) value h = absurd h.progress.3
  period_by (origins.Pipe pipe item) value h = absurd h.progress.3
  period_by (origins.Timer timer deadline) value h =
      let q : Pick = with_event pick (origins.Timer timer deadline) value in
      let r : TaskMachine = machine_at q stamp b ending e ReadPeriod in
      let p = h.progress.0 in
      let first : Begins program m q.thread.0 h.picked.scan.time q.event = picked_begins program readings words m q sound h.picked p.idle in
      let small : timer.0 < limits.TIMERS = let known = first.0 in let few = accepted.counts.timers in omega arith in
      let word : ℕ = working words q.thread.0 b (header.period timer.0) in
      let is : word ≡ (saved program m q.thread.0).period timer.0 =
      h.buffered.words (header.period timer.0) ∙ (words-of_period h.y h.s h.o h.v timer.0 small ∙ ap (λ (z : Saved). z.period timer.0) p.is)
      in serving_at program m words r e (WriteDue (after_service q.due_word word)) h.y h.sends h.s h.o h.v (holding_load program m words r h h.ready)
      (record { idle = p.idle; early = p.early; is = p.is; unsent = p.unsent; before = p.before }, h.progress.1, h.progress.2, tt, ap (λ k. after_service q.due_word k) is)

  pub step-period : Serving program words m (machine_at pick stamp b ending e ReadPeriod) → Steps program m words (machine_at pick stamp b ending e ReadPeriod)
  step-period h = period_by pick.event.origin pick.event.value h

  -- a timer goes on
  due_by : (o : Origin) (value w : ℕ) → Serving program words m (machine_at (with_event pick o value) stamp b ending e (WriteDue w)) →
      Steps program m words (machine_at (with_event pick o value) stamp b ending e (WriteDue w))
  due_by (origins.Source source count) value w h = absurd h.progress.3
  due_by (origins.Pipe pipe item) value w h = absurd h.progress.3
  due_by (origins.Timer timer deadline) value w h =
      let q : Pick = with_event pick (origins.Timer timer deadline) value in
      let r : TaskMachine = machine_at q stamp b ending e (WriteDue w) in
      let p = h.progress.0 in
      let first : Begins program m q.thread.0 h.picked.scan.time q.event = picked_begins program readings words m q sound h.picked p.idle in
      let small : timer.0 < limits.TIMERS = let known = first.0 in let few = accepted.counts.timers in omega arith in
      let loaded : q.due_word ≡ deadline + 1 = h.picked.loaded p.idle in
      let n : Memory = store words (place_in q.thread.0 (working_mask b) (header.due timer.0)) w in
      let y : Saved = with_due h.y timer.0 w in
      put_step program m words r (header.due timer.0) w (after_event program r ending) h (omega arith) (λ c. refl) λ dirty fresh.
      let held : Holding program n m r y h.sends h.s h.o h.v =
      holding_put program m words r (header.due timer.0) w y h.sends h.s h.o h.v h dirty fresh (λ k. words-due h.y h.s h.o h.v timer.0 w k small) h.logged h.sent h.size
      in event_serving program readings m q stamp b e accepted sound n (WriteDue w) y h.sends h.s ending p.before
      (subst (λ v. Holding program n m r y h.sends h.s (origin_word q.event.origin) v) h.progress.2 (subst (λ o. Holding program n m r y h.sends h.s o h.v) h.progress.1 held))
      p.idle p.early p.unsent
      (ap (λ (z : Saved). with_due z timer.0 w) p.is
      ∙ (ap (λ k. with_due begins_at timer.0 k) (h.progress.4 ∙ ap (λ d. after_service d (begins_at.period timer.0)) loaded)
      ∙ sym (begun-idle q (saved program m q.thread.0) p.idle)))

  pub step-due : (w : ℕ) → Serving program words m (machine_at pick stamp b ending e (WriteDue w)) → Steps program m words (machine_at pick stamp b ending e (WriteDue w))
  step-due w h = due_by pick.event.origin pick.event.value w h
