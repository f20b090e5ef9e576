-- The accesses that arm and stop a timer.
use Rattle.task_run.proofs.Common.{◌≡◌, ℕ, ◌+◌, ◌/◌, ◌<◌, ◌≤◌, List, [], ◌∷◌, ◌++◌, length, arith, refl, ap, ◌∙◌, sym, Some, None, Memory, store, perform, due_word, place_in, working_mask, Buffer, is_dirty-true, Arms, Stops, Program, TimerSet, Cpu, Effects, advance, IsAccepted, Pick, Model, HasShape, Saved, StandsPrivate, Ending, Execution, WriteArmed, WritePeriod, WriteStopped, TaskMachine, want, proceed, cpu_of, changed, due_with, period_by, period_with, with_due, with_effects, begun, Told, told, Serving, armed}
use Rattle.ink_base.specs.declared.limits.TheConstants as limits
use Rattle.fram_words.specs.Header as header
use Rattle.task_run.proofs.Accesses.{machine_at, Steps, put_step, holding_put, serving_at}
use Rattle.task_run.proofs.Traps.{proceed_serving}
use Rattle.task_run.proofs.Words.{words-due, words-period}
use Rattle.task_run.proofs.Runs.{going_from}

-- one more setting
pub due_with-more : (settings : List TimerSet) (s : TimerSet) (f : ℕ → ℕ) → due_with (settings ++ s ∷ []) f ≡ changed (due_with settings f) s.timer.0 (due_word s.due)
due_with-more [] s f = refl
due_with-more (x ∷ settings) s f = due_with-more settings s (changed f x.timer.0 (due_word x.due))

pub period_with-more : (settings : List TimerSet) (s : TimerSet) (f : ℕ → ℕ) → period_with (settings ++ s ∷ []) f ≡ period_by s (period_with settings f)
period_with-more [] s f = refl
period_with-more (x ∷ settings) s f = period_with-more settings s (period_by x f)

-- the thread with one more setting
set_made : (stamp t : ℕ) (effects : Effects) (s : TimerSet) (x y : Saved) → y ≡ with_effects stamp t effects x →
    record y { due = changed y.due s.timer.0 (due_word s.due); period = period_by s y.period } ≡ with_effects stamp t (record effects { timers = effects.timers ++ s ∷ [] }) x
set_made stamp t effects s x y made =
    let z : Saved = with_effects stamp t effects x in
    ap (λ (c : Saved). record c { due = changed c.due s.timer.0 (due_word s.due); period = period_by s c.period }) made
    ∙ ap (λ f. record z { due = f; period = period_by s z.period }) (sym (due_with-more effects.timers s x.due))
    ∙ ap (λ f. record z { due = due_with (effects.timers ++ s ∷ []) x.due; period = f }) (sym (period_with-more effects.timers s x.period))

module _ (program : Program) (m : Model) (words : Memory) (pick : Pick) (stamp : ℕ) (b : Buffer) (ending : Ending) (e : Execution) (accepted : IsAccepted program) where
  pub step-write_armed : (timer delay period : ℕ) → Serving program words m (machine_at pick stamp b ending e (WriteArmed timer delay period)) →
      Steps program m words (machine_at pick stamp b ending e (WriteArmed timer delay period))
  step-write_armed timer delay period h =
      let r : TaskMachine = machine_at pick stamp b ending e (WriteArmed timer delay period) in
      let y : Saved = with_due h.y timer (armed pick.time delay) in
      let few : length program.timers ≤ limits.TIMERS = accepted.counts.timers in
      let known : timer < length program.timers = h.progress.known in
      put_step program m words r (header.due timer) (armed pick.time delay) (machine_at pick stamp b ending e (WritePeriod timer period)) h (omega arith) (λ c. refl) λ dirty fresh.
      serving_at program m (store words (place_in pick.thread.0 (working_mask b) (header.due timer)) (armed pick.time delay)) r e (WritePeriod timer period) y h.sends h.s h.o h.v
      (holding_put program m words r (header.due timer) (armed pick.time delay) y h.sends h.s h.o h.v h dirty fresh
      (λ k. words-due h.y h.s h.o h.v timer (armed pick.time delay) k (omega arith)) h.logged h.sent h.size)
      (record { before = h.y; delay = delay; arming = h.progress; is = refl })

  pub step-write_period : (timer period : ℕ) → StandsPrivate (perform words (want program (machine_at pick stamp b ending e (WritePeriod timer period)))) program m → HasShape program m →
      Serving program words m (machine_at pick stamp b ending e (WritePeriod timer period)) → Steps program m words (machine_at pick stamp b ending e (WritePeriod timer period))
  step-write_period timer period stands shape h =
      let r : TaskMachine = machine_at pick stamp b ending e (WritePeriod timer period) in
      let half = h.progress in
      let arming = half.arming in
      let g = arming.executing.running in
      let s : TimerSet = record { timer = record { 0 = timer }; due = Some (pick.time + half.delay); period = period } in
      let y : Saved = record (h.y) { period = changed h.y.period timer period } in
      let is : y ≡ record (half.before) { due = changed half.before.due timer (pick.time + half.delay + 1); period = changed half.before.period timer period } =
      ap (λ (c : Saved). record c { period = changed c.period timer period }) half.is
      in
      let p : Told = told program m r half.before h.sends h.s h.o h.v in
      let effects : Effects = record (g.effects) { timers = g.effects.timers ++ s ∷ [] } in
      let few : length program.timers ≤ limits.TIMERS = accepted.counts.timers in
      let known : timer < length program.timers = arming.known in
      let next : Cpu = advance (cpu_of e) in
      put_step program m words r (header.period timer) period (proceed program r next) h (omega arith) (λ c. refl) λ dirty fresh.
      let n : Memory = store words (place_in pick.thread.0 (working_mask b) (header.period timer)) period in
      let stands' : StandsPrivate n program m = rw (is_dirty-true b (header.period timer / 8) dirty) at stands in
      proceed_serving program m n r next y h.sends h.s h.o h.v stands' shape
      (holding_put program m words r (header.period timer) period y h.sends h.s h.o h.v h dirty fresh
      (λ k. words-period h.y h.s h.o h.v timer period k (omega arith)) h.logged h.sent h.size)
      (going_from p g (Arms timer half.delay period) arming.executing.is_act next y h.sends effects refl arming.executing.goes_on
      (is ∙ set_made (stamp + 1) pick.thread.0 g.effects s (begun pick p.x) half.before g.made) g.sent g.few)

  pub step-write_stopped : (timer : ℕ) → StandsPrivate (perform words (want program (machine_at pick stamp b ending e (WriteStopped timer)))) program m → HasShape program m →
      Serving program words m (machine_at pick stamp b ending e (WriteStopped timer)) → Steps program m words (machine_at pick stamp b ending e (WriteStopped timer))
  step-write_stopped timer stands shape h =
      let r : TaskMachine = machine_at pick stamp b ending e (WriteStopped timer) in
      let g = h.progress.0.running in
      let s : TimerSet = record { timer = record { 0 = timer }; due = None; period = 0 } in
      let y : Saved = with_due h.y timer 0 in
      let p : Told = told program m r h.y h.sends h.s h.o h.v in
      let effects : Effects = record (g.effects) { timers = g.effects.timers ++ s ∷ [] } in
      let few : length program.timers ≤ limits.TIMERS = accepted.counts.timers in
      let known : timer < length program.timers = h.progress.1 in
      let next : Cpu = advance (cpu_of e) in
      put_step program m words r (header.due timer) 0 (proceed program r next) h (omega arith) (λ c. refl) λ dirty fresh.
      let n : Memory = store words (place_in pick.thread.0 (working_mask b) (header.due timer)) 0 in
      let stands' : StandsPrivate n program m = rw (is_dirty-true b (header.due timer / 8) dirty) at stands in
      proceed_serving program m n r next y h.sends h.s h.o h.v stands' shape
      (holding_put program m words r (header.due timer) 0 y h.sends h.s h.o h.v h dirty fresh
      (λ k. words-due h.y h.s h.o h.v timer 0 k (omega arith)) h.logged h.sent h.size)
      (going_from p g (Stops timer) h.progress.0.is_act next y h.sends effects refl h.progress.0.goes_on
      (set_made (stamp + 1) pick.thread.0 g.effects s (begun pick p.x) h.y g.made) g.sent g.few)
