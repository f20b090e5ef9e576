-- What each thread's words say after the commit of a pick.
use Rattle.task_run.proofs.Common.{◌≡◌, ◌≢◌, ℕ, ◌+◌, ◌<◌, Bool, true, false, List, ◌++◌, length, refl, ap, ◌∙◌, sym, subst, length-set, Option, None, Some, if◌then◌else◌, Event, Origin, TaskId, Output, Program, Effects, RunEnd, task_end, Pick, Model, ThreadModel, PipeModel, TimerModel, thread_of, is_running, stamped, outputs_of, with_first, thread_after, with_sends, with_timers, Saved, saved, HasShape, Ending, Assignment, assignment, whole, consumed, begun, with_effects, written_with, due_with, result, concluded, served, IsEnd, IsEndOf}
use Rattle.ink_base.specs.declared.event.Origin.TheVariants as origins
use Rattle.task_run.specs.declared.ending.Ending.TheVariants as endings
use Rattle.task_run.proofs.PipeWords.{written_in, taken_in, IsFirstItem, sends-written, sends-written_other, sends-taken, take-written, take-taken, take-taken_other}
use Rattle.task_run.proofs.TimerWords.{due_in, period_in, IsOwnTimer, settings-due, settings-period, settings-due_other, settings-period_other, move-due, move-period, move-due_other}
use Rattle.task_run.proofs.Owned.{AreOwn}
use Rattle.task_run.proofs.Effects.{outputs-own, outputs-other, thread-own, thread-other, told_by, ends, expires}
use Rattle.task_run.proofs.Commits.{pipes_begun, timers_begun, thread_by, effects_by, late-runs, own_thread, next_pipes, next_timers, next_model}

-- what an event consumes where its service begins is there
abbrev pub IsConsumable : Program → Model → ℕ → Origin → Type 0
IsConsumable program m t (origins.Source source count) = Unit {0}
IsConsumable program m t (origins.Pipe pipe item) = IsFirstItem program t m.pipes pipe.0 item
IsConsumable program m t (origins.Timer timer deadline) = IsOwnTimer program t timer.0

pub begun-pipes_count : (running : Bool) (o : Origin) (pipes : List PipeModel) → length (pipes_begun running o pipes) ≡ length pipes
begun-pipes_count true o pipes = refl
begun-pipes_count false (origins.Source source count) pipes = refl
begun-pipes_count false (origins.Pipe pipe item) pipes = length-set pipes pipe.0 _
begun-pipes_count false (origins.Timer timer deadline) pipes = refl

pub begun-timers_count : (running : Bool) (o : Origin) (timers : List TimerModel) → length (timers_begun running o timers) ≡ length timers
begun-timers_count true o timers = refl
begun-timers_count false (origins.Source source count) timers = refl
begun-timers_count false (origins.Pipe pipe item) timers = refl
begun-timers_count false (origins.Timer timer deadline) timers = length-set timers timer.0 _

-- the words for these pipes, timers and outputs
abbrev with_devices : Program → ℕ → List PipeModel → List TimerModel → List Output → Saved → Saved
with_devices program t pipes timers outputs z =
    record z {
      outputs = outputs;
      written = written_in program t pipes;
      taken = taken_in program t pipes;
      due = due_in program t timers;
      period = period_in program t timers;
    }

module _ (program : Program) (m : Model) (t : ℕ) (shape : HasShape program m) where
  -- the beginning of a service in the thread's own words
  begun_by : (time : ℕ) (x : ThreadModel) (z : Saved) (r : Option TaskId) (o : Origin) → (r ≡ None → IsConsumable program m t o) →
      told_by (with_first time (record x { running = r }))
      (with_devices program t (pipes_begun (is_running (record x { running = r })) o m.pipes) (timers_begun (is_running (record x { running = r })) o m.timers) (outputs_of m t) z)
      ≡ elim r as (λ _. Saved) [
        | Some task ↦ told_by (record x { running = r }) (with_devices program t m.pipes m.timers (outputs_of m t) z)
        | None ↦ consumed o (record (told_by (record x { running = r }) (with_devices program t m.pipes m.timers (outputs_of m t) z)) { first = time })
      ]
  begun_by time x z (Some task) o there = refl
  begun_by time x z None (origins.Source source count) there = refl
  begun_by time x z None (origins.Pipe pipe item) there =
      let y : Saved = told_by (record x { running = None; first = time }) (with_devices program t m.pipes m.timers (outputs_of m t) z) in
      ap (λ f. record y { written = f; taken = taken_in program t (pipes_begun false (origins.Pipe pipe item) m.pipes) }) (take-written program t t pipe item m.pipes (there refl) shape.pipes)
      ∙ ap (λ f. record y { taken = f }) (take-taken program t pipe item m.pipes (there refl) shape.pipes)
  begun_by time x z None (origins.Timer timer deadline) there =
      let y : Saved = told_by (record x { running = None; first = time }) (with_devices program t m.pipes m.timers (outputs_of m t) z) in
      let own : IsOwnTimer program t timer.0 = there refl in
      ap (λ f. record y { due = f; period = period_in program t (timers_begun false (origins.Timer timer deadline) m.timers) }) (move-due program t timer deadline m.timers own shape.timers)
      ∙ ap (λ f. record y { due = (consumed (origins.Timer timer deadline) y).due; period = f }) (move-period program t timer deadline m.timers (rw shape.timers own.known))

  -- what a service begins with leaves the words of other threads
  begun-written : (u : ℕ) (running : Bool) (o : Origin) → (running ≡ false → IsConsumable program m t o) → written_in program u (pipes_begun running o m.pipes) ≡ written_in program u m.pipes
  begun-written u true o there = refl
  begun-written u false (origins.Source source count) there = refl
  begun-written u false (origins.Pipe pipe item) there = take-written program t u pipe item m.pipes (there refl) shape.pipes
  begun-written u false (origins.Timer timer deadline) there = refl

  begun-taken : (u : ℕ) (running : Bool) (o : Origin) → (running ≡ false → IsConsumable program m t o) → u ≢ t → taken_in program u (pipes_begun running o m.pipes) ≡ taken_in program u m.pipes
  begun-taken u true o there ne = refl
  begun-taken u false (origins.Source source count) there ne = refl
  begun-taken u false (origins.Pipe pipe item) there ne = take-taken_other program t u pipe item m.pipes (there refl) ne
  begun-taken u false (origins.Timer timer deadline) there ne = refl

  begun-due : (u : ℕ) (running : Bool) (o : Origin) → (running ≡ false → IsConsumable program m t o) → u ≢ t → due_in program u (timers_begun running o m.timers) ≡ due_in program u m.timers
  begun-due u true o there ne = refl
  begun-due u false (origins.Source source count) there ne = refl
  begun-due u false (origins.Pipe pipe item) there ne = refl
  begun-due u false (origins.Timer timer deadline) there ne = move-due_other program t u timer deadline m.timers (there refl) ne

  begun-period : (u : ℕ) (running : Bool) (o : Origin) → (running ≡ false → IsConsumable program m t o) → period_in program u (timers_begun running o m.timers) ≡ period_in program u m.timers
  begun-period u true o there = refl
  begun-period u false (origins.Source source count) there = refl
  begun-period u false (origins.Pipe pipe item) there = refl
  begun-period u false (origins.Timer timer deadline) there = let own : IsOwnTimer program t timer.0 = there refl in move-period program u timer deadline m.timers (rw shape.timers own.known)

-- the effects in the words
effects_in : (program : Program) (t stamp : ℕ) (e : Effects) (pipes : List PipeModel) (timers : List TimerModel) (outputs : List Output) (y : Saved) → AreOwn program t e →
    length pipes ≡ length program.pipes → length timers ≡ length program.timers →
    with_devices program t (with_sends e.sends pipes) (with_timers e.timers timers) (outputs ++ stamped stamp t e.outs) (record y { state = e.state })
    ≡ with_effects stamp t e (with_devices program t pipes timers outputs y)
effects_in program t stamp e pipes timers outputs y own pipes_count timers_count =
    let z : Saved = record y { state = e.state; outputs = outputs ++ stamped stamp t e.outs } in
    ap (λ f. record z { written = f; taken = taken_in program t (with_sends e.sends pipes); due = due_in program t (with_timers e.timers timers); period = period_in program t (with_timers e.timers timers) })
    (sends-written program t e.sends pipes own.sends pipes_count)
    ∙ (ap (λ f. record z { written = written_with e.sends (written_in program t pipes); taken = f; due = due_in program t (with_timers e.timers timers); period = period_in program t (with_timers e.timers timers) })
    (sends-taken program t t e.sends pipes own.sends pipes_count)
    ∙ (ap (λ f. record z { written = written_with e.sends (written_in program t pipes); taken = taken_in program t pipes; due = f; period = period_in program t (with_timers e.timers timers) })
    (settings-due program t e.timers timers own.timers timers_count)
    ∙ ap (λ f. record z { written = written_with e.sends (written_in program t pipes); taken = taken_in program t pipes; due = due_with e.timers (due_in program t timers); period = f })
    (settings-period program t e.timers timers own.timers timers_count)))

first-state : (time : ℕ) (x : ThreadModel) → (with_first time x).state ≡ x.state
first-state time x = by_running (is_running x)
  where
    by_running : (b : Bool) → (if b then x else record x { first = time }).state ≡ x.state
    by_running true = refl
    by_running false = refl

first-finished : (time : ℕ) (x : ThreadModel) → (with_first time x).finished ≡ x.finished
first-finished time x = by_running (is_running x)
  where
    by_running : (b : Bool) → (if b then x else record x { first = time }).finished ≡ x.finished
    by_running true = refl
    by_running false = refl

-- the end of the service in the thread's own words
ends_by : (e : Event) (time limit : ℕ) (w : RunEnd) (ending : Ending) (x : ThreadModel) (z : Saved) → x.finished ≡ false → (late : Bool) → (late ≡ true → is_running x ≡ true) →
    elim late as (λ _. Type 0) [ true ↦ ending ≡ endings.Expired | false ↦ IsEndOf w ending ] →
    told_by (thread_by late e (task_end limit x.state w) time x) z
    ≡ concluded ending e.origin (record (told_by (with_first time x) z) { state = (effects_by late (task_end limit x.state w) x).state })
ends_by e time limit w ending x z none true runs is =
    subst (λ k. told_by (thread_by true e (task_end limit x.state w) time x) z ≡ concluded k e.origin (record (told_by (with_first time x) z) { state = x.state })) (sym is)
    (expires e x z none ∙ ap (λ b. concluded endings.Expired e.origin (record (told_by (if b then x else record x { first = time }) z) { state = x.state })) (sym (runs refl)))
ends_by e time limit w ending x z none false runs is =
    let y : ThreadModel = with_first time x in
    subst (λ s. told_by (thread_after e (task_end limit s w).outcome (task_end limit s w).state y) z ≡ concluded ending e.origin (record (told_by y z) { state = (task_end limit s w).state }))
    (first-state time x) (ends e limit w ending y z (first-finished time x ∙ none) is)

module _ (program : Program) (m : Model) (pick : Pick) (ending : Ending) (shape : HasShape program m) (known : pick.thread.0 < length program.threads)
    (runs : pick.running ≡ (thread_of m pick.thread.0).running) (clear : (thread_of m pick.thread.0).finished ≡ false)
    (there : pick.running ≡ None → IsConsumable program m pick.thread.0 pick.event.origin)
    (own : AreOwn program pick.thread.0 (result (assignment program m pick) (saved program m pick.thread.0))) where
  abbrev effects : Effects
  effects = result (assignment program m pick) (saved program m pick.thread.0)

  abbrev began : Bool
  began = is_running (thread_of m pick.thread.0)

  -- the working copy of a service that began
  begun-is : (z : Saved) →
      told_by (with_first pick.time (thread_of m pick.thread.0))
      (with_devices program pick.thread.0 (pipes_begun began pick.event.origin m.pipes) (timers_begun began pick.event.origin m.timers) (outputs_of m pick.thread.0) z)
      ≡ begun pick (saved program m pick.thread.0)
  begun-is z =
      let x : Saved = saved program m pick.thread.0 in
      begun_by program m pick.thread.0 shape pick.time (thread_of m pick.thread.0) z (thread_of m pick.thread.0).running pick.event.origin (λ idle. there (runs ∙ idle))
      ∙ ap (λ (r : Option TaskId). elim r as (λ _. Saved) [ Some task ↦ x | None ↦ consumed pick.event.origin (record x { first = pick.time }) ]) (sym runs)

  -- the thread that was served
  pub own-saved : IsEnd (assignment program m pick) (saved program m pick.thread.0) ending →
      saved program (next_model program m pick) pick.thread.0 ≡ served (saved program m pick.thread.0) (assignment program m pick) pick m.commits ending
  own-saved is =
      let t : ℕ = pick.thread.0 in
      let x : ThreadModel = thread_of m t in
      let a : Assignment = assignment program m pick in
      let pipes = pipes_begun began pick.event.origin m.pipes in
      let timers = timers_begun began pick.event.origin m.timers in
      let outs : List Output = outputs_of m t ++ stamped (m.commits + 1) t effects.outs in
      let z : Saved = saved program m t in
      let words : List Output → Saved = λ o. with_devices program t (next_pipes program m pick) (next_timers program m pick) o z in
      ap (λ (y : ThreadModel). told_by y (words (outputs_of (next_model program m pick) t)))
      (thread-own t (own_thread program m pick) (next_pipes program m pick) (next_timers program m pick) effects.outs m (rw shape.threads known))
      ∙ (ap (λ o. told_by (own_thread program m pick) (words o)) (outputs-own t (own_thread program m pick) (next_pipes program m pick) (next_timers program m pick) effects.outs m)
      ∙ (ends_by pick.event pick.time a.limit (whole a z) ending x (words outs) clear a.late (late-runs program m t pick.time) is
      ∙ ap (λ y. concluded ending pick.event.origin y)
      (effects_in program t (m.commits + 1) effects pipes timers (outputs_of m t) (told_by (with_first pick.time x) z) own
      (begun-pipes_count began pick.event.origin m.pipes ∙ shape.pipes) (begun-timers_count began pick.event.origin m.timers ∙ shape.timers)
      ∙ ap (λ y. with_effects (m.commits + 1) t effects y) (begun-is z))))

  pub idle_there : began ≡ false → IsConsumable program m pick.thread.0 pick.event.origin
  idle_there is = by_running (thread_of m pick.thread.0).running refl is
    where
      by_running : (r : Option TaskId) → (thread_of m pick.thread.0).running ≡ r → is_running (record (thread_of m pick.thread.0) { running = r }) ≡ false →
          IsConsumable program m pick.thread.0 pick.event.origin
      by_running None none is = there (runs ∙ none)
      by_running (Some task) some is = absurd (let clash : true ≡ false = is in cc)

  -- every other thread
  pub other-saved : (u : ℕ) → u ≢ pick.thread.0 → saved program (next_model program m pick) u ≡ saved program m u
  other-saved u ne =
      let t : ℕ = pick.thread.0 in
      let o : Origin = pick.event.origin in
      let next : Model = next_model program m pick in
      let made : ThreadModel → List Output → (written taken due period : ℕ → ℕ) → Saved =
      λ x outputs written taken due period. told_by x (record (saved program m u) { outputs = outputs; written = written; taken = taken; due = due; period = period })
      in
      let x : ThreadModel = thread_of m u in
      let outputs : List Output = outputs_of m u in
      let begun_count : length (pipes_begun began o m.pipes) ≡ length program.pipes = begun-pipes_count began o m.pipes ∙ shape.pipes in
      ap (λ y. made y (outputs_of next u) (written_in program u next.pipes) (taken_in program u next.pipes) (due_in program u next.timers) (period_in program u next.timers))
      (thread-other t u (own_thread program m pick) next.pipes next.timers effects.outs m ne)
      ∙ (ap (λ l. made x l (written_in program u next.pipes) (taken_in program u next.pipes) (due_in program u next.timers) (period_in program u next.timers))
      (outputs-other t u (own_thread program m pick) next.pipes next.timers effects.outs m ne)
      ∙ (ap (λ f. made x outputs f (taken_in program u next.pipes) (due_in program u next.timers) (period_in program u next.timers))
      (sends-written_other program t u effects.sends (pipes_begun began o m.pipes) own.sends ne ∙ begun-written program m t shape u began o idle_there)
      ∙ (ap (λ f. made x outputs (written_in program u m.pipes) f (due_in program u next.timers) (period_in program u next.timers))
      (sends-taken program t u effects.sends (pipes_begun began o m.pipes) own.sends begun_count ∙ begun-taken program m t shape u began o idle_there ne)
      ∙ (ap (λ f. made x outputs (written_in program u m.pipes) (taken_in program u m.pipes) f (period_in program u next.timers))
      (settings-due_other program t u effects.timers (timers_begun began o m.timers) own.timers ne ∙ begun-due program m t shape u began o idle_there ne)
      ∙ ap (λ f. made x outputs (written_in program u m.pipes) (taken_in program u m.pipes) (due_in program u m.timers) f)
      (settings-period_other program t u effects.timers (timers_begun began o m.timers) own.timers ne ∙ begun-period program m t shape u began o idle_there)))))
