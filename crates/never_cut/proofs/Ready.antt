-- What a commit's task begins with: the pipes and timers, where its event is consumed, and the event that it serves.
use Rattle.never_cut.proofs.Common.{◌≡◌, ◌≢◌, ℕ, ◌+◌, ◌^◌, ◌<◌, ◌≤◌, Bool, true, false, List, length, drop, get_or, Option, Some, None, refl, sym, ap, ◌∙◌, arith, subst, inl, inr, get_or-set_other, get_or-set_same, cases_eq, Event, Origin, TaskId, Program, pipe_def, Model, ThreadModel, PipeModel, TimerModel, ScanModel, thread_of, pipe_of, is_running, no_pipe, pending, taken_from, moved_on, Readings, event_at}
use Rattle.ink_base.specs.declared.event.Origin.TheVariants as origins
use Rattle.never_cut.proofs.Picks.{pending-running}
use Rattle.never_cut.proofs.Beginnings.{Begins, begins}
use Rattle.never_cut.proofs.SoundParts.{IsServedBy, PipesSound, TimersSound, HasSoundParts, taken_in}
use Rattle.never_cut.proofs.SoundPipes.{taken_count, taken_sound, taken_fewer}
use Rattle.never_cut.proofs.SoundTimers.{HasCome, moved_count, moved_sound}
use Rattle.never_cut.proofs.SoundThreads.{SameTaken}

-- Thread t serves event e over these pipes and timers, which are sound: no pipe has more items than before, and of those that other
-- threads read, none was taken.
pub record IsReady (program : Program) (m : Model) (t : ℕ) (e : Event) (pipes : List PipeModel) (timers : List TimerModel) : Type 0 where
  pub served : IsServedBy program (taken_in pipes) t (thread_of m t).held e
  pub unfinished : (thread_of m t).finished ≡ false
  pub pipes_sound : PipesSound program pipes
  pub timers_sound : TimersSound program timers
  pub pipes_count : length pipes ≡ length program.pipes
  pub timers_count : length timers ≡ length program.timers
  pub fewer : (q : ℕ) → q < length program.pipes → length (get_or pipes q no_pipe).items ≤ length (pipe_of m q).items
  pub others : (u : ℕ) → u ≢ t → SameTaken program u (taken_in m.pipes) (taken_in pipes)

-- a chain that runs consumes nothing
pub ready_running : (program : Program) (readings : Readings) (m : Model) (t : ℕ) (e : Event) (scan : ScanModel) → HasSoundParts program readings m → t < length program.threads →
    m.scan ≡ Some scan → pending program m t ≡ Some e → is_running (thread_of m t) ≡ true → IsReady program m t e m.pipes m.timers
ready_running program readings m t e scan h known is waits runs = by_running (thread_of m t).running refl runs
  where
    by_running : (running : Option TaskId) → (thread_of m t).running ≡ running → ◌≡◌ {A = Bool} (elim running as (λ _. Bool) [ Some task ↦ true | None ↦ false ]) true →
        IsReady program m t e m.pipes m.timers
    by_running None idle there = absurd (let clash : false ≡ true = there in cc)
    by_running (Some task) on there =
        let c = (h.threads t known).chain task on in
        let both : Some c.event ≡ Some e = sym c.is ∙ (sym (pending-running program m t scan task is on) ∙ waits) in
        let same : c.event ≡ e = cc in
        record {
          served = subst (IsServedBy program (taken_in m.pipes) t (thread_of m t).held) same c.served;
          unfinished = c.unfinished;
          pipes_sound = h.pipes;
          timers_sound = h.timers;
          pipes_count = h.pipes_count;
          timers_count = h.timers_count;
          fewer = λ q there. omega arith;
          others = λ u apart q there reads. refl;
        }

-- an event whose service begins is served over the pipes that it was taken from
served_new : (program : Program) (m : Model) (t time : ℕ) (o : Origin) (value : ℕ) → length m.pipes ≡ length program.pipes → PipesSound program m.pipes → time < 2 ^ 47 →
    Begins program m t time (record { origin = o; value = value }) →
    IsServedBy program (taken_in (taken_from o m.pipes)) t (thread_of m t).held (record { origin = o; value = value })
served_new program m t time (origins.Source source count) value same sound early b =
    (rw b.1 (omega arith), ap (λ held. event_at held 0) b.1)
served_new program m t time (origins.Pipe pipe item) value same sound early b =
    let p : PipeModel = pipe_of m pipe.0 in
    let new : PipeModel = record { items = drop 1 p.items; taken = p.taken + 1 } in
    let now : taken_in (taken_from (origins.Pipe pipe item) m.pipes) pipe.0 ≡ p.taken + 1 = ap (λ (x : PipeModel). x.taken) (get_or-set_same m.pipes pipe.0 new no_pipe (rw same b.0)) in
    (b.0, b.1, ap (λ n. n + 1) b.3 ∙ sym now, subst (λ v. v < 2 ^ 32) (sym b.4) ((sound pipe.0 b.0).values 0))
served_new program m t time (origins.Timer timer deadline) value same sound early b =
    let due = b.3 in (b.0, b.1, omega arith, b.4)

-- nothing is taken from pipes that other threads read
others_kept : (program : Program) (m : Model) (t time : ℕ) (o : Origin) (value : ℕ) → Begins program m t time (record { origin = o; value = value }) →
    (u : ℕ) → u ≢ t → SameTaken program u (taken_in m.pipes) (taken_in (taken_from o m.pipes))
others_kept program m t time (origins.Source source count) value b u apart q there reads = refl
others_kept program m t time (origins.Timer timer deadline) value b u apart q there reads = refl
others_kept program m t time (origins.Pipe pipe item) value b u apart q there reads =
    elim (cases_eq q pipe.0) [
      | inl same ↦ absurd (apart (sym reads ∙ ap (λ k. (pipe_def program k).reader.0) same ∙ b.1))
      | inr other ↦ ap (λ (x : PipeModel). x.taken) (get_or-set_other m.pipes pipe.0 q _ no_pipe other)
    ]

has_come : (program : Program) (m : Model) (t time : ℕ) (o : Origin) (value : ℕ) → Begins program m t time (record { origin = o; value = value }) → HasCome o time
has_come program m t time (origins.Source source count) value b = tt
has_come program m t time (origins.Pipe pipe item) value b = tt
has_come program m t time (origins.Timer timer deadline) value b = b.3

not_running : (x : ThreadModel) → is_running x ≡ false → x.running ≡ None
not_running x is = by_running x.running refl is
  where
    by_running : (running : Option TaskId) → x.running ≡ running → ◌≡◌ {A = Bool} (elim running as (λ _. Bool) [ Some task ↦ true | None ↦ false ]) false → x.running ≡ None
    by_running (Some task) on there = absurd (let clash : true ≡ false = there in cc)
    by_running None idle there = idle

-- where a service begins, its event is consumed
pub ready_idle : (program : Program) (readings : Readings) (m : Model) (t : ℕ) (e : Event) (scan : ScanModel) → HasSoundParts program readings m → t < length program.threads →
    m.scan ≡ Some scan → pending program m t ≡ Some e → is_running (thread_of m t) ≡ false → IsReady program m t e (taken_from e.origin m.pipes) (moved_on e.origin m.timers)
ready_idle program readings m t e scan h known is waits idle =
    let clear : (thread_of m t).finished ≡ false = h.calm scan is t known in
    let b = begins program m t scan e (h.threads t known).queued clear is (not_running (thread_of m t) idle) waits in
    let clock = h.clock in
    let time = h.scan scan is in
    record {
      served = served_new program m t scan.time e.origin e.value h.pipes_count h.pipes (omega arith) b;
      unfinished = clear;
      pipes_sound = taken_sound program e.origin m.pipes h.pipes_count h.pipes;
      timers_sound = moved_sound program e.origin scan.time m.timers h.timers_count (has_come program m t scan.time e.origin e.value b) (omega arith) h.timers;
      pipes_count = taken_count e.origin m.pipes ∙ h.pipes_count;
      timers_count = moved_count e.origin m.timers ∙ h.timers_count;
      fewer = λ q there. taken_fewer e.origin m.pipes q (rw h.pipes_count there);
      others = others_kept program m t scan.time e.origin e.value b;
    }
