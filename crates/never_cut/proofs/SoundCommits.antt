-- A legal commit keeps a state sound.
use Rattle.never_cut.proofs.Common.{◌≡◌, ◌≢◌, ℕ, ◌+◌, ◌-◌, ◌^◌, ◌<◌, ◌≤◌, Bool, true, false, List, ◌++◌, length, set, Option, Some, None, refl, sym, ap, ◌∙◌, arith, subst, inl, inr, length-append, length-set, if◌then◌else◌, ◌&&◌, ◌==◌, All, eqb-true, cases_eq, passes_at_first, All-append, Event, Origin, Output, TaskId, ThreadId, Commit, Program, Task, TaskEnd, Room, room_of, IsAccepted, thread_def, task_def, no_task_def, first_task, source_thread, Model, ThreadModel, PipeModel, TimerModel, ScanModel, thread_of, is_running, pending, outputs_of, ended, consumed, taken_from, moved_on, with_sends, with_timers, with_first, thread_after, end_at, start_at, task_at, is_overdue, expired, expired_after, stamped, Readings, Legal, effect, readings_of, event_at, IsQueued, HasStamps, unsettled_into, sources_in, unsettled_least}
use Rattle.never_cut.specs.Commit.{committed}
use Rattle.ink_base.specs.declared.event.Origin.TheVariants as origins
use Rattle.never_cut.proofs.Outputs.{of_thread, outputs-own, outputs-other, length-stamped, stamped_values, later_stamps, more_stamps}
use Rattle.never_cut.proofs.RightActs.{HasEventBits}
use Rattle.never_cut.proofs.TaskRuns.{IsFittingEnd, task_fits}
use Rattle.never_cut.proofs.SoundParts.{IsSoundAt, IsServedBy, ThreadSound, PipesSound, TimersSound, HasSoundParts, taken_in}
use Rattle.never_cut.proofs.SoundSources.{sources_same}
use Rattle.never_cut.proofs.SoundQueues.{thread_changes}
use Rattle.never_cut.proofs.SoundPipes.{sent_count, rooms_at, sent_taken, sends_sound}
use Rattle.never_cut.proofs.SoundTimers.{set_count, settings_sound}
use Rattle.never_cut.proofs.SoundThreads.{SameTaken, settled_at, other_at, first_at, first_keeps, after_at, expired_at}
use Rattle.never_cut.proofs.Ready.{IsReady, ready_running, ready_idle}

-- the state after a commit of thread t, which made these of the thread, the pipes, the timers and the outputs
abbrev made : Model → ℕ → ThreadModel → List PipeModel → List TimerModel → List Output → Model
made m t x pipes timers outputs = record m {
  threads = set m.threads t x;
  pipes = pipes;
  timers = timers;
  outputs = outputs;
  commits = m.commits + 1;
  scan = None;
}

made_threads : (program : Program) (readings : Readings) (m : Model) (t : ℕ) (x : ThreadModel) (pipes : List PipeModel) (timers : List TimerModel) (outputs : List Output) →
    HasSoundParts program readings m → t < length program.threads →
    IsSoundAt program (taken_in pipes) t x (unsettled_into program readings m t (length program.sources)) (length (of_thread t outputs)) m.clock →
    ((u : ℕ) → u ≢ t → length (of_thread u outputs) ≡ length (outputs_of m u)) → ((u : ℕ) → u ≢ t → SameTaken program u (taken_in m.pipes) (taken_in pipes)) →
    (u : ℕ) → u < length program.threads → ThreadSound program readings (made m t x pipes timers outputs) u
made_threads program readings m t x pipes timers outputs h known new outs taken u lt =
    let next : Model = made m t x pipes timers outputs in
    let changes = thread_changes program m next t x (rw h.threads_count known) refl in
    elim (cases_eq u t) [
      | inl same ↦ subst (λ v. ThreadSound program readings next v) (sym same)
          (subst (λ (z : ThreadModel). IsSoundAt program (taken_in pipes) t z (unsettled_into program readings next t (length program.sources)) (length (of_thread t outputs)) m.clock) (sym changes.0)
          (settled_at program (taken_in pipes) t x _ _ _ _ (unsettled_least (source_thread program) (readings_of readings) (sources_in m) (sources_in next) t (length program.sources) (λ j. omega arith)) new))
      | inr apart ↦ subst (λ (z : ThreadModel × ℕ). IsSoundAt program (taken_in pipes) u z.0 (unsettled_into program readings next u (length program.sources)) z.1 m.clock)
          (sym (λ k. (changes.1 u apart k, outs u apart k)))
          (settled_at program (taken_in pipes) u (thread_of m u) _ _ _ _ (unsettled_least (source_thread program) (readings_of readings) (sources_in m) (sources_in next) u (length program.sources) (λ j. omega arith))
          (other_at program (taken_in m.pipes) (taken_in pipes) u (thread_of m u) _ _ _ (taken u apart) (h.threads u lt)))
    ]

made_sound : (program : Program) (readings : Readings) (m : Model) (t : ℕ) (x : ThreadModel) (pipes : List PipeModel) (timers : List TimerModel) (outputs : List Output) →
    HasSoundParts program readings m → t < length program.threads →
    IsSoundAt program (taken_in pipes) t x (unsettled_into program readings m t (length program.sources)) (length (of_thread t outputs)) m.clock →
    ((u : ℕ) → u ≢ t → length (of_thread u outputs) ≡ length (outputs_of m u)) → ((u : ℕ) → u ≢ t → SameTaken program u (taken_in m.pipes) (taken_in pipes)) →
    length pipes ≡ length program.pipes → length timers ≡ length program.timers → PipesSound program pipes → TimersSound program timers →
    HasStamps (m.commits + 1) outputs → All (λ (o : Output). o.value < 2 ^ 32) outputs → HasSoundParts program readings (made m t x pipes timers outputs)
made_sound program readings m t x pipes timers outputs h known new outs taken pipes_count timers_count pipes_sound timers_sound stamps words = record {
  threads_count = length-set m.threads t x ∙ h.threads_count;
  pipes_count = pipes_count;
  timers_count = timers_count;
  sources_count = h.sources_count;
  threads = made_threads program readings m t x pipes timers outputs h known new outs taken;
  pipes = pipes_sound;
  timers = timers_sound;
  sources = sources_same readings m (made m t x pipes timers outputs) (length program.sources) refl h.sources;
  clock = h.clock;
  scan = λ scan is. absurd (let clash : None ≡ Some scan = is in cc);
  begun = λ scan is. absurd (let clash : None ≡ Some scan = is in cc);
  calm = λ scan is. absurd (let clash : None ≡ Some scan = is in cc);
  stamps = stamps;
  words = words;
}

-- the outputs of a thread after a commit
outputs_after : (m : Model) (t : ℕ) (outs : List ℕ) →
    (length (of_thread t (m.outputs ++ stamped (m.commits + 1) t outs)) ≡ length (outputs_of m t) + length outs)
    × ((u : ℕ) → u ≢ t → of_thread u (m.outputs ++ stamped (m.commits + 1) t outs) ≡ outputs_of m u)
outputs_after m t outs = (
  ap length (outputs-own (m.commits + 1) t m.outputs outs)
      ∙ (length-append (of_thread t m.outputs) (stamped (m.commits + 1) t outs) ∙ ap (λ n. length (of_thread t m.outputs) + n) (length-stamped (m.commits + 1) t outs)),
  λ u ne. outputs-other (m.commits + 1) t u m.outputs outs (λ e. ne (sym e)),
)

-- the room that the task's effects have
abbrev room_at : Program → Model → ℕ → Event → ℕ → Room
room_at program m t e time = room_of (start_at program m t e time)

-- the thread at the end of its task
ended_thread : (program : Program) (readings : Readings) (m : Model) (t : ℕ) (e : Event) (time : ℕ) (end : TaskEnd) (pipes : List PipeModel) (timers : List TimerModel) →
    HasSoundParts program readings m → t < length program.threads → time ≤ m.clock → IsReady program m t e pipes timers →
    IsFittingEnd program t (thread_def program t).state (room_at program m t e time) end →
    IsSoundAt program (taken_in (with_sends end.sends pipes)) t (thread_after e end.outcome end.state (with_first time (thread_of m t)))
    (unsettled_into program readings m t (length program.sources)) (length (of_thread t (m.outputs ++ stamped (m.commits + 1) t end.outs))) m.clock
ended_thread program readings m t e time end pipes timers h known le r fits =
    let x : ThreadModel = thread_of m t in
    let b : Bool = is_running (thread_of m t) in
    let first = first_at program (taken_in m.pipes) t (thread_of m t) _ _ _ time (is_running (thread_of m t)) le (h.threads t known) in
    let room : length end.outs ≤ (thread_def program t).log - length (outputs_of m t) = fits.effects.outs in
    let old : length (outputs_of m t) ≤ (thread_def program t).log = (h.threads t known).outputs in
    let count = (outputs_after m t end.outs).0 in
    let held : (with_first time x).held ≡ x.held = first_keeps (λ (z : ThreadModel). z.held) x time b refl in
    let taken : taken_in (with_sends end.sends pipes) ≡ taken_in pipes = λ k q. sent_taken end.sends pipes q k in
    after_at program (taken_in m.pipes) (taken_in (with_sends end.sends pipes)) t (with_first time x) e end.outcome end.state _ _ _ _ first
    (subst (λ (z : (ℕ → ℕ) × List Event). IsServedBy program z.0 t z.1 e) (sym (λ k. (taken k, held k))) r.served)
    (first_keeps (λ (z : ThreadModel). z.finished) x time b refl ∙ r.unfinished) fits.effects.state fits.effects.values fits.outcome (omega arith)

-- the commit of a task that has ended
ended_sound : (program : Program) (readings : Readings) (m : Model) (t : ℕ) (e : Event) (time : ℕ) (end : TaskEnd) (pipes : List PipeModel) (timers : List TimerModel) →
    HasSoundParts program readings m → t < length program.threads → time ≤ m.clock → IsReady program m t e pipes timers →
    IsFittingEnd program t (thread_def program t).state (room_at program m t e time) end →
    HasSoundParts program readings
    (made m t (thread_after e end.outcome end.state (with_first time (thread_of m t))) (with_sends end.sends pipes) (with_timers end.timers timers) (m.outputs ++ stamped (m.commits + 1) t end.outs))
ended_sound program readings m t e time end pipes timers h known le r fits =
    made_sound program readings m t _ (with_sends end.sends pipes) (with_timers end.timers timers) (m.outputs ++ stamped (m.commits + 1) t end.outs) h known
    (ended_thread program readings m t e time end pipes timers h known le r fits)
    (λ u apart. ap length ((outputs_after m t end.outs).1 u apart))
    (λ u apart q there reads. sent_taken end.sends pipes q ∙ r.others u apart q there reads)
    (sent_count end.sends pipes ∙ r.pipes_count) (set_count end.timers timers ∙ r.timers_count)
    (sends_sound program t end.sends pipes r.pipes_count fits.effects.sends (λ q there.
    let sent = fits.effects.sent q in
    let room = rooms_at program m q there in
    let fewer = r.fewer q there in
    let old = (h.pipes q there).room in
    omega (arith, sent, room, fewer, old)) r.pipes_sound)
    (settings_sound program t end.timers timers r.timers_count fits.effects.timers r.timers_sound)
    (more_stamps m.commits t m.outputs end.outs h.stamps)
    (All-append (λ (o : Output). o.value < 2 ^ 32) m.outputs (stamped (m.commits + 1) t end.outs) h.words (stamped_values (m.commits + 1) t end.outs fits.effects.words))

-- the task that a service goes on with, or begins with, is one of the thread
own_task : (program : Program) (readings : Readings) (m : Model) (t : ℕ) → IsAccepted program → HasSoundParts program readings m → t < length program.threads →
    (task_at program m t < length program.tasks) × ((task_def program (task_at program m t)).thread.0 ≡ t)
own_task program readings m t accepted h known = by_running (thread_of m t).running refl
  where
    by_running : (running : Option TaskId) → (thread_of m t).running ≡ running →
        let x : ℕ = elim running [ Some task ↦ task.0 | None ↦ first_task program t ] in (x < length program.tasks) × ((task_def program x).thread.0 ≡ t)
    by_running (Some task) runs = let c = (h.threads t known).chain task runs in (c.known, c.own)
    by_running None idle =
        (accepted.served t known, eqb-true _ _ (passes_at_first (λ (task : Task). task.thread.0 == t) program.tasks no_task_def (accepted.served t known)))

-- the bits of an event that is served
served_bits : (program : Program) (taken : ℕ → ℕ) (t : ℕ) (held : List Event) (o : Origin) (value : ℕ) → IsAccepted program → ((k : ℕ) → k < length held → IsQueued program t (event_at held k)) →
    IsServedBy program taken t held (record { origin = o; value = value }) → HasEventBits (record { origin = o; value = value })
served_bits program taken t held (origins.Source source count) value accepted queued served =
    let is = subst (λ e. IsQueued program t e) served.1 (queued 0 served.0) in
    let few = accepted.counts.sources in
    let known = is.0 in
    (is.3, omega arith)
served_bits program taken t held (origins.Pipe pipe item) value accepted queued served =
    let few = accepted.counts.pipes in
    let known = served.0 in
    (served.3, omega arith)
served_bits program taken t held (origins.Timer timer deadline) value accepted queued served =
    let few = accepted.counts.timers in
    let known = served.0 in
    let is = served.3 in
    (omega arith, omega arith)

-- so it is of a pending event
pending_bits : (program : Program) (readings : Readings) (m : Model) (t : ℕ) (e : Event) (scan : ScanModel) → IsAccepted program → HasSoundParts program readings m → t < length program.threads →
    m.scan ≡ Some scan → pending program m t ≡ Some e → HasEventBits e
pending_bits program readings m t e scan accepted h known is waits = by_running (is_running (thread_of m t)) refl
  where
    by_running : (b : Bool) → is_running (thread_of m t) ≡ b → HasEventBits e
    by_running true runs =
        served_bits program (taken_in m.pipes) t (thread_of m t).held e.origin e.value accepted (h.threads t known).queued (ready_running program readings m t e scan h known is waits runs).served
    by_running false idle =
        served_bits program (taken_in (taken_from e.origin m.pipes)) t (thread_of m t).held e.origin e.value accepted (h.threads t known).queued
        (ready_idle program readings m t e scan h known is waits idle).served

-- the end of the task that a commit runs
pub end_fits_at : (program : Program) (readings : Readings) (m : Model) (t : ℕ) (e : Event) (scan : ScanModel) → IsAccepted program → HasSoundParts program readings m → t < length program.threads →
    m.scan ≡ Some scan → pending program m t ≡ Some e →
    IsFittingEnd program t (thread_def program t).state (room_of (start_at program m t e scan.time)) (end_at program m t e scan.time)
end_fits_at program readings m t e scan accepted h known is waits =
    let own = own_task program readings m t accepted h known in
    let clock = h.clock in
    let le = h.scan scan is in
    task_fits program (task_at program m t) t (thread_def program t).state (start_at program m t e scan.time) accepted own.0 own.1 (omega arith)
    (pending_bits program readings m t e scan accepted h known is waits) (h.threads t known).size (h.threads t known).values

-- the commit by how the task ended, and by whether a chain runs
abbrev committed_by : Program → ℕ → Event → ℕ → TaskEnd → Bool → Model → Model
committed_by program t e time end running m =
    let next = if running && is_overdue (thread_def program t).expires (thread_of m t).first time then expired t e m else ended t e time end (consumed running e m) in
    record next { commits = m.commits + 1; scan = None }

-- the commit of a thread with its pending event
committed_sound : (program : Program) (readings : Readings) (m : Model) (t : ℕ) (e : Event) (scan : ScanModel) → IsAccepted program → HasSoundParts program readings m →
    t < length program.threads → m.scan ≡ Some scan → pending program m t ≡ Some e → HasSoundParts program readings (committed program t e scan.time m)
committed_sound program readings m t e scan accepted h known is waits = by_running (is_running (thread_of m t)) refl
  where
    fits : IsFittingEnd program t (thread_def program t).state (room_of (start_at program m t e scan.time)) (end_at program m t e scan.time)
    fits = end_fits_at program readings m t e scan accepted h known is waits

    by_overdue : (late : Bool) → IsReady program m t e m.pipes m.timers →
        HasSoundParts program readings (record (if late then expired t e m else ended t e scan.time (end_at program m t e scan.time) m) { commits = m.commits + 1; scan = None })
    by_overdue true r =
        made_sound program readings m t (expired_after e (thread_of m t)) m.pipes m.timers m.outputs h known
        (expired_at program (taken_in m.pipes) t (thread_of m t) e _ _ _ (h.threads t known) r.served r.unfinished)
        (λ u apart. refl) (λ u apart q there reads. refl) h.pipes_count h.timers_count r.pipes_sound r.timers_sound
        (later_stamps m.commits m.outputs h.stamps) h.words
    by_overdue false r = ended_sound program readings m t e scan.time (end_at program m t e scan.time) m.pipes m.timers h known (h.scan scan is) r fits

    by_running : (b : Bool) → is_running (thread_of m t) ≡ b → HasSoundParts program readings (committed_by program t e scan.time (end_at program m t e scan.time) b m)
    by_running true runs =
        by_overdue (is_overdue (thread_def program t).expires (thread_of m t).first scan.time) (ready_running program readings m t e scan h known is waits runs)
    by_running false idle =
        ended_sound program readings m t e scan.time (end_at program m t e scan.time) (taken_from e.origin m.pipes) (moved_on e.origin m.timers) h known (h.scan scan is)
        (ready_idle program readings m t e scan h known is waits idle) fits

pub commit_sound : (program : Program) (readings : Readings) (m : Model) (t : ThreadId) → IsAccepted program → HasSoundParts program readings m → Legal program readings m (Commit t) →
    HasSoundParts program readings (effect program readings m (Commit t))
commit_sound program readings m t accepted h legal = by_scan m.scan refl
  where
    by_pending : (scan : ScanModel) → m.scan ≡ Some scan → (q : Option Event) → pending program m t.0 ≡ q →
        HasSoundParts program readings (elim q [ None ↦ m | Some e ↦ committed program t.0 e scan.time m ])
    by_pending scan is None p = h
    by_pending scan is (Some e) p = committed_sound program readings m t.0 e scan accepted h legal.0 is p

    by_scan : (o : Option ScanModel) → m.scan ≡ o →
        HasSoundParts program readings (elim o [ None ↦ m | Some scan ↦ elim (pending program m t.0) [ None ↦ m | Some e ↦ committed program t.0 e scan.time m ] ])
    by_scan None is = h
    by_scan (Some scan) is = by_pending scan is (pending program m t.0) refl
