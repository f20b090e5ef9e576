-- What the kind of the kernel's next access tells, row by row.
use Rattle.std.proofs.Common.{◌≡◌, ◌⊎◌, inl, inr, ℕ, ◌+◌, ◌*◌, ◌/◌, ◌%◌, ◌<◌, cond, Bool, true, false, length, Option, Some, None, refl, sym, ap, ◌∙◌, arith}
use Rattle.std.specs.Prelude.{if◌then◌else◌}
use Rattle.ink_base.specs.declared.event.Event.{Event}
use Rattle.ink_base.specs.declared.ids.ThreadId.{ThreadId}
use Rattle.task_isa.specs.declared.program.Program.{Program}
use Rattle.prog_check.specs.Lookup.{thread_def}
use Rattle.fram_words.specs.Places as places
use Rattle.fram_words.specs.Places.{Memory, Access, Load, Store, place_of}
use Rattle.fram_words.specs.Held.{origin_word}
use Rattle.push_core.specs.Slots.{slot_in, empty_word}
use Rattle.push_core.specs.declared.slot.Slot.{Slot}
use Rattle.push_core.specs.declared.slot.Slot.TheVariants as slots
use Rattle.thread_state.specs.Pages.{Buffer, Copying, Loading, Storing, copy_access, put_access, write_access, is_dirty}
use Rattle.persist_timer.specs.Due.{armed}
use Rattle.ink_layout.specs.declared.slot_at.SlotAt.{SlotAt}
use Rattle.ink_layout.specs.declared.kernel_point.KernelPoint.{KernelPoint}
use Rattle.ink_layout.specs.declared.kernel_point.KernelPoint.TheVariants as points
use Rattle.never_cut.specs.declared.model.Model.{Model}
use Rattle.never_cut.specs.State.{thread_of}
use Rattle.never_cut.specs.Stands.{flag}
use Rattle.never_cut.specs.kept.Actors.{IsFinishing}
use Rattle.reboot.specs.Boot.{boot_wants, boot_point, boot_next, boot_at, after_slot}
use Rattle.reboot.specs.Knows.{BootKnows}
use Rattle.reboot.specs.declared.boot_at.BootAt.{BootAt}
use Rattle.reboot.specs.declared.boot_at.BootAt.TheVariants as boot
use Rattle.priority_sched.specs.Scan.{scan_wants, scan_point, look_point, event_at}
use Rattle.priority_sched.specs.Knows.{ScanKnows}
use Rattle.priority_sched.specs.declared.scan_at.ScanAt.{ScanAt}
use Rattle.priority_sched.specs.declared.scan_at.ScanAt.TheVariants as scan
use Rattle.task_run.specs.Actions.{device, Put, action, access_of, fetch, is_late}
use Rattle.task_run.specs.Endings.{next_by, total_word}
use Rattle.task_run.specs.Machine.{point_at}
use Rattle.task_run.specs.Knows.{KnowsAt}
use Rattle.task_run.specs.declared.phase.Phase.{Phase}
use Rattle.task_run.specs.declared.phase.Phase.TheVariants as phase
use Rattle.task_run.specs.declared.machine.TaskMachine.{TaskMachine}
use Rattle.kernel_core.specs.Kernel.{wants, takes, point_found, booted}
use Rattle.kernel_core.specs.kept.Holds.{KernelHolds}
use Rattle.kernel_core.specs.declared.kernel.Kernel.{Kernel}
use Rattle.kernel_core.specs.declared.kernel.Kernel.TheVariants.{Boot, Scan, Task}
use Rattle.event_queue.specs.Events.{holds_event}
use Rattle.kernel_actor.specs.Kinds.{IsOwn, slot_at, kind_of, boot_kind, scan_kind, task_kind}
use Rattle.kernel_actor.specs.declared.kind.Kind.{Kind}
use Rattle.kernel_actor.specs.declared.kind.Kind.TheVariants.{Own, Clock, Look, Acknowledge, Release}

-- the place of a slot
abbrev pub slot_place : Program → SlotAt → places.Place
slot_place program at = places.Slot at.thread.0 (at.position % (thread_def program at.thread.0).queue)

-- the access releases nothing
abbrev pub IsStill : KernelPoint → Type 0
IsStill (points.Release t) = ⊥
IsStill _ = Unit {0}

-- what an access of a kind may mean
abbrev pub IsPointOf : Kind → KernelPoint → Type 0
IsPointOf kind points.Nothing = Unit {0}
IsPointOf Own (points.Commit t) = Unit {0}
IsPointOf Clock points.Scan = Unit {0}
IsPointOf (Look at) (points.Look t) = t ≡ at.thread
IsPointOf (Release at) (points.Release t) = t ≡ at.thread
IsPointOf _ _ = ⊥

-- the finished event at hand is the first of its queue
pub record IsServed (program : Program) (m : Model) (at : SlotAt) : Type 0 where
  pub known : at.thread.0 < length program.threads
  pub position : at.position ≡ (thread_of m at.thread.0).released
  pub source : ℕ
  pub count : ℕ
  pub finishing : IsFinishing m at.thread.0 source count

-- A boot looks once more at the position before the next one, where its thread has no finished event; all words that hold no event of it are the same to it.
pub record IsPast (program : Program) (m : Model) (kernel : Kernel) (at : SlotAt) : Type 0 where
  pub before : at.position + 1 ≡ (thread_of m at.thread.0).released
  pub takes_same : (w x : ℕ) → holds_event at.position (slot_in w) ≡ false → holds_event at.position (slot_in x) ≡ false → takes program kernel w ≡ takes program kernel x
  pub nothing : (w : ℕ) → point_found program kernel w ≡ points.Nothing

-- what is known of a look
pub record LooksAt (program : Program) (m : Model) (kernel : Kernel) (at : SlotAt) : Type 0 where
  pub known : at.thread.0 < length program.threads
  pub position : (at.position ≡ (thread_of m at.thread.0).released) ⊎ IsPast program m kernel at

-- the access of each kind, what it may mean, and what the registers know with it
abbrev pub Tells : Program → Model → Kernel → Access → (ℕ → KernelPoint) → Kind → Type 0
Tells program m kernel a point Own = IsOwn (place_of a) × ((w : ℕ) → IsPointOf Own (point w))
Tells program m kernel a point Clock = (a ≡ Load places.Clock) × ((w : ℕ) → IsPointOf Clock (point w))
Tells program m kernel a point (Look at) = (a ≡ Load (slot_place program at)) × ((w : ℕ) → IsPointOf (Look at) (point w)) × LooksAt program m kernel at
Tells program m kernel a point (Acknowledge at) = (i : ℕ) × (v : ℕ) × (a ≡ Store (places.Ack i) v) × ((w : ℕ) → IsPointOf (Acknowledge at) (point w)) × IsServed program m at
Tells program m kernel a point (Release at) =
    (a ≡ Store (slot_place program at) (empty_word (at.position + (thread_def program at.thread.0).queue))) × ((w : ℕ) → point w ≡ points.Release at.thread) × IsServed program m at

-- whatever the slot holds that is no event of the position
after_past : (program : Program) (thread : ThreadId) (stamp p : ℕ) (o : Option Slot) → holds_event p o ≡ false → after_slot program thread stamp p o ≡ boot_next program thread stamp
after_past program thread stamp p (Some (slots.Full q source count value)) none =
    ap (λ (b : Bool). cond b (boot_at thread stamp (boot.Ack p source count)) (boot_next program thread stamp)) none
after_past program thread stamp p (Some (slots.Empty q)) none = refl
after_past program thread stamp p None none = refl

boot_tells : (program : Program) (words : Memory) (m : Model) (thread : ThreadId) (stamp : ℕ) (at : BootAt) → thread.0 < length program.threads → BootKnows program words m thread.0 stamp at →
    Tells program m (Boot (boot_at thread stamp at)) (boot_wants program thread.0 at) (λ w. boot_point thread at) (boot_kind thread at)
boot_tells program words m thread stamp boot.Commit known h = (tt, λ w. tt)
boot_tells program words m thread stamp (boot.Stamp c) known h = (tt, λ w. tt)
boot_tells program words m thread stamp (boot.Finished c) known h = (tt, λ w. tt)
boot_tells program words m thread stamp (boot.Slot p) known h = (refl, λ w. tt, record { known = known; position = by_finished (thread_of m thread.0).finished refl })
  where
    kernel : Kernel
    kernel = Boot (boot_at thread stamp (boot.Slot p))

    by_finished : (b : Bool) → (thread_of m thread.0).finished ≡ b → (p ≡ (thread_of m thread.0).released) ⊎ IsPast program m (Boot (boot_at thread stamp (boot.Slot p))) (slot_at thread p)
    by_finished true is = inl (omega (arith, h.0, ap flag is))
    by_finished false is = inr (record {
      before = omega (arith, h.0, ap flag is);
      takes_same = λ w x none none'. ap booted (after_past program thread stamp p (slot_in w) none ∙ sym (after_past program thread stamp p (slot_in x) none'));
      nothing = λ w. refl;
    })
boot_tells program words m thread stamp (boot.Ack p source count) known h =
    (source.0, (count + 1) % 64, refl, λ w. tt, record { known = known; position = h.0.position; source = source.0; count = count; finishing = h.0.finishing })
boot_tells program words m thread stamp (boot.Empty p) known h =
    (refl, λ w. refl, record { known = known; position = h.0.event.position; source = h.0.source; count = h.0.count; finishing = h.0.event.finishing })
boot_tells program words m thread stamp boot.Over known h = (tt, λ w. tt)

-- a look releases nothing
look_still : (thread : ThreadId) (p : ℕ) (o : Option Event) → IsPointOf (Look (slot_at thread p)) (look_point thread o)
look_still thread p None = refl
look_still thread p (Some e) = tt

scan_tells : (program : Program) (words : Memory) (m : Model) (kernel : Kernel) (thread : ThreadId) (time : ℕ) (at : ScanAt) → thread.0 < length program.threads → ScanKnows program words m thread.0 time at →
    Tells program m kernel (scan_wants program thread.0 at) (scan_point thread at) (scan_kind thread at)
scan_tells program words m kernel thread time scan.Clock known h = (refl, λ w. tt)
scan_tells program words m kernel thread time scan.Commit known h = (tt, λ w. tt)
scan_tells program words m kernel thread time (scan.Running c) known h = (tt, λ w. tt)
scan_tells program words m kernel thread time (scan.Finished c running) known h = (tt, λ w. tt)
scan_tells program words m kernel thread time (scan.Origin chain) known h = (tt, λ w. tt)
scan_tells program words m kernel thread time (scan.Value chain o) known h = (tt, λ w. tt)
scan_tells program words m kernel thread time (scan.First chain e) known h = (tt, λ w. tt)
scan_tells program words m kernel thread time (scan.Slot c p) known h = (refl, λ w. look_still thread p (event_at p (slot_in w)), record { known = known; position = inl h.2 })
scan_tells program words m kernel thread time (scan.Taken idle pipe) known h = (tt, λ w. tt)
scan_tells program words m kernel thread time (scan.Writer x) known h = (tt, λ w. tt)
scan_tells program words m kernel thread time (scan.Written x c) known h = (tt, λ w. tt)
scan_tells program words m kernel thread time (scan.Item x) known h = (tt, λ w. tt)
scan_tells program words m kernel thread time (scan.Timer idle timer) known h = (tt, λ w. tt)
scan_tells program words m kernel thread time (scan.Picked pick) known h = (refl, λ w. tt)
scan_tells program words m kernel thread time scan.Quiet known h = (refl, λ w. tt)

put_own : (t : ℕ) (b : Buffer) (w v : ℕ) → IsOwn (place_of (put_access t b w v))
put_own t b w v = by_dirty (is_dirty b (w / 8)) b.copying
  where
    by_dirty : (d : Bool) (c : Copying) → IsOwn (place_of (cond d (write_access t b w v) (copy_access t b.commit (w / 8) c)))
    by_dirty true c = tt
    by_dirty false (Loading k) = tt
    by_dirty false (Storing k x) = tt

task_tells : (program : Program) (words : Memory) (m : Model) (r : TaskMachine) (at : Phase) → KnowsAt program words m r at →
    Tells program m (Task r) (access_of r (action program r at)) (λ w. point_at r at) (task_kind r.pick at)
task_tells program words m r phase.WriteFirst h = (put_own r.pick.thread.0 r.buffer 2 r.pick.time, λ w. tt)
task_tells program words m r phase.WriteOrigin h = (put_own r.pick.thread.0 r.buffer 3 (origin_word r.pick.event.origin), λ w. tt)
task_tells program words m r phase.WriteValue h = (put_own r.pick.thread.0 r.buffer 4 r.pick.event.value, λ w. tt)
task_tells program words m r phase.WriteTaken h = (put_own r.pick.thread.0 r.buffer (18 + device r) (r.pick.taken + 1), λ w. tt)
task_tells program words m r phase.ReadPeriod h = (tt, λ w. tt)
task_tells program words m r (phase.WriteDue x) h = (put_own r.pick.thread.0 r.buffer (26 + 2 * device r) x, λ w. tt)
task_tells program words m r phase.Resume h = (by_late (is_late program r), λ w. tt)
  where
    by_late : (b : Bool) → IsOwn (place_of (access_of r (if b then Put 1 0 else fetch r)))
    by_late true = put_own r.pick.thread.0 r.buffer 1 0
    by_late false = tt
task_tells program words m r phase.Fetch h = (tt, λ w. tt)
task_tells program words m r (phase.ReadState a n) h = (tt, λ w. tt)
task_tells program words m r (phase.WriteState n v) h = (put_own r.pick.thread.0 r.buffer (48 + n) v, λ w. tt)
task_tells program words m r (phase.ReadCount v) h = (tt, λ w. tt)
task_tells program words m r (phase.StoreLog n v) h = (tt, λ w. tt)
task_tells program words m r (phase.WriteCount n) h = (put_own r.pick.thread.0 r.buffer 9 n, λ w. tt)
task_tells program words m r (phase.LoadReader s) h = (tt, λ w. tt)
task_tells program words m r (phase.LoadTaken s commit) h = (tt, λ w. tt)
task_tells program words m r (phase.ReadWritten s taken) h = (tt, λ w. tt)
task_tells program words m r (phase.StoreItem s written) h = (tt, λ w. tt)
task_tells program words m r (phase.WriteWritten s written) h = (put_own r.pick.thread.0 r.buffer (10 + s.pipe) (written + 1), λ w. tt)
task_tells program words m r (phase.WriteArmed timer delay period) h = (put_own r.pick.thread.0 r.buffer (26 + 2 * timer) (armed r.pick.time delay), λ w. tt)
task_tells program words m r (phase.WritePeriod timer period) h = (put_own r.pick.thread.0 r.buffer (27 + 2 * timer) period, λ w. tt)
task_tells program words m r (phase.WriteStopped timer) h = (put_own r.pick.thread.0 r.buffer (26 + 2 * timer) 0, λ w. tt)
task_tells program words m r phase.WriteNext h = (put_own r.pick.thread.0 r.buffer 1 (next_by r.ending), λ w. tt)
task_tells program words m r phase.WriteFinished h = (put_own r.pick.thread.0 r.buffer 5 (r.pick.position + 1), λ w. tt)
task_tells program words m r phase.ReadTotal h = (tt, λ w. tt)
task_tells program words m r (phase.WriteTotal n) h = (put_own r.pick.thread.0 r.buffer (total_word r.ending) n, λ w. tt)
task_tells program words m r phase.WriteStamp h = (put_own r.pick.thread.0 r.buffer 0 (r.stamp + 1), λ w. tt)
task_tells program words m r phase.StoreCommit h = (tt, λ w. tt)
task_tells program words m r (phase.StoreAck source count) h =
    (source.0, (count + 1) % 64, refl, λ w. tt, record { known = h.known; position = h.position; source = source.0; count = count; finishing = h.finishing })
task_tells program words m r phase.StoreEmpty h =
    (refl, λ w. refl, record { known = h.2.known; position = h.2.position; source = h.0; count = h.1; finishing = h.2.finishing })
task_tells program words m r phase.Over h = (refl, λ w. tt)

pub kind_tells : (program : Program) (words : Memory) (m : Model) (kernel : Kernel) → KernelHolds program words m kernel → Tells program m kernel (wants program kernel) (point_found program kernel) (kind_of kernel)
kind_tells program words m (Boot machine) h = boot_tells program words m machine.thread machine.stamp machine.at h.0.known h.0.knows
kind_tells program words m (Scan stamp machine) h = scan_tells program words m (Scan stamp machine) machine.thread machine.time machine.at h.1.known h.1.knows
kind_tells program words m (Task machine) h = task_tells program words m machine machine.phase h.0

-- an access that isn't a release releases nothing
pub point_still : (kind : Kind) (point : KernelPoint) → ((at : SlotAt) → kind ≡ Release at → ⊥) → IsPointOf kind point → IsStill point
point_still (Release at) (points.Release t) not is = absurd (not at refl)
point_still Own (points.Release t) not is = absurd is
point_still Clock (points.Release t) not is = absurd is
point_still (Look at) (points.Release t) not is = absurd is
point_still (Acknowledge at) (points.Release t) not is = absurd is
point_still kind _ not is = tt
