-- Each place that the kernel wants is one of the board.
use Rattle.kernel_core.proofs.Common.{◌≡◌, inl, inr, ℕ, ◌+◌, ◌*◌, ◌/◌, ◌%◌, ◌<◌, ◌==◌, Bool, true, false, cond, List, length, refl, sym, ap, ◌∙◌, subst, arith, mod-lt, if◌then◌else◌, Event, Memory, place_of, Buffer, Copying, Loading, Storing, place_in, working_mask, put_access, write_access, copy_access, is_dirty, IsUnderWay, thread_def, pipe_def, Program, IsOnBoard, pages_of, Model, Readings, thread_of, IsQueued, Background, Lasts, IsFinishing, boot_wants, BootKnows, BootAt, scan_wants, IsScanRow, scan_in_range, ScanAt, armed, Phase, TaskMachine, Put, action, access_of, device, fetch, is_late, next_by, total_word, KnowsAt, Setup, IsSetup, KernelHolds, wants, Kernel, every_task_fits}
use Rattle.std.proofs.lemmas.Nat.Bits.{bit_at-lt}
use Rattle.std.specs.Int.{bit_at}
use Rattle.push_core.specs.Queue.{event_at}
use Rattle.reboot.specs.declared.boot_at.BootAt.TheVariants as boot
use Rattle.priority_sched.specs.declared.scan_at.ScanAt.TheVariants as scan
use Rattle.task_run.specs.declared.phase.Phase.TheVariants as phase
use Rattle.task_run.specs.kept.Serving.{Serving}
use Rattle.task_run.specs.Fits.{FitsPhase}
use Rattle.kernel_core.specs.declared.kernel.Kernel.TheVariants as kernels
use Rattle.task_run.proofs.Words.{total_high}

-- a word of a page of a thread
in_block : (program : Program) (t mask w : ℕ) → t < length program.threads → w < 8 * pages_of (thread_def program t) → IsOnBoard program (place_in t mask w)
in_block program t mask w known lt = (known, omega arith, omega (arith, bit_at-lt mask (w / 8)), omega arith)

-- a finished event is of a source of the program
finishing_source : (program : Program) (readings : Readings) (words : Memory) (m : Model) (t i count : ℕ) → Background program readings words m → t < length program.threads → IsFinishing m t i count →
    i < length program.sources
finishing_source program readings words m t i count g known h =
    let some : 0 < length (thread_of m t).held = subst (λ (l : List Event). 0 < length l) (sym h.first.1) (omega arith) in
    let here : event_at (thread_of m t).held 0 ≡ record { origin = Rattle.ink_base.specs.declared.event.Origin.TheVariants.Source (record { 0 = i }) count; value = h.value } =
    ap (λ (l : List Event). event_at l 0) h.first.1 in
    let q = subst (λ (e : Event). IsQueued program t e) here ((g.sound.threads t known).queued 0 some) in
    q.0

slot_on : (s : Setup) (t p : ℕ) → IsSetup s → t < length s.program.threads → p % (thread_def s.program t).queue < (thread_def s.program t).queue
slot_on s t p g known = let some = (g.accepted.threads t known).queue_least in mod-lt p (omega arith)

boot_on : (s : Setup) (words : Memory) (m : Model) (t stamp : ℕ) (at : BootAt) → IsSetup s → Background s.program s.readings words m → t < length s.program.threads →
    BootKnows s.program words m t stamp at → IsOnBoard s.program (place_of (boot_wants s.program t at))
boot_on s words m t stamp boot.Commit g b known h = known
boot_on s words m t stamp (boot.Stamp c) g b known h = in_block s.program t c 0 known (omega arith)
boot_on s words m t stamp (boot.Finished c) g b known h = in_block s.program t c 5 known (omega arith)
boot_on s words m t stamp (boot.Slot p) g b known h = (known, slot_on s t p g known)
boot_on s words m t stamp (boot.Ack p source count) g b known h = finishing_source s.program s.readings words m t source.0 count b known h.0.finishing
boot_on s words m t stamp (boot.Empty p) g b known h = (known, slot_on s t p g known)
boot_on s words m t stamp boot.Over g b known h = known

scan_on : (s : Setup) (t : ℕ) (at : ScanAt) → IsSetup s → t < length s.program.threads → IsScanRow s.program at → IsOnBoard s.program (place_of (scan_wants s.program t at))
scan_on s t (scan.Running c) g known row = in_block s.program t c 1 known (omega arith)
scan_on s t (scan.Finished c running) g known row = in_block s.program t c 5 known (omega arith)
scan_on s t (scan.Origin chain) g known row = in_block s.program t chain.commit_word 3 known (omega arith)
scan_on s t (scan.Value chain o) g known row = in_block s.program t chain.commit_word 4 known (omega arith)
scan_on s t (scan.First chain e) g known row = in_block s.program t chain.commit_word 2 known (omega arith)
scan_on s t (scan.Slot c p) g known row = (known, slot_on s t p g known)
scan_on s t (scan.Taken idle pipe) g known row = let few = g.accepted.counts.pipes in in_block s.program t idle.commit_word (18 + pipe.0) known (omega arith)
scan_on s t (scan.Writer w) g known row = (g.accepted.pipes w.pipe.0 row.0).writer
scan_on s t (scan.Written w c) g known row =
    let few = g.accepted.counts.pipes in
    let lt = row.0 in
    in_block s.program (pipe_def s.program w.pipe.0).writer.0 c (10 + w.pipe.0) (g.accepted.pipes w.pipe.0 row.0).writer (omega arith)
scan_on s t (scan.Item w) g known row = let some = (g.accepted.pipes w.pipe.0 row.0).places_least in (row.0, mod-lt w.taken (omega arith))
scan_on s t (scan.Timer idle timer) g known row = let few = g.accepted.counts.timers in in_block s.program t idle.commit_word (26 + 2 * timer.0) known (omega arith)
scan_on s t scan.Commit g known row = known
scan_on s t _ g known row = tt

-- the place of a write, or of the copying of its page
put_on : (program : Program) (words : Memory) (t : ℕ) (b : Buffer) (w v : ℕ) → t < length program.threads → w < 8 * pages_of (thread_def program t) → IsUnderWay words t b (w / 8) →
    IsOnBoard program (place_of (put_access t b w v))
put_on program words t b w v known lt under = by_dirty (is_dirty b (w / 8)) refl
  where
    copy_on : (c : Copying) → Rattle.thread_state.specs.Pages.IsCopied words t b.commit (w / 8) c → IsOnBoard program (place_of (copy_access t b.commit (w / 8) c))
    copy_on (Loading k) h = (known, omega arith, omega (arith, bit_at-lt b.commit (w / 8)), h.0)
    copy_on (Storing k x) h = (known, omega arith, omega arith, h.0)

    by_dirty : (d : Bool) → is_dirty b (w / 8) ≡ d → IsOnBoard program (place_of (cond d (write_access t b w v) (copy_access t b.commit (w / 8) b.copying)))
    by_dirty true is = in_block program t (working_mask b) w known lt
    by_dirty false is = elim under [
      | inl clean ↦ copy_on b.copying clean.1
      | inr dirty ↦ absurd (let yes : (bit_at b.dirty (w / 8) == 1) ≡ true = Rattle.std.proofs.lemmas.Bool.eq-eqb _ _ dirty.0 in let clash : true ≡ false = sym yes ∙ is in cc)
    ]

ready_at : (program : Program) (words : Memory) (m : Model) (r : TaskMachine) (at : Phase) → r.phase ≡ at → Serving program words m r →
    Rattle.task_run.specs.kept.Serving.IsReady words r.pick.thread.0 r.buffer (action program r at)
ready_at program words m r at is h = subst (λ p. Rattle.task_run.specs.kept.Serving.IsReady words r.pick.thread.0 r.buffer (action program r p)) is h.ready

task_on : (s : Setup) (words : Memory) (m : Model) (r : TaskMachine) (at : Phase) → r.phase ≡ at → IsSetup s → r.pick.thread.0 < length s.program.threads → FitsPhase s.program r at →
    KnowsAt s.program words m r at → IsOnBoard s.program (place_of (access_of r (action s.program r at)))
task_on s words m r phase.WriteFirst is g known f h = put_on s.program words r.pick.thread.0 r.buffer 2 r.pick.time known (omega arith) (ready_at s.program words m r phase.WriteFirst is h)
task_on s words m r phase.WriteOrigin is g known f h =
    put_on s.program words r.pick.thread.0 r.buffer 3 (Rattle.never_cut.specs.Stands.origin_word r.pick.event.origin) known (omega arith) (ready_at s.program words m r phase.WriteOrigin is h)
task_on s words m r phase.WriteValue is g known f h = put_on s.program words r.pick.thread.0 r.buffer 4 r.pick.event.value known (omega arith) (ready_at s.program words m r phase.WriteValue is h)
task_on s words m r phase.WriteTaken is g known f h =
    let lt = f.0 in
    put_on s.program words r.pick.thread.0 r.buffer (18 + device r) (r.pick.taken + 1) known (omega arith) (ready_at s.program words m r phase.WriteTaken is h)
task_on s words m r phase.ReadPeriod is g known f h = let lt = f.0 in in_block s.program r.pick.thread.0 (working_mask r.buffer) (27 + 2 * device r) known (omega arith)
task_on s words m r (phase.WriteDue word) is g known f h =
    put_on s.program words r.pick.thread.0 r.buffer (26 + 2 * device r) word known (omega (arith, f)) (ready_at s.program words m r (phase.WriteDue word) is h)
task_on s words m r phase.Resume is g known f h = resume_on (is_late s.program r) (ready_at s.program words m r phase.Resume is h)
  where
    resume_on : (late : Bool) → Rattle.task_run.specs.kept.Serving.IsReady words r.pick.thread.0 r.buffer (if late then Put 1 0 else fetch r) →
        IsOnBoard s.program (place_of (access_of r (if late then Put 1 0 else fetch r)))
    resume_on true ready = put_on s.program words r.pick.thread.0 r.buffer 1 0 known (omega arith) ready
    resume_on false ready = (f.0.task, f.0.inside)
task_on s words m r phase.Fetch is g known f h = (f.task, f.inside)
task_on s words m r (phase.ReadState a n) is g known f h = let lt = f.1 in in_block s.program r.pick.thread.0 (working_mask r.buffer) (48 + n) known (omega arith)
task_on s words m r (phase.WriteState n v) is g known f h =
    let lt = f.1 in put_on s.program words r.pick.thread.0 r.buffer (48 + n) v known (omega arith) (ready_at s.program words m r (phase.WriteState n v) is h)
task_on s words m r (phase.ReadCount v) is g known f h = in_block s.program r.pick.thread.0 (working_mask r.buffer) 9 known (omega arith)
task_on s words m r (phase.StoreLog n v) is g known f h = (known, f)
task_on s words m r (phase.WriteCount n) is g known f h = put_on s.program words r.pick.thread.0 r.buffer 9 n known (omega arith) (ready_at s.program words m r (phase.WriteCount n) is h)
task_on s words m r (phase.LoadReader x) is g known f h = (g.accepted.pipes x.pipe f.1).reader
task_on s words m r (phase.LoadTaken x commit) is g known f h =
    let pipe = g.accepted.pipes x.pipe f.1 in
    let few = g.accepted.counts.pipes in
    let lt = f.1 in
    in_block s.program (pipe_def s.program x.pipe).reader.0 commit (18 + x.pipe) pipe.reader (omega arith)
task_on s words m r (phase.ReadWritten x taken) is g known f h =
    let few = g.accepted.counts.pipes in
    let lt = f.0.1 in
    in_block s.program r.pick.thread.0 (working_mask r.buffer) (10 + x.pipe) known (omega arith)
task_on s words m r (phase.StoreItem x written) is g known f h =
    let some = (g.accepted.pipes x.pipe f.0.1).places_least in (f.0.1, mod-lt written (omega arith))
task_on s words m r (phase.WriteWritten x written) is g known f h =
    let few = g.accepted.counts.pipes in
    let lt = f.0.1 in
    put_on s.program words r.pick.thread.0 r.buffer (10 + x.pipe) (written + 1) known (omega arith) (ready_at s.program words m r (phase.WriteWritten x written) is h)
task_on s words m r (phase.WriteArmed timer delay period) is g known f h =
    let few = g.accepted.counts.timers in
    let lt = f.1 in
    put_on s.program words r.pick.thread.0 r.buffer (26 + 2 * timer) (armed r.pick.time delay) known (omega arith) (ready_at s.program words m r (phase.WriteArmed timer delay period) is h)
task_on s words m r (phase.WritePeriod timer period) is g known f h =
    let few = g.accepted.counts.timers in
    let lt = f.1 in
    put_on s.program words r.pick.thread.0 r.buffer (27 + 2 * timer) period known (omega arith) (ready_at s.program words m r (phase.WritePeriod timer period) is h)
task_on s words m r (phase.WriteStopped timer) is g known f h =
    let few = g.accepted.counts.timers in
    let lt = f.1 in
    put_on s.program words r.pick.thread.0 r.buffer (26 + 2 * timer) 0 known (omega arith) (ready_at s.program words m r (phase.WriteStopped timer) is h)
task_on s words m r phase.WriteNext is g known f h = put_on s.program words r.pick.thread.0 r.buffer 1 (next_by r.ending) known (omega arith) (ready_at s.program words m r phase.WriteNext is h)
task_on s words m r phase.WriteFinished is g known f h =
    put_on s.program words r.pick.thread.0 r.buffer 5 (r.pick.position + 1) known (omega arith) (ready_at s.program words m r phase.WriteFinished is h)
task_on s words m r phase.ReadTotal is g known f h = let high = total_high r.ending in in_block s.program r.pick.thread.0 (working_mask r.buffer) (total_word r.ending) known (omega arith)
task_on s words m r (phase.WriteTotal n) is g known f h =
    put_on s.program words r.pick.thread.0 r.buffer (total_word r.ending) n known (let high = total_high r.ending in omega arith) (ready_at s.program words m r (phase.WriteTotal n) is h)
task_on s words m r phase.WriteStamp is g known f h = put_on s.program words r.pick.thread.0 r.buffer 0 (r.stamp + 1) known (omega arith) (ready_at s.program words m r phase.WriteStamp is h)
task_on s words m r phase.StoreCommit is g known f h = known
task_on s words m r (phase.StoreAck source count) is g known f h = f
task_on s words m r phase.StoreEmpty is g known f h = (known, slot_on s r.pick.thread.0 r.pick.position g known)
task_on s words m r phase.Over is g known f h = tt

pub kernel_on : (s : Setup) (words : Memory) (m : Model) (kernel : Kernel) → IsSetup s → Background s.program s.readings words m → Lasts 0 m → KernelHolds s.program words m kernel →
    IsOnBoard s.program (place_of (wants s.program kernel))
kernel_on s words m (kernels.Boot machine) g b room h = boot_on s words m machine.thread.0 machine.stamp machine.at g b h.0.known h.0.knows
kernel_on s words m (kernels.Scan stamp machine) g b room h =
    let range = scan_in_range s.program s.readings words m machine b room h.1 in
    scan_on s machine.thread.0 machine.at g range.row.known range.row.row
kernel_on s words m (kernels.Task r) g b room h =
    let fits = every_task_fits s.program s.readings words m r b room h.0 h.1 in
    task_on s words m r r.phase refl g fits.wants.thread fits.wants.phase h.0
