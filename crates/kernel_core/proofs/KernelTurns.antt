-- An access of the kernel is legal and allowed, and its registers know what they must after it.
use Rattle.kernel_core.proofs.Common.{◌≡◌, ℕ, ◌+◌, Bool, true, false, Option, Some, None, refl, sym, ◌∙◌, subst, if◌then◌else◌, Event, ThreadId, Entry, Memory, perform, answer, slot_in, Row, entry_of_point, Model, moved, MayNote, IsSound, Background, IsKept, Lasts, sound_step, boot_stamp, boot_wants, boot_takes, boot_point, BootHolds, BootMachine, boot_keeps, scan_result, scan_wants, scan_takes, scan_point, look_point, event_at, ScanAt, Phase, TaskMachine, is_over, first_phase, Knows, KnowsAt, Kernel, Boot, Scan, Task, wants, takes, point_found, booted, after_boot, after_scan, after_task, begin_scan, Setup, IsSetup, KernelHolds}
use Rattle.ink_base.specs.declared.ids.TaskId.{TaskId}
use Rattle.reboot.proofs.Ends.{boot_ends}
use Rattle.priority_sched.specs.Knows.{ScanHolds}
use Rattle.priority_sched.specs.declared.machine.ScanMachine.{ScanMachine}
use Rattle.priority_sched.specs.declared.scan_at.ScanAt.TheVariants as scan
use Rattle.priority_sched.specs.declared.scanned.Scanned.{Scanned}
use Rattle.priority_sched.specs.declared.scanned.Scanned.TheVariants as scanned
use Rattle.priority_sched.proofs.Scans.{scan_begins, scan_keeps}
use Rattle.priority_sched.proofs.Ends.{scan_ends}
use Rattle.task_run.specs.declared.phase.Phase.TheVariants as phase
use Rattle.task_run.proofs.Keeps.{every_task_commits}
use Rattle.task_run.proofs.Begins.{every_pick}
use Rattle.kernel_core.specs.Kernel as kernels
use Rattle.kernel_core.proofs.KernelSteps.{To}
use Rattle.kernel_core.proofs.KernelMoves.{boot_move, scan_move, task_move}

-- a state stays sound by a legal entry or none
pub noted_sound : (s : Setup) (m : Model) (o : Option Entry) → IsSetup s → IsSound s.program s.readings m → MayNote s.program s.readings m o →
    IsSound s.program s.readings (moved s.program s.readings m o)
noted_sound s m None g sound may = sound
noted_sound s m (Some e) g sound may = sound_step s.program s.readings m e g.accepted g.short sound may

-- after a boot's access
boot_after : (s : Setup) (words : Memory) (m : Model) (boot : BootMachine) → Background s.program s.readings words m → BootHolds s.program words m boot →
    KernelHolds s.program words m (booted boot)
boot_after s words m boot g h = by_stamp (boot_stamp boot) refl
  where
    by_stamp : (o : Option ℕ) → boot_stamp boot ≡ o → KernelHolds s.program words m (after_boot boot o)
    by_stamp None is = (h, is)
    by_stamp (Some stamp) is =
        let end = boot_ends s.program s.readings words m boot stamp g h is in
        (end.1, scan_begins s.program s.readings words m g end.0, refl)

-- after a scan's access
scan_after : (s : Setup) (words : Memory) (m : Model) (stamp : ℕ) (machine : ScanMachine) → Background s.program s.readings words m → stamp ≡ m.commits → ScanHolds s.program words m machine →
    KernelHolds s.program words m (kernels.scanned stamp machine)
scan_after s words m stamp machine g commits h = by_result (scan_result machine.at) refl
  where
    fresh : (o : Option TaskId) → is_over (first_phase o) ≡ false
    fresh None = refl
    fresh (Some task) = refl

    by_result : (o : Option Scanned) → scan_result machine.at ≡ o → KernelHolds s.program words m (after_scan stamp machine o)
    by_result None is = (commits, h, is)
    by_result (Some (scanned.Pick pick)) is =
        let picked = scan_ends s.program words m machine (scanned.Pick pick) h is in
        (every_pick s.program s.readings words m pick stamp g picked commits, fresh pick.running)
    by_result (Some scanned.Quiet) is = (commits, scan_begins s.program s.readings words m g h.calm, refl)

over_phase : (p : Phase) → is_over p ≡ true → p ≡ phase.Over
over_phase phase.Over is = refl
over_phase _ is = absurd (let clash : false ≡ true = is in cc)

-- after a task's access
task_after : (s : Setup) (words : Memory) (m : Model) (r : TaskMachine) → Background s.program s.readings words m → Knows s.program words m r →
    KernelHolds s.program words m (after_task r)
task_after s words m r g h = by_over (is_over r.phase) refl
  where
    by_over : (b : Bool) → is_over r.phase ≡ b → KernelHolds s.program words m (if b then begin_scan (r.stamp + 1) else Task r)
    by_over true is =
        let done = subst (λ p. KnowsAt s.program words m r p) (over_phase r.phase is) h in
        (done.0, scan_begins s.program s.readings words m g done.1, refl)
    by_over false is = (h, is)

look_commits : (s : Setup) (m : Model) (thread : ThreadId) (found : Option Event) → (moved s.program s.readings m (entry_of_point (look_point thread found))).commits ≡ m.commits
look_commits s m thread None = refl
look_commits s m thread (Some e) = refl

-- a scan makes no commit
scan_commits : (s : Setup) (m : Model) (thread : ThreadId) (at : ScanAt) (word : ℕ) → (moved s.program s.readings m (entry_of_point (scan_point thread at word))).commits ≡ m.commits
scan_commits s m thread scan.Clock word = refl
scan_commits s m thread (scan.Slot c p) word = look_commits s m thread (event_at p (slot_in word))
scan_commits s m thread _ word = refl

-- One access of the kernel, which finds the word that stands there.
pub record KernelStep (s : Setup) (words : Memory) (m : Model) (rows : ℕ → Row) (kernel : Kernel) : Type 0 where
  pub kept :
      let access = wants s.program kernel in
      IsKept s.program s.readings words m access (entry_of_point (point_found s.program kernel (answer words access)))
  pub step :
      let access = wants s.program kernel in
      To s words m rows (perform words access) (moved s.program s.readings m (entry_of_point (point_found s.program kernel (answer words access))))
  pub holds :
      let access = wants s.program kernel in
      KernelHolds s.program (perform words access) (moved s.program s.readings m (entry_of_point (point_found s.program kernel (answer words access)))) (takes s.program kernel (answer words access))

-- what is known beside the registers after a kept access
background_after : (s : Setup) (words : Memory) (m : Model) (access : Rattle.fram_words.specs.Places.Access) (o : Option Entry) → IsSetup s → Background s.program s.readings words m →
    IsKept s.program s.readings words m access o → Background s.program s.readings (perform words access) (moved s.program s.readings m o)
background_after s words m access o g b k =
    record { accepted = b.accepted; private = k.private; shared = k.shared; sound = noted_sound s m o g b.sound k.legal }

pub kernel_steps : (s : Setup) (words : Memory) (m : Model) (rows : ℕ → Row) (kernel : Kernel) → IsSetup s → Background s.program s.readings words m → Lasts 0 m →
    KernelHolds s.program words m kernel → KernelStep s words m rows kernel
kernel_steps s words m rows (Boot boot) g b room h =
    let keeps = boot_keeps s.program s.readings words m boot b h.0 in
    let after = background_after s words m (wants s.program (Boot boot)) (entry_of_point (boot_point boot.thread boot.at)) g b keeps.kept in
    record {
      kept = keeps.kept;
      step = boot_move s words m rows b.sound.shape.threads boot.thread boot.at keeps.kept.allowed;
      holds = boot_after s _ _ (boot_takes s.program boot.thread boot.stamp boot.at (answer words (boot_wants s.program boot.thread.0 boot.at))) after keeps.holds;
    }
kernel_steps s words m rows (Scan stamp machine) g b room h =
    let keeps = scan_keeps s.program s.readings words m machine b room h.1 in
    let word : ℕ = answer words (scan_wants s.program machine.thread.0 machine.at) in
    let after = background_after s words m (wants s.program (Scan stamp machine))
    (entry_of_point (scan_point machine.thread machine.at (answer words (scan_wants s.program machine.thread.0 machine.at)))) g b keeps.kept in
    record {
      kept = keeps.kept;
      step = scan_move s words m rows b.sound.shape.threads machine.thread machine.at (answer words (scan_wants s.program machine.thread.0 machine.at));
      holds = scan_after s _ _ stamp (scan_takes s.program machine.thread machine.time machine.at (answer words (scan_wants s.program machine.thread.0 machine.at))) after
          (h.0 ∙ sym (scan_commits s m machine.thread machine.at (answer words (scan_wants s.program machine.thread.0 machine.at)))) keeps.holds;
    }
kernel_steps s words m rows (Task r) g b room h =
    let keeps = every_task_commits s.program s.readings words m r b h.0 h.1 in
    let after = background_after s words m (wants s.program (Task r)) (entry_of_point (Rattle.task_run.specs.Machine.point r)) g b keeps.kept in
    record {
      kept = keeps.kept;
      step = task_move s words m rows b.sound.shape.threads r r.phase refl b h.0 keeps.kept.allowed;
      holds = task_after s _ _ (Rattle.task_run.specs.Machine.take s.program r (answer words (Rattle.task_run.specs.Machine.want s.program r))) after keeps.knows;
    }
