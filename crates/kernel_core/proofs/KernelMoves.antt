-- Each row of the kernel's tables is a step that the sources' side is proved for.
use Rattle.kernel_core.proofs.Common.{if◌then◌else◌, ◌≡◌, ℕ, ◌+◌, ◌*◌, ◌^◌, ◌%◌, ◌<◌, Bool, true, false, List, length, Option, Some, None, refl, sym, subst, arith, Event, ThreadId, Log, Commit, Memory, Store, perform, empty_word, slot_in, Row, working_mask, thread_def, entry_of_point, Model, thread_of, committed, effect, moved, IsAllowed, Background, IsPicked, boot_wants, boot_point, BootAt, scan_wants, scan_point, look_point, event_at, ScanAt, armed, Phase, TaskMachine, Put, action, access_of, point_at, device, fetch, is_late, sending, next_by, total_word, KnowsAt, origin_word, Setup}
use Rattle.ink_base.specs.declared.entry.Entry.TheVariants as entries
use Rattle.reboot.specs.declared.boot_at.BootAt.TheVariants as boot
use Rattle.priority_sched.specs.declared.scan_at.ScanAt.TheVariants as scan
use Rattle.task_run.specs.declared.phase.Phase.TheVariants as phase
use Rattle.kernel_core.proofs.Quiet.{put_unshared}
use Rattle.kernel_core.proofs.CommitSides.{Side, Same, Finishes, Commits, commits_side, sides_same, commit_picked}
use Rattle.kernel_core.proofs.KernelSteps.{To, still, loaded, ack_step, empty_step, commit_step}

module _ (s : Setup) (words : Memory) (m : Model) (rows : ℕ → Row) (count : length m.threads ≡ length s.program.threads) where
  pub boot_move : (thread : ThreadId) (at : BootAt) → IsAllowed s.program words m (boot_wants s.program thread.0 at) →
      To s words m rows (perform words (boot_wants s.program thread.0 at)) (moved s.program s.readings m (entry_of_point (boot_point thread at)))
  boot_move thread boot.Commit a = loaded s words m rows m refl
  boot_move thread (boot.Stamp c) a = loaded s words m rows m refl
  boot_move thread (boot.Finished c) a = loaded s words m rows m refl
  boot_move thread (boot.Slot p) a = loaded s words m rows m refl
  boot_move thread (boot.Ack p source number) a = ack_step s words m rows source.0 ((number + 1) % 64) a
  boot_move thread (boot.Empty p) a =
      empty_step s words m rows thread (p % (thread_def s.program thread.0).queue) (empty_word (p + (thread_def s.program thread.0).queue)) count a
  boot_move thread boot.Over a = loaded s words m rows m refl

  look_move : (thread : ThreadId) (found : Option Event) → To s words m rows words (moved s.program s.readings m (entry_of_point (look_point thread found)))
  look_move thread None = loaded s words m rows (effect s.program s.readings m (entries.Look thread)) refl
  look_move thread (Some e) = loaded s words m rows m refl

  pub scan_move : (thread : ThreadId) (at : ScanAt) (word : ℕ) →
      To s words m rows (perform words (scan_wants s.program thread.0 at)) (moved s.program s.readings m (entry_of_point (scan_point thread at word)))
  scan_move thread scan.Clock word = loaded s words m rows (effect s.program s.readings m entries.Scan) refl
  scan_move thread (scan.Slot c p) word = look_move thread (event_at p (slot_in word))
  scan_move thread _ word = loaded s words m rows m refl

  commit_move : (r : TaskMachine) → IsPicked s.program words m r.pick →
      To s words m rows (perform words (Store (Commit r.pick.thread.0) (working_mask r.buffer))) (effect s.program s.readings m (entries.Commit r.pick.thread))
  commit_move r picked =
      subst (λ (next : Model). To s words m rows (perform words (Store (Commit r.pick.thread.0) (working_mask r.buffer))) next) (sym (commit_picked s.program words m r.pick picked))
      (by_side made.side)
    where
      next_model : Model
      next_model = committed s.program r.pick.thread.0 r.pick.event r.pick.time m

      known : r.pick.thread.0 < length m.threads
      known = rw count picked.known

      made : Commits s.program m r.pick.thread.0 r.pick.event next_model
      made = commits_side s.program m r.pick.thread.0 r.pick.time r.pick.event (picked.calm r.pick.thread.0 picked.known)

      by_side : Side r.pick.event (thread_of m r.pick.thread.0) made.after →
          To s words m rows (perform words (Store (Commit r.pick.thread.0) (working_mask r.buffer))) next_model
      by_side (Same same) =
          still s words m rows (Store (Commit r.pick.thread.0) (working_mask r.buffer)) next_model (λ h. h)
          (sides_same m next_model r.pick.thread.0 made.after known made.threads made.sources same)
      by_side (Finishes queued finished) =
          commit_step s words m rows r.pick.thread.0 (working_mask r.buffer) made.after next_model known made.threads made.sources finished
          (picked.calm r.pick.thread.0 picked.known) (subst (λ (l : List Event). 0 < length l) (sym (picked.held queued).1) (omega arith))

  pub task_move : (r : TaskMachine) (at : Phase) → r.phase ≡ at → Background s.program s.readings words m → KnowsAt s.program words m r at →
      IsAllowed s.program words m (access_of r (action s.program r at)) →
      To s words m rows (perform words (access_of r (action s.program r at))) (moved s.program s.readings m (entry_of_point (point_at r at)))
  task_move r phase.WriteFirst is g k a = still s words m rows _ m (put_unshared r.pick.thread.0 r.buffer 2 r.pick.time) refl
  task_move r phase.WriteOrigin is g k a = still s words m rows _ m (put_unshared r.pick.thread.0 r.buffer 3 (origin_word r.pick.event.origin)) refl
  task_move r phase.WriteValue is g k a = still s words m rows _ m (put_unshared r.pick.thread.0 r.buffer 4 r.pick.event.value) refl
  task_move r phase.WriteTaken is g k a = still s words m rows _ m (put_unshared r.pick.thread.0 r.buffer (18 + device r) (r.pick.taken + 1)) refl
  task_move r phase.ReadPeriod is g k a = loaded s words m rows m refl
  task_move r (phase.WriteDue word) is g k a = still s words m rows _ m (put_unshared r.pick.thread.0 r.buffer (26 + 2 * device r) word) refl
  task_move r phase.Resume is g k a = resume_move (is_late s.program r)
    where
      resume_move : (late : Bool) → To s words m rows (perform words (access_of r (if late then Put 1 0 else fetch r))) m
      resume_move true = still s words m rows _ m (put_unshared r.pick.thread.0 r.buffer 1 0) refl
      resume_move false = loaded s words m rows m refl
  task_move r phase.Fetch is g k a = loaded s words m rows m refl
  task_move r (phase.ReadState b n) is g k a = loaded s words m rows m refl
  task_move r (phase.WriteState n v) is g k a = still s words m rows _ m (put_unshared r.pick.thread.0 r.buffer (48 + n) v) refl
  task_move r (phase.ReadCount v) is g k a = loaded s words m rows m refl
  task_move r (phase.StoreLog n v) is g k a = still s words m rows (Store (Log r.pick.thread.0 n) ((r.stamp + 1) * 2 ^ 32 + v)) m (λ h. h) refl
  task_move r (phase.WriteCount n) is g k a = still s words m rows _ m (put_unshared r.pick.thread.0 r.buffer 9 n) refl
  task_move r (phase.LoadReader x) is g k a = loaded s words m rows m refl
  task_move r (phase.LoadTaken x commit) is g k a = loaded s words m rows m refl
  task_move r (phase.ReadWritten x taken) is g k a = loaded s words m rows m refl
  task_move r (phase.StoreItem x written) is g k a = still s words m rows (sending s.program x written) m (λ h. h) refl
  task_move r (phase.WriteWritten x written) is g k a = still s words m rows _ m (put_unshared r.pick.thread.0 r.buffer (10 + x.pipe) (written + 1)) refl
  task_move r (phase.WriteArmed timer delay period) is g k a = still s words m rows _ m (put_unshared r.pick.thread.0 r.buffer (26 + 2 * timer) (armed r.pick.time delay)) refl
  task_move r (phase.WritePeriod timer period) is g k a = still s words m rows _ m (put_unshared r.pick.thread.0 r.buffer (27 + 2 * timer) period) refl
  task_move r (phase.WriteStopped timer) is g k a = still s words m rows _ m (put_unshared r.pick.thread.0 r.buffer (26 + 2 * timer) 0) refl
  task_move r phase.WriteNext is g k a = still s words m rows _ m (put_unshared r.pick.thread.0 r.buffer 1 (next_by r.ending)) refl
  task_move r phase.WriteFinished is g k a = still s words m rows _ m (put_unshared r.pick.thread.0 r.buffer 5 (r.pick.position + 1)) refl
  task_move r phase.ReadTotal is g k a = loaded s words m rows m refl
  task_move r (phase.WriteTotal n) is g k a = still s words m rows _ m (put_unshared r.pick.thread.0 r.buffer (total_word r.ending) n) refl
  task_move r phase.WriteStamp is g k a = still s words m rows _ m (put_unshared r.pick.thread.0 r.buffer 0 (r.stamp + 1)) refl
  task_move r phase.StoreCommit is g k a = commit_move r k.picked
  task_move r (phase.StoreAck source number) is g k a = ack_step s words m rows source.0 ((number + 1) % 64) a
  task_move r phase.StoreEmpty is g k a =
      empty_step s words m rows r.pick.thread (r.pick.position % (thread_def s.program r.pick.thread.0).queue) (empty_word (r.pick.position + (thread_def s.program r.pick.thread.0).queue)) count a
  task_move r phase.Over is g k a = loaded s words m rows m refl
