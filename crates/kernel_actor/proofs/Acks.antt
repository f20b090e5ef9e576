-- A release is wanted only behind the acknowledgement of the same event.
use Rattle.std.proofs.Common.{◌≡◌, ℕ, ◌+◌, ◌-◌, ◌/◌, ◌%◌, ◌^◌, ◌==◌, length, nat_lt, Bool, true, false, Option, Some, None, refl, sym, subst}
use Rattle.std.specs.Prelude.{if◌then◌else◌}
use Rattle.ink_base.specs.declared.ids.TaskId.{TaskId}
use Rattle.ink_base.specs.declared.ids.ThreadId.{ThreadId}
use Rattle.ink_base.specs.declared.event.Origin.{Origin}
use Rattle.ink_base.specs.declared.event.Origin.TheVariants as origins
use Rattle.event_pipe.specs.Ring.{has_room}
use Rattle.push_core.specs.Slots.{slot_in}
use Rattle.push_core.specs.declared.slot.Slot.{Slot}
use Rattle.push_core.specs.declared.slot.Slot.TheVariants as slots
use Rattle.thread_state.specs.Pages.{is_dirty}
use Rattle.task_isa.specs.declared.program.Program.{Program}
use Rattle.task_isa.specs.declared.act.Act.{Act}
use Rattle.task_isa.specs.declared.act.Act.TheVariants as acts
use Rattle.task_isa.specs.Acts.{Cpu, act_of}
use Rattle.task_isa.specs.Meaning.{advance, advance_with}
use Rattle.task_isa.specs.Code.{decoded}
use Rattle.prog_check.specs.Lookup.{thread_def, pipe_def, task_def}
use Rattle.ink_layout.specs.declared.pick.Pick.{Pick}
use Rattle.reboot.specs.Boot.{boot_takes, boot_next, boot_at, after_slot}
use Rattle.reboot.specs.declared.boot_at.BootAt.{BootAt}
use Rattle.reboot.specs.declared.boot_at.BootAt.TheVariants as boot
use Rattle.priority_sched.specs.Scan.{scan_takes, scan_result}
use Rattle.priority_sched.specs.declared.machine.ScanMachine.{ScanMachine}
use Rattle.priority_sched.specs.declared.scan_at.ScanAt.{ScanAt}
use Rattle.priority_sched.specs.declared.scanned.Scanned.{Scanned}
use Rattle.priority_sched.specs.declared.scanned.Scanned.TheVariants as results
use Rattle.task_run.specs.Actions.{Action, Put, Get, Make, action, cpu_of, given_by, is_late}
use Rattle.task_run.specs.Machine.{take, after, after_action, after_act, after_fetch, after_event, after_value, after_resume, after_written, after_next, after_commit, end_phase, release_phase, phase_again, first_phase, proceed, trap, instr_of, is_over}
use Rattle.task_run.specs.declared.ending.Ending.{Ending}
use Rattle.task_run.specs.declared.ending.Ending.TheVariants as endings
use Rattle.task_run.specs.declared.phase.Phase.{Phase}
use Rattle.task_run.specs.declared.phase.Phase.TheVariants as phase
use Rattle.task_run.specs.declared.machine.TaskMachine.{TaskMachine}
use Rattle.kernel_core.specs.Kernel.{takes, booted, after_scan, begin_scan}
use Rattle.kernel_core.specs.declared.kernel.Kernel.{Kernel}
use Rattle.kernel_core.specs.declared.kernel.Kernel.TheVariants.{Boot, Scan, Task}
use Rattle.kernel_actor.specs.Kinds.{kind_of, boot_kind, scan_kind, task_kind}
use Rattle.kernel_actor.specs.declared.kind.Kind.{Kind}
use Rattle.kernel_actor.specs.declared.kind.Kind.TheVariants.{Clock, Acknowledge, Release}

-- no release
abbrev IsQuiet : Kind → Type 0
IsQuiet (Release at) = ⊥
IsQuiet _ = Unit {0}

-- a release stands behind an acknowledgement of the same event
abbrev pub IsBehind : Kind → Kind → Type 0
IsBehind before (Release at) = before ≡ Acknowledge at
IsBehind before _ = Unit {0}

quiet : (before next : Kind) → IsQuiet next → IsBehind before next
quiet before (Release at) h = absurd h
quiet before _ h = tt

-- the kind of a service's next access
abbrev kind_in : TaskMachine → Kind
kind_in r = task_kind r.pick r.phase

trap_quiet : (r : TaskMachine) → IsQuiet (kind_in (trap r))
trap_quiet r = by_running r.pick.running
  where
    by_running : (o : Option TaskId) → IsQuiet (task_kind r.pick (phase_again o))
    by_running None = tt
    by_running (Some task) = tt

proceed_quiet : (program : Program) (r : TaskMachine) (cpu : Cpu) → IsQuiet (kind_in (proceed program r cpu))
proceed_quiet program r cpu = by_limit (nat_lt (r.execution.executed + 1) (task_def program r.execution.task.0).limit)
  where
    by_limit : (b : Bool) → IsQuiet (kind_in (if b then record r { execution = Rattle.task_run.specs.Machine.stepped r.execution cpu; phase = phase.Fetch } else trap r))
    by_limit true = tt
    by_limit false = trap_quiet r

act_quiet : (program : Program) (r : TaskMachine) (act : Act) → IsQuiet (kind_in (after_act program r act))
act_quiet program r (acts.Sets a v) = proceed_quiet program r (advance_with (cpu_of r.execution) a v)
act_quiet program r (acts.Goes offset) = proceed_quiet program r (record (cpu_of r.execution) { at = offset })
act_quiet program r (acts.Loads a n) = by_test (nat_lt n (thread_def program r.pick.thread.0).state)
  where
    by_test : (b : Bool) → IsQuiet (kind_in (if b then record r { phase = phase.ReadState a n } else trap r))
    by_test true = tt
    by_test false = trap_quiet r
act_quiet program r (acts.Saves n v) = by_test (nat_lt n (thread_def program r.pick.thread.0).state)
  where
    by_test : (b : Bool) → IsQuiet (kind_in (if b then record r { phase = phase.WriteState n v } else trap r))
    by_test true = tt
    by_test false = trap_quiet r
act_quiet program r (acts.Puts v) = tt
act_quiet program r (acts.Sends pipe a v) = tt
act_quiet program r (acts.Arms timer delay period) = tt
act_quiet program r (acts.Stops timer) = tt
act_quiet program r (acts.Continues task) = tt
act_quiet program r acts.Ends = tt
act_quiet program r (acts.Traps code) = trap_quiet r

event_quiet : (program : Program) (r : TaskMachine) (ending : Ending) → IsQuiet (kind_in (after_event program r ending))
event_quiet program r endings.Done = tt
event_quiet program r _ = tt

end_quiet : (pick : Pick) (origin : Origin) → IsQuiet (task_kind pick (end_phase origin))
end_quiet pick (origins.Source source count) = tt
end_quiet pick (origins.Pipe pipe item) = tt
end_quiet pick (origins.Timer timer deadline) = tt

next_quiet : (pick : Pick) (ending : Ending) (origin : Origin) → IsQuiet (task_kind pick (after_next ending origin))
next_quiet pick (endings.Next task) origin = tt
next_quiet pick _ origin = end_quiet pick origin

commit_quiet : (pick : Pick) (ending : Ending) (origin : Origin) → IsQuiet (task_kind pick (after_commit ending origin))
commit_quiet pick (endings.Next task) origin = tt
commit_quiet pick _ origin = by_origin origin
  where
    by_origin : (origin : Origin) → IsQuiet (task_kind pick (release_phase origin))
    by_origin (origins.Source source count) = tt
    by_origin (origins.Pipe pipe item) = tt
    by_origin (origins.Timer timer deadline) = tt

value_quiet : (program : Program) (r : TaskMachine) (origin : Origin) → IsQuiet (kind_in (after_value program r origin))
value_quiet program r (origins.Source source count) = event_quiet program r r.ending
value_quiet program r (origins.Pipe pipe item) = tt
value_quiet program r (origins.Timer timer deadline) = tt

-- behind each phase
after_behind : (program : Program) (r : TaskMachine) (at : Phase) (w : ℕ) → r.phase ≡ at → IsBehind (task_kind r.pick at) (kind_in (after program r at w))
after_behind program r phase.WriteFirst w is = tt
after_behind program r phase.WriteOrigin w is = tt
after_behind program r phase.WriteValue w is = quiet _ _ (value_quiet program r r.pick.event.origin)
after_behind program r phase.WriteTaken w is = quiet _ _ (event_quiet program r r.ending)
after_behind program r phase.ReadPeriod w is = tt
after_behind program r (phase.WriteDue x) w is = quiet _ _ (event_quiet program r r.ending)
after_behind program r phase.Resume w is = quiet _ _ (by_late (is_late program r))
  where
    by_late : (b : Bool) → IsQuiet (kind_in (after_resume program r b w))
    by_late true = end_quiet r.pick r.pick.event.origin
    by_late false = act_quiet program r (act_of (instr_of (decoded w)) (given_by r) (cpu_of r.execution))
after_behind program r phase.Fetch w is = quiet _ _ (act_quiet program r (act_of (instr_of (decoded w)) (given_by r) (cpu_of r.execution)))
after_behind program r (phase.ReadState a n) w is = quiet _ _ (proceed_quiet program r (advance_with (cpu_of r.execution) a (w % 2 ^ 32)))
after_behind program r (phase.WriteState n v) w is = quiet _ _ (proceed_quiet program r (advance (cpu_of r.execution)))
after_behind program r (phase.ReadCount v) w is = quiet _ _ (by_test (nat_lt w (thread_def program r.pick.thread.0).log))
  where
    by_test : (b : Bool) → IsQuiet (kind_in (if b then record r { phase = phase.StoreLog w v } else trap r))
    by_test true = tt
    by_test false = trap_quiet r
after_behind program r (phase.StoreLog n v) w is = tt
after_behind program r (phase.WriteCount n) w is = quiet _ _ (proceed_quiet program r (advance (cpu_of r.execution)))
after_behind program r (phase.LoadReader s) w is = tt
after_behind program r (phase.LoadTaken s commit) w is = tt
after_behind program r (phase.ReadWritten s taken) w is = quiet _ _ (by_room (has_room (pipe_def program s.pipe).places w taken))
  where
    by_room : (b : Bool) → IsQuiet (kind_in (if b then record r { phase = phase.StoreItem s w } else proceed program r (advance_with (cpu_of r.execution) s.register 0)))
    by_room true = tt
    by_room false = proceed_quiet program r (advance_with (cpu_of r.execution) s.register 0)
after_behind program r (phase.StoreItem s written) w is = tt
after_behind program r (phase.WriteWritten s written) w is = quiet _ _ (proceed_quiet program r (advance_with (cpu_of r.execution) s.register 1))
after_behind program r (phase.WriteArmed timer delay period) w is = tt
after_behind program r (phase.WritePeriod timer period) w is = quiet _ _ (proceed_quiet program r (advance (cpu_of r.execution)))
after_behind program r (phase.WriteStopped timer) w is = quiet _ _ (proceed_quiet program r (advance (cpu_of r.execution)))
after_behind program r phase.WriteNext w is = quiet _ _ (next_quiet r.pick r.ending r.pick.event.origin)
after_behind program r phase.WriteFinished w is = tt
after_behind program r phase.ReadTotal w is = tt
after_behind program r (phase.WriteTotal n) w is = tt
after_behind program r phase.WriteStamp w is = tt
after_behind program r phase.StoreCommit w is = quiet _ _ (commit_quiet r.pick r.ending r.pick.event.origin)
after_behind program r (phase.StoreAck source count) w is = refl
after_behind program r phase.StoreEmpty w is = tt
after_behind program r phase.Over w is = subst (λ (p : Phase). IsBehind Clock (task_kind r.pick p)) (sym is) tt

-- a write is no release
put_quiet : (program : Program) (r : TaskMachine) (at : Phase) (x v : ℕ) → action program r at ≡ Put x v → IsQuiet (task_kind r.pick at)
put_quiet program r phase.StoreEmpty x v is = absurd cc
put_quiet program r _ x v is = tt

task_behind : (program : Program) (r : TaskMachine) (w : ℕ) → IsBehind (kind_in r) (kind_in (take program r w))
task_behind program r w = by_action (action program r r.phase) refl
  where
    by_action : (a : Action) → action program r r.phase ≡ a → IsBehind (task_kind r.pick r.phase) (kind_in (after_action program r a w))
    by_action (Put x v) is = by_dirty (is_dirty r.buffer (x / 8))
      where
        by_dirty : (b : Bool) → IsBehind (task_kind r.pick r.phase)
            (kind_in (if b then after program r r.phase w else record r { buffer = Rattle.thread_state.specs.Pages.after_copy r.buffer (x / 8) r.buffer.copying w }))
        by_dirty true = after_behind program r r.phase w refl
        by_dirty false = quiet _ _ (put_quiet program r r.phase x v is)
    by_action (Get x) is = after_behind program r r.phase w refl
    by_action (Make a) is = after_behind program r r.phase w refl

-- a boot goes on with the next thread, or it is over and a scan begins
boot_next_quiet : (program : Program) (thread : ThreadId) (stamp : ℕ) → IsQuiet (kind_of (booted (boot_next program thread stamp)))
boot_next_quiet program thread stamp = by_last (nat_lt (thread.0 + 1) (length program.threads))
  where
    by_last : (b : Bool) → IsQuiet (kind_of (booted (if b then boot_at (record { 0 = thread.0 + 1 }) stamp boot.Commit else boot_at thread stamp boot.Over)))
    by_last true = tt
    by_last false = tt

boot_slot_quiet : (program : Program) (thread : ThreadId) (stamp p : ℕ) (o : Option Slot) → IsQuiet (kind_of (booted (after_slot program thread stamp p o)))
boot_slot_quiet program thread stamp p None = boot_next_quiet program thread stamp
boot_slot_quiet program thread stamp p (Some (slots.Empty q)) = boot_next_quiet program thread stamp
boot_slot_quiet program thread stamp p (Some (slots.Full q source count value)) = by_test (q == p)
  where
    by_test : (b : Bool) → IsQuiet (kind_of (booted (if b then boot_at thread stamp (boot.Ack p source count) else boot_next program thread stamp)))
    by_test true = tt
    by_test false = boot_next_quiet program thread stamp

boot_behind : (program : Program) (thread : ThreadId) (stamp : ℕ) (at : BootAt) (w : ℕ) → IsBehind (boot_kind thread at) (kind_of (booted (boot_takes program thread stamp at w)))
boot_behind program thread stamp boot.Commit w = tt
boot_behind program thread stamp (boot.Stamp c) w = tt
boot_behind program thread stamp (boot.Finished c) w = quiet _ _ (by_none (w == 0))
  where
    by_none : (b : Bool) → IsQuiet (kind_of (booted (if b then boot_next program thread stamp else boot_at thread stamp (boot.Slot (w - 1)))))
    by_none true = boot_next_quiet program thread stamp
    by_none false = tt
boot_behind program thread stamp (boot.Slot p) w = quiet _ _ (boot_slot_quiet program thread stamp p (slot_in w))
boot_behind program thread stamp (boot.Ack p source count) w = refl
boot_behind program thread stamp (boot.Empty p) w = quiet _ _ (boot_next_quiet program thread stamp)
boot_behind program thread stamp boot.Over w = tt

scan_quiet : (thread : ThreadId) (at : ScanAt) → IsQuiet (scan_kind thread at)
scan_quiet thread Rattle.priority_sched.specs.declared.scan_at.ScanAt.TheVariants.Clock = tt
scan_quiet thread _ = tt

begun_quiet : (pick : Pick) (o : Option TaskId) → IsQuiet (task_kind pick (first_phase o))
begun_quiet pick None = tt
begun_quiet pick (Some task) = tt

scanned_quiet : (stamp : ℕ) (machine : ScanMachine) (o : Option Scanned) → IsQuiet (kind_of (after_scan stamp machine o))
scanned_quiet stamp machine None = scan_quiet machine.thread machine.at
scanned_quiet stamp machine (Some (results.Pick pick)) = begun_quiet pick pick.running
scanned_quiet stamp machine (Some results.Quiet) = tt

-- a service that is over is followed by a scan
over_behind : (before : Kind) (r : TaskMachine) (b : Bool) → IsBehind before (kind_in r) → IsBehind before (kind_of (if b then begin_scan (r.stamp + 1) else Task r))
over_behind before r true h = tt
over_behind before r false h = h

pub release_behind : (program : Program) (kernel : Kernel) (w : ℕ) → IsBehind (kind_of kernel) (kind_of (takes program kernel w))
release_behind program (Boot machine) w = boot_behind program machine.thread machine.stamp machine.at w
release_behind program (Scan stamp machine) w =
    let next : ScanMachine = scan_takes program machine.thread machine.time machine.at w in
    quiet _ _ (scanned_quiet stamp next (scan_result next.at))
release_behind program (Task r) w = over_behind (kind_in r) (take program r w) (is_over (take program r w).phase) (task_behind program r w)
