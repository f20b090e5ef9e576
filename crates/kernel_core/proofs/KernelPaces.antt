-- A scan that ends and a service keep to the bound, and so does every access of the kernel.
use Rattle.kernel_core.proofs.Common.{◌≡◌, inl, inr, ℕ, zero, suc, ◌+◌, ◌<◌, ◌≤◌, Bool, true, false, List, [], ◌∷◌, ◌++◌, length, get_or, Option, Some, None, refl, sym, ap, ◌∙◌, subst, arith, if◌then◌else◌, Entry, Memory, perform, answer, entry_of_point, Program, IsAccepted, task_def, Model, ScanModel, thread_of, pending, committed, commit, after, moved, noted, after-noted, MayNote, IsSound, Background, Lasts, scan_result, scan_wants, scan_takes, scan_point, Phase, TaskMachine, is_over, Knows, KnowsAt, every_task_fits, Kernel, Boot, Scan, Task, wants, takes, point_found, after_scan, after_task, begin_scan, point_at, Setup, IsSetup, KernelHolds}
use Rattle.std.proofs.Common.{IsSome}
use Rattle.std.specs.Option.{ForSome}
use Rattle.std.proofs.lemmas.Bool.{false≢true}
use Rattle.ink_base.specs.declared.entry.Entry.TheVariants as entries
use Rattle.ink_base.specs.declared.event.Event.{Event}
use Rattle.ink_base.specs.declared.ids.TaskId.{TaskId}
use Rattle.never_cut.specs.Bounds.{task_bound, greatest_of}
use Rattle.never_cut.specs.Entries.{ArePassed, IsCalm, Legal}
use Rattle.never_cut.specs.Ranges.{IsTaskOf}
use Rattle.priority_sched.specs.Knows.{ScanHolds}
use Rattle.priority_sched.specs.kept.LeftMost.{scan_left}
use Rattle.priority_sched.specs.declared.machine.ScanMachine.{ScanMachine}
use Rattle.priority_sched.specs.declared.scanned.Scanned.{Scanned}
use Rattle.priority_sched.specs.declared.scanned.Scanned.TheVariants as scanned
use Rattle.priority_sched.proofs.Scans.{scan_keeps}
use Rattle.priority_sched.proofs.Ends.{scan_ends}
use Rattle.task_isa.specs.declared.program.Task as declared
use Rattle.task_run.specs.declared.phase.Phase.TheVariants as phase
use Rattle.task_run.specs.Bounded.{task_of, task_by}
use Rattle.task_run.specs.Machine as tasks
use Rattle.task_run.specs.kept.LeftMost.{IsInPage, left_most}
use Rattle.task_run.proofs.Bounded.{left_begins}
use Rattle.task_run.proofs.LeftFalls.{left_falls}
use Rattle.task_run.proofs.Opens.{IsLate, IsOpen, stays_open}
use Rattle.kernel_core.specs.Kernel as kernels
use Rattle.kernel_core.proofs.KernelTurns.{noted_sound}
use Rattle.kernel_core.proofs.Charges.{noted-behind}
use Rattle.kernel_core.proofs.Answers.{commit_answers, quiet_answers}
use Rattle.kernel_core.proofs.Paces.{service_most, Rests, Waiting, Paced, ScanPaced, TaskPaced, Rowed, rests_on, waiting_on, boot_paces, scan_row}

-- the bound of each task is at most the greatest
most_of : (program : Program) (list : List declared.Task) (x : ℕ) (d : declared.Task) → x < length list → task_bound program (get_or list x d) ≤ greatest_of program list
most_of program [] x d lt = absurd (omega arith)
most_of program (task ∷ list) zero d lt = omega arith
most_of program (task ∷ list) (suc x) d lt = let rest = most_of program list x d (omega arith) in omega arith

-- the task that serves a pick is one of the program's
task_known : (program : Program) (t : ℕ) (running : Option TaskId) → IsAccepted program → t < length program.threads → ForSome running (λ task. IsTaskOf program t task.0) →
    task_by program t running < length program.tasks
task_known program t None accepted known own = accepted.served t known
task_known program t (Some task) accepted known own = (own task refl).0

-- a commit ends the scan
commit_unscanned : (program : Program) (t : ℕ) (m : Model) (there : ScanModel) → m.scan ≡ Some there → IsSome (pending program m t) → (commit program t m).scan ≡ None
commit_unscanned program t m there is some = by_scan m.scan (pending program m t) is some
  where
    by_scan : (o : Option ScanModel) (e : Option Event) → o ≡ Some there → IsSome e →
        (elim o as (λ _. Model) [ None ↦ m | Some found ↦ elim e as (λ _. Model) [ None ↦ m | Some event ↦ committed program t event found.time m ] ]).scan ≡ None
    by_scan None e is some = absurd cc
    by_scan (Some found) None is some = absurd cc
    by_scan (Some found) (Some event) is some = refl

-- what a scan allows, where there is one
abbrev Allowed : (ScanModel → Type 0) → Option ScanModel → Type 0
Allowed P o = elim o [ None ↦ ⊥ | Some found ↦ P found ]

module _ (s : Setup) (before es : List Entry) (words : Memory) (m : Model) (g : IsSetup s) (b : Background s.program s.readings words m) (room : Lasts 0 m)
    (is_state : after s.program s.readings s.first (before ++ es) ≡ m) where
  -- the state after an entry or none
  abbrev next_model : Option Entry → Model
  next_model o = moved s.program s.readings m o

  next_state : (o : Option Entry) → after s.program s.readings s.first (before ++ noted es o) ≡ next_model o
  next_state o =
      ap (λ (l : List Entry). after s.program s.readings s.first l) (noted-behind before es o)
      ∙ (after-noted s.program s.readings s.first (before ++ es) o ∙ ap (λ (z : Model). moved s.program s.readings z o) is_state)

  -- the access that ends a scan, or another one
  scan_paces : (stamp : ℕ) (machine : ScanMachine) (steps : ℕ) → ScanHolds s.program words m machine → scan_result machine.at ≡ None → ScanPaced s before es m machine steps →
      let word = answer words (scan_wants s.program machine.thread.0 machine.at) in
      let o = entry_of_point (scan_point machine.thread machine.at word) in
      Paced s before (noted es o) (next_model o) (kernels.scanned stamp (scan_takes s.program machine.thread machine.time machine.at word)) (steps + 1)
  scan_paces stamp machine steps holds more h =
      by_result (entry_of_point (scan_point machine.thread machine.at (answer words (scan_wants s.program machine.thread.0 machine.at))))
      (perform words (scan_wants s.program machine.thread.0 machine.at))
      (scan_takes s.program machine.thread machine.time machine.at (answer words (scan_wants s.program machine.thread.0 machine.at)))
      (scan_row s before es m machine (answer words (scan_wants s.program machine.thread.0 machine.at)) steps more h)
      (scan_keeps s.program s.readings words m machine b room holds).holds
      (noted_sound s m _ g b.sound (scan_keeps s.program s.readings words m machine b room holds).kept.legal) _ refl
    where
      by_result : (o : Option Entry) (new : Memory) (next : ScanMachine) → Rowed s before es m o (steps + 1) (scan_left s.program next + service_most s.program) →
          ScanHolds s.program new (next_model o) next → IsSound s.program s.readings (next_model o) → (found : Option Scanned) → scan_result next.at ≡ found →
          Paced s before (noted es o) (next_model o) (after_scan stamp next found) (steps + 1)
      by_result o new next row holds sound None is = inr row
      by_result o new next row holds sound (Some (scanned.Pick pick)) is =
          let picked = scan_ends s.program new (next_model o) next (scanned.Pick pick) holds is in
          let w = row.0 in
          let within = w.within in
          let chain : ForSome pick.running (λ task. IsTaskOf s.program pick.thread.0 task.0) =
          (λ task runs. let of = (sound.threads pick.thread.0 picked.known).chain task (sym picked.running ∙ runs) in (of.known, of.own)) in
          let known : task_of s.program pick < length s.program.tasks = task_known s.program pick.thread.0 pick.running g.accepted picked.known chain in
          let most : task_bound s.program (task_def s.program (task_of s.program pick)) ≤ service_most s.program = most_of s.program s.program.tasks (task_of s.program pick) _ known in
          let begins : left_most s.program (tasks.begin pick stamp) ≤ task_bound s.program (task_def s.program (task_of s.program pick)) =
          left_begins s.program pick stamp g.accepted picked.known chain in (
            (let low : 0 < 8 = omega arith in low),
            inl (picked.scan, picked.scanned, record { answered = w.answered; at = w.at; waits = w.waits; within = omega arith }),
          )
      by_result o new next row holds sound (Some scanned.Quiet) is =
          let quiet = scan_ends s.program new (next_model o) next scanned.Quiet holds is in
          let w = row.0 in
          let within = w.within in
          inl (
            record {
              answered = w.answered + 1;
              has = quiet_answers s before (noted es o) (next_model o) w.answered w.at w.waits (next_state o)
                  (λ t known. row.1 quiet.scan quiet.scanned t (quiet.passed t known).looked) quiet.nothing;
              within = omega arith;
            },
            refl,
          )

  -- a service behind its commit goes on, or hands over to the next scan
  released_paces : (o : Option Entry) (next : TaskMachine) (steps : ℕ) → IsInPage next.buffer.copying → (next_model o).scan ≡ None →
      Rests s before (noted es o) steps (left_most s.program next) → Paced s before (noted es o) (next_model o) (after_task next) steps
  released_paces o next steps inside none h = by_over (is_over next.phase) refl
    where
      by_over : (over : Bool) → is_over next.phase ≡ over → Paced s before (noted es o) (next_model o) (if over then begin_scan (next.stamp + 1) else Task next) steps
      by_over true is = inl (record { answered = h.answered; has = h.has; within = let within = h.within in omega arith }, refl)
      by_over false is = (inside, inr (none, h))

  -- one before it goes on
  waiting_paces : (o : Option Entry) (next : TaskMachine) (steps : ℕ) → IsInPage next.buffer.copying → IsOpen next → (there : ScanModel) → (next_model o).scan ≡ Some there →
      Waiting s before (noted es o) steps (left_most s.program next) → Paced s before (noted es o) (next_model o) (after_task next) steps
  waiting_paces o next steps inside goes there is w =
      subst (λ (over : Bool). Paced s before (noted es o) (next_model o) (if over then begin_scan (next.stamp + 1) else Task next) steps) (sym goes) (inside, inl (there, is, w))

  -- a finished event isn't there while a scan is
  calm_clash : (there : ScanModel) (t : ℕ) → m.scan ≡ Some there → t < length s.program.threads → (thread_of m t).finished ≡ true → ⊥
  calm_clash there t is known finished = let calm : IsCalm s.program m = b.sound.calm there is in let clear : (thread_of m t).finished ≡ false = calm t known in cc

  -- an access without an entry, which isn't the last
  plain_paces : (r next : TaskMachine) (steps : ℕ) → IsOpen next → (left_most s.program next < left_most s.program r) × IsInPage next.buffer.copying →
      TaskPaced s before es m steps (left_most s.program r) → Paced s before es m (after_task next) (steps + 1)
  plain_paces r next steps goes falls (inl h) =
      waiting_paces None next (steps + 1) falls.1 goes h.0 h.1
      (waiting_on s before es m None steps (left_most s.program r) (steps + 1) (left_most s.program next) (λ is. cc) (let lt = falls.0 in omega arith) h.2)
  plain_paces r next steps goes falls (inr h) =
      released_paces None next (steps + 1) falls.1 h.0
      (rests_on s before es m None steps (left_most s.program r) (steps + 1) (left_most s.program next) (let lt = falls.0 in omega arith) h.1)

  -- the commit answers the scan
  commit_paces : (r next : TaskMachine) (steps : ℕ) → Legal s.program s.readings m (entries.Commit r.pick.thread) →
      (left_most s.program next < left_most s.program r) × IsInPage next.buffer.copying → TaskPaced s before es m steps (left_most s.program r) →
      Paced s before (es ++ entries.Commit r.pick.thread ∷ []) (next_model (Some (entries.Commit r.pick.thread))) (after_task next) (steps + 1)
  commit_paces r next steps legal falls (inl h) =
      let w = h.2 in
      released_paces (Some (entries.Commit r.pick.thread)) next (steps + 1) falls.1 (commit_unscanned s.program r.pick.thread.0 m h.0 h.1 legal.2)
      (record {
        answered = w.answered + 1;
        has = commit_answers s before es r.pick.thread w.answered w.at w.waits;
        within = let within = w.within in let lt = falls.0 in omega arith;
      })
  commit_paces r next steps legal falls (inr h) = absurd (unscanned m.scan h.0 legal.1)
    where
      unscanned : (o : Option ScanModel) → o ≡ None → Allowed (λ found. ArePassed s.program m found r.pick.thread.0) o → ⊥
      unscanned None none legal = legal
      unscanned (Some found) none legal = cc

  -- the release comes behind the commit
  release_paces : (r next : TaskMachine) (steps : ℕ) → r.pick.thread.0 < length s.program.threads → (thread_of m r.pick.thread.0).finished ≡ true →
      (left_most s.program next < left_most s.program r) × IsInPage next.buffer.copying → TaskPaced s before es m steps (left_most s.program r) →
      Paced s before (es ++ entries.Release r.pick.thread ∷ []) (next_model (Some (entries.Release r.pick.thread))) (after_task next) (steps + 1)
  release_paces r next steps known finished falls (inl h) = absurd (calm_clash h.0 r.pick.thread.0 h.1 known finished)
  release_paces r next steps known finished falls (inr h) =
      released_paces (Some (entries.Release r.pick.thread)) next (steps + 1) falls.1 h.0
      (rests_on s before es m (Some (entries.Release r.pick.thread)) steps (left_most s.program r) (steps + 1) (left_most s.program next) (let lt = falls.0 in omega arith) h.1)

  -- the accesses of a service, by its phase
  task_paces : (r : TaskMachine) (word steps : ℕ) → Knows s.program words m r → is_over r.phase ≡ false → MayNote s.program s.readings m (entry_of_point (tasks.point r)) →
      IsInPage r.buffer.copying → TaskPaced s before es m steps (left_most s.program r) →
      let o = entry_of_point (tasks.point r) in Paced s before (noted es o) (next_model o) (after_task (tasks.take s.program r word)) (steps + 1)
  task_paces r word steps knows more legal inside h =
      let fits = every_task_fits s.program s.readings words m r b room knows more in
      by_phase (tasks.take s.program r word) r.phase knows more legal (stays_open s.program r word more) (left_falls s.program r word g.accepted fits.wants inside)
    where
      by_phase : (next : TaskMachine) (p : Phase) → KnowsAt s.program words m r p → is_over p ≡ false → MayNote s.program s.readings m (entry_of_point (point_at r p)) →
          ((IsLate p → ⊥) → IsOpen next) → (left_most s.program next < left_most s.program r) × IsInPage next.buffer.copying →
          let o = entry_of_point (point_at r p) in Paced s before (noted es o) (next_model o) (after_task next) (steps + 1)
      by_phase next phase.StoreCommit knows more legal goes falls = commit_paces r next steps legal falls h
      by_phase next phase.StoreEmpty knows more legal goes falls = release_paces r next steps knows.2.known knows.2.finishing.finished falls h
      by_phase next phase.Over knows more legal goes falls = absurd (false≢true (sym more))
      by_phase next _ knows more legal goes falls = plain_paces r next steps (goes (λ late. late)) falls h

  -- each access of the kernel
  pub kernel_paces : (kernel : Kernel) (steps : ℕ) → KernelHolds s.program words m kernel →
      (let word = answer words (wants s.program kernel) in MayNote s.program s.readings m (entry_of_point (point_found s.program kernel word))) → Paced s before es m kernel steps →
      let word = answer words (wants s.program kernel) in
      let o = entry_of_point (point_found s.program kernel word) in
      Paced s before (noted es o) (next_model o) (takes s.program kernel word) (steps + 1)
  kernel_paces (Boot boot) steps holds legal h = boot_paces s before es m words boot steps b holds.0 holds.1 h
  kernel_paces (Scan stamp machine) steps holds legal h = scan_paces stamp machine steps holds.1 holds.2 h
  kernel_paces (Task r) steps holds legal h = task_paces r (answer words (tasks.want s.program r)) steps holds.0 holds.1 legal h.0 h.1
