-- The accesses of a charge up to its first commit, by what each service costs.
use Rattle.fram_words.proofs.Accesses.{finds_there}
use Rattle.fram_words.specs.Places.{Memory, answer, place_of}
use Rattle.ink_base.specs.declared.entry.Entry.{Entry}
use Rattle.ink_layout.proofs.Regions.{valid}
use Rattle.ink_layout.specs.Points.{entry_of_point}
use Rattle.kernel_core.specs.Board.{Setup, Board, shape, finds, kernel_access, kernel_turn, row_of}
use Rattle.kernel_core.specs.First.{IsSetup}
use Rattle.kernel_core.specs.Kernel.{wants, takes, point_found, after_boot, after_scan}
use Rattle.kernel_core.specs.Stands.{memory, state}
use Rattle.kernel_core.specs.declared.kernel.Kernel.{Kernel}
use Rattle.kernel_core.specs.declared.kernel.Kernel.TheVariants.{Boot, Scan, Task}
use Rattle.kernel_core.specs.kept.Holds.{Holds, KernelHolds}
use Rattle.never_cut.specs.Journal.{noted, MayNote}
use Rattle.never_cut.specs.Sound.{IsSound}
use Rattle.never_cut.specs.Within.{Lasts}
use Rattle.never_cut.specs.declared.model.Model.{Model}
use Rattle.never_cut.specs.kept.Picked.{IsPicked}
use Rattle.priority_sched.specs.Scan.{scan_takes, scan_result}
use Rattle.reboot.specs.Boot.{boot_takes, boot_stamp}
use Rattle.reboot.specs.declared.machine.BootMachine.{BootMachine}
use Rattle.std.proofs.Common.{◌≡◌, ◌⊎◌, inl, inr, ℕ, zero, suc, ◌+◌, ◌*◌, ◌-◌, ◌<◌, ◌≤◌, true, List, length, Option, Some, None, refl, sym, ap, ◌∙◌, subst, arith}
use Rattle.task_run.specs.Knows.{Knows, KnowsAt}
use Rattle.task_run.specs.Machine.{first_phase}
use Rattle.task_run.specs.declared.machine.TaskMachine.{TaskMachine}
use Rattle.std.proofs.lemmas.Bool.{false≢true}
use Rattle.ink_base.specs.declared.actor.Actor.TheVariants as actors
use Rattle.ink_base.specs.declared.entry.Entry.TheVariants as entries
use Rattle.ink_base.specs.declared.ids.TaskId.{TaskId}
use Rattle.ink_layout.specs.declared.pick.Pick.{Pick}
use Rattle.ink_layout.specs.declared.kernel_point.KernelPoint.TheVariants as kernel_points
use Rattle.never_cut.specs.Bounds.{boot_bound, scan_bound, round_bound}
use Rattle.never_cut.specs.Cost.{cost}
use Rattle.never_cut.specs.Entries.{Legal, ArePassed}
use Rattle.never_cut.specs.declared.scan_model.ScanModel.{ScanModel}
use Rattle.priority_sched.specs.kept.LeftMost.{scan_left}
use Rattle.priority_sched.specs.declared.machine.ScanMachine.{ScanMachine}
use Rattle.priority_sched.specs.declared.scanned.Scanned.{Scanned}
use Rattle.priority_sched.specs.declared.scanned.Scanned.TheVariants as scanned
use Rattle.task_run.specs.Machine.{begin}
use Rattle.task_run.specs.Remaining.{is_committed}
use Rattle.kernel_core.specs.Answered.{HasAnswered}
use Rattle.kernel_core.specs.Costed.{IsServed, next_point}
use Rattle.kernel_core.proofs.Answers.{answers_stay, fewer_answered, commit_answers}
use Rattle.kernel_core.proofs.Costed.{pick_costs, turn_counts}
use Rattle.kernel_core.proofs.KernelPlaces.{kernel_on}
use Rattle.kernel_core.proofs.KernelTurns.{kernel_steps}
use Rattle.kernel_core.proofs.Turns.{background_of, kernel_goes}
use Rattle.kernel_core.proofs.Paces.{Paced, Waiting, TaskPaced, ScanPaced, service_most, scan_row}

-- no service costs more
abbrev pub CostsWithin : Setup → (most : ℕ) → Type 0
CostsWithin s most = (m : Model) (t : ℕ) → IsSound s.program s.readings m → t < length s.program.threads → cost s.program m t ≤ most

-- where a service is left, it and what was made before it are within a boot, a scan and the greatest service
abbrev pub Counts : Setup → (most : ℕ) → Board → (steps : ℕ) → Kernel → Type 0
Counts s most b steps (Task r) = (pick : Pick) × (n : ℕ) × IsServed s b pick n × (0 < n) × (steps + n ≤ boot_bound s.program + scan_bound s.program + most)
Counts s most b steps _ = Unit {0}

-- so it is unless a scan was answered
abbrev pub NearBy : Setup → (most : ℕ) → Board → (before es : List Entry) → (steps : ℕ) → Kernel → Type 0
NearBy s most b before es steps kernel = HasAnswered s before es 1 ⊎ Counts s most b steps kernel

-- what the registers know where a pick begins
picked_at : (s : Setup) (words : Memory) (m : Model) (pick : Pick) (stamp : ℕ) → Knows s.program words m (begin pick stamp) → IsPicked s.program words m pick
picked_at s words m pick stamp knows = by_running pick.running knows
  where
    by_running : (running : Option TaskId) → KnowsAt s.program words m (begin pick stamp) (first_phase running) → IsPicked s.program words m pick
    by_running None h = h.picked
    by_running (Some task) h = h.picked

-- a service that begins has something left
begun_left : (s : Setup) (b : Board) (pick : Pick) (stamp n : ℕ) → b.kernel ≡ Task (begin pick stamp) → IsServed s b pick n → 0 < n
begun_left s b pick stamp zero is served =
    let same : served.machine ≡ begin pick stamp = (let both : Task served.machine ≡ Task (begin pick stamp) = sym served.serves ∙ is in cc) in
    let over : is_committed (begin pick stamp).phase ≡ true = subst (λ (r : TaskMachine). is_committed r.phase ≡ true) same served.remains.commits in
    absurd (by_running pick.running over)
  where
    by_running : (running : Option TaskId) → is_committed (first_phase running) ≡ true → ⊥
    by_running None over = false≢true over
    by_running (Some task) over = false≢true over
begun_left s b pick stamp (suc n) is served = omega arith

module _ (s : Setup) (count : ℕ) (b : Board) (most : ℕ) (g : IsSetup s) (h : Holds s count b) (some : 0 < b.begun) (room : Lasts 0 (state s b)) (costs : CostsWithin s most)
    (before es : List Entry) (steps : ℕ) where
  abbrev pub word : ℕ
  word = finds b (kernel_access s b)

  abbrev pub entry : Option Entry
  entry = entry_of_point (point_found s.program b.kernel word)

  abbrev pub next : Board
  next = kernel_turn s b

  next_holds : Holds s count next
  next_holds = (kernel_goes s count b g h some room).holds

  abbrev Nearer : Type 0
  Nearer = NearBy s most next before (noted es entry) (steps + 1) next.kernel

  -- a boot
  boot_near : (boot : BootMachine) → b.kernel ≡ Boot boot → Nearer
  boot_near boot is =
      inr (subst (λ (k : Kernel). Counts s most next (steps + 1) k) (sym (ap (λ (k : Kernel). takes s.program k word) is))
      (by_stamp (boot_takes s.program boot.thread boot.stamp boot.at word) (boot_stamp (boot_takes s.program boot.thread boot.stamp boot.at word))))
    where
      by_stamp : (machine : BootMachine) (found : Option ℕ) → Counts s most next (steps + 1) (after_boot machine found)
      by_stamp machine None = tt
      by_stamp machine (Some stamp) = tt

  -- a scan that picks: what was made is within a boot and a scan
  pick_near : (pick : Pick) (stamp left : ℕ) → next.kernel ≡ Task (begin pick stamp) → Waiting s before (noted es entry) (steps + 1) (left + service_most s.program) → Nearer
  pick_near pick stamp left is w = by_answered w.answered w.waits.has w.within
    where
      picked : IsPicked s.program (memory s next) (state s next) pick
      picked = picked_at s (memory s next) (state s next) pick stamp (subst (λ (k : Kernel). KernelHolds s.program (memory s next) (state s next) k) is next_holds.registers).0

      by_answered : (n : ℕ) → HasAnswered s before (noted es entry) n → steps + 1 + (left + service_most s.program) ≤ boot_bound s.program + n * round_bound s.program + round_bound s.program → Nearer
      by_answered zero has within =
          let served = pick_costs s count next g next_holds pick (stamp, is) in
          let few = costs (state s next) pick.thread.0 (background_of s count next g next_holds).sound picked.known in
          inr (subst (λ (k : Kernel). Counts s most next (steps + 1) k) (sym is)
          (pick, cost s.program (state s next) pick.thread.0, served, begun_left s next pick stamp (cost s.program (state s next) pick.thread.0) is served, omega arith))
      by_answered (suc n) has within = inl (fewer_answered s before (noted es entry) (suc n) 1 (omega arith) has)

  scan_near : (stamp : ℕ) (machine : ScanMachine) → b.kernel ≡ Scan stamp machine → ScanPaced s before es (state s b) machine steps → Nearer
  scan_near stamp machine is paced =
      by_found (scan_result (scan_takes s.program machine.thread machine.time machine.at word).at) (ap (λ (k : Kernel). takes s.program k word) is)
    where
      more : scan_result machine.at ≡ None
      more = (subst (λ (k : Kernel). KernelHolds s.program (memory s b) (state s b) k) is h.registers).2

      row : Waiting s before (noted es entry) (steps + 1) (scan_left s.program (scan_takes s.program machine.thread machine.time machine.at word) + service_most s.program)
      row =
          subst (λ (o : Option Entry). Waiting s before (noted es o) (steps + 1) (scan_left s.program (scan_takes s.program machine.thread machine.time machine.at word) + service_most s.program))
          (sym (ap (λ (k : Kernel). entry_of_point (point_found s.program k word)) is)) (scan_row s before es (state s b) machine word steps more paced).0

      by_found : (found : Option Scanned) → next.kernel ≡ after_scan stamp (scan_takes s.program machine.thread machine.time machine.at word) found → Nearer
      by_found None kernel = inr (subst (λ (k : Kernel). Counts s most next (steps + 1) k) (sym kernel) tt)
      by_found (Some scanned.Quiet) kernel = inr (subst (λ (k : Kernel). Counts s most next (steps + 1) k) (sym kernel) tt)
      by_found (Some (scanned.Pick pick)) kernel = pick_near pick stamp (scan_left s.program (scan_takes s.program machine.thread machine.time machine.at word)) kernel row

  -- the last access of a service up to its commit answers the scan
  commit_near : (pick : Pick) → next_point s b ≡ kernel_points.Commit pick.thread → (left : ℕ) → TaskPaced s before es (state s b) steps left → Nearer
  commit_near pick is left (inl (there, scan, w)) =
      let noted_is : entry ≡ Some (entries.Commit pick.thread) = ap entry_of_point is in
      let has = commit_answers s before es pick.thread w.answered w.at w.waits in
      inl (subst (λ (o : Option Entry). HasAnswered s before (noted es o) 1) (sym noted_is)
      (fewer_answered s before (noted es (Some (entries.Commit pick.thread))) (w.answered + 1) 1 (omega arith) has))
  commit_near pick is left (inr (none, rests)) = absurd (unscanned (state s b).scan none legal.1)
    where
      found : finds b (kernel_access s b) ≡ answer (memory s b) (wants s.program b.kernel)
      found =
          let on = kernel_on s (memory s b) (state s b) b.kernel g (background_of s count b g h) room h.registers in
          finds_there (shape s) b.words (wants s.program b.kernel) (valid s.program (place_of (wants s.program b.kernel)) on)

      legal : Legal s.program s.readings (state s b) (entries.Commit pick.thread)
      legal =
          let may = (kernel_steps s (memory s b) (state s b) (row_of b) b.kernel g (background_of s count b g h) room h.registers).kept.legal in
          let here : MayNote s.program s.readings (state s b) entry = subst (λ (v : ℕ). MayNote s.program s.readings (state s b) (entry_of_point (point_found s.program b.kernel v))) (sym found) may in
          subst (λ (o : Option Entry). MayNote s.program s.readings (state s b) o) (ap entry_of_point is) here

      unscanned : (o : Option ScanModel) → o ≡ None → (elim o as (λ _. Type 0) [ None ↦ ⊥ | Some scan ↦ ArePassed s.program (state s b) scan pick.thread.0 ]) → ⊥
      unscanned None none legal = legal
      unscanned (Some scan) none legal = cc

  task_near : (pick : Pick) (n : ℕ) → IsServed s b pick n → 0 < n → steps + n ≤ boot_bound s.program + scan_bound s.program + most → (left : ℕ) → TaskPaced s before es (state s b) steps left → Nearer
  task_near pick zero served positive within left paced = absurd (omega arith)
  task_near pick (suc zero) served positive within left paced = commit_near pick (served.commits.1 refl) left paced
  task_near pick (suc (suc n)) served positive within left paced =
      let after = turn_counts s count b actors.Kernel g h room tt pick (suc (suc n)) served (omega arith) in
      inr (subst (λ (k : Kernel). Counts s most next (steps + 1) k) (sym after.serves) (pick, suc (suc n) - 1, after, omega arith, omega arith))

  -- each access of the kernel
  pub kernel_near : (k : Kernel) → b.kernel ≡ k → NearBy s most b before es steps k → Paced s before es (state s b) k steps → Nearer
  kernel_near k is (inl has) paced = inl (answers_stay s before es entry 1 has)
  kernel_near (Boot boot) is (inr counts) paced = boot_near boot is
  kernel_near (Scan stamp machine) is (inr counts) paced = scan_near stamp machine is paced
  kernel_near (Task r) is (inr (pick, n, served, positive, within)) paced = task_near pick n served positive within _ paced.1
