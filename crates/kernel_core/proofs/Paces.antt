-- Each access of the kernel keeps to the bound: what was made in the charge and what is left at most, against the boot and the rounds that its scans allow.
use Rattle.kernel_core.proofs.Common.{◌≡◌, ◌≢◌, ◌⊎◌, inl, inr, ℕ, ◌+◌, ◌*◌, ◌<◌, ◌≤◌, true, List, [], length, Option, Some, None, refl, sym, subst, arith, ThreadId, Event, Entry, Memory, answer, slot_in, entry_of_point, Program, Model, ScanModel, moved, noted, Background, boot_stamp, boot_wants, boot_takes, boot_point, BootHolds, BootMachine, scan_result, scan_takes, scan_point, look_point, event_at, ScanAt, Kernel, Boot, Scan, Task, after_boot, booted, Setup}
use Rattle.std.proofs.lemmas.Bool.{false≢true}
use Rattle.ink_base.specs.declared.entry.Entry.TheVariants as entries
use Rattle.never_cut.specs.Bounds.{boot_bound, round_bound, greatest_of}
use Rattle.never_cut.specs.State.{is_looked}
use Rattle.reboot.specs.kept.LeftMost.{boot_left}
use Rattle.reboot.proofs.LeftFalls.{boot_falls}
use Rattle.priority_sched.specs.kept.LeftMost.{left_at, scan_left}
use Rattle.priority_sched.specs.declared.machine.ScanMachine.{ScanMachine}
use Rattle.priority_sched.specs.declared.scan_at.ScanAt.TheVariants as scan
use Rattle.priority_sched.proofs.LeftFalls.{scan_falls}
use Rattle.task_run.specs.kept.LeftMost.{IsInPage, left_most}
use Rattle.kernel_core.specs.Answered.{HasAnswered}
use Rattle.kernel_core.proofs.Answers.{answers_stay, Waits, waits_begin, waits_stay, AreNoted, looks_more}

-- the greatest bound of a service
abbrev pub service_most : Program → ℕ
service_most program = greatest_of program program.tasks

-- so many accesses were made and so many are left at most: within the boot and a round of each scan that was answered
pub record Rests (s : Setup) (before es : List Entry) (steps left : ℕ) : Type 0 where
  pub answered : ℕ
  pub has : HasAnswered s before es answered
  pub within : steps + left ≤ boot_bound s.program + answered * round_bound s.program

-- or also within that of the last scan, which waits for its answer
pub record Waiting (s : Setup) (before es : List Entry) (steps left : ℕ) : Type 0 where
  pub answered : ℕ
  pub at : ℕ
  pub waits : Waits s before es answered at
  pub within : steps + left ≤ boot_bound s.program + answered * round_bound s.program + round_bound s.program

-- a scan that is yet to load the clock, or one that has, whose looks are noted
abbrev pub ScanPaced : Setup → (before es : List Entry) → Model → ScanMachine → (steps : ℕ) → Type 0
ScanPaced s before es m machine steps =
    (Rests s before es steps 0 × (machine.at ≡ scan.Clock))
    ⊎ ((w : Waiting s before es steps (scan_left s.program machine + service_most s.program)) × AreNoted es w.at m.scan)

-- a service before its commit, where the scan is there, or behind it
abbrev pub TaskPaced : Setup → (before es : List Entry) → Model → (steps left : ℕ) → Type 0
TaskPaced s before es m steps left =
    ((there : ScanModel) × (m.scan ≡ Some there) × Waiting s before es steps left) ⊎ ((m.scan ≡ None) × Rests s before es steps left)

-- what is so of each machine
abbrev pub Paced : Setup → (before es : List Entry) → Model → Kernel → (steps : ℕ) → Type 0
Paced s before es m (Boot boot) steps = Rests s before es steps (boot_left s.program m boot)
Paced s before es m (Scan stamp machine) steps = ScanPaced s before es m machine steps
Paced s before es m (Task r) steps = IsInPage r.buffer.copying × TaskPaced s before es m steps (left_most s.program r)

module _ (s : Setup) (before es : List Entry) (m : Model) where
  -- the state after an entry or none
  abbrev next_model : Option Entry → Model
  next_model o = moved s.program s.readings m o

  pub rests_on : (o : Option Entry) (steps left more rest : ℕ) → more + rest ≤ steps + left → Rests s before es steps left → Rests s before (noted es o) more rest
  rests_on o steps left more rest le h = record { answered = h.answered; has = answers_stay s before es o h.answered h.has; within = let within = h.within in omega arith }

  unfoldable pub waiting_on : (o : Option Entry) (steps left more rest : ℕ) → o ≢ Some entries.Scan → more + rest ≤ steps + left → Waiting s before es steps left → Waiting s before (noted es o) more rest
  waiting_on o steps left more rest other le h = record {
    answered = h.answered;
    at = h.at;
    waits = waits_stay s before es o h.answered h.at other h.waits;
    within = let within = h.within in omega arith;
  }

  -- a boot
  pub boot_paces : (words : Memory) (boot : BootMachine) (steps : ℕ) → Background s.program s.readings words m → BootHolds s.program words m boot → boot_stamp boot ≡ None →
      Rests s before es steps (boot_left s.program m boot) →
      let o = entry_of_point (boot_point boot.thread boot.at) in
      Paced s before (noted es o) (next_model o) (booted (boot_takes s.program boot.thread boot.stamp boot.at (answer words (boot_wants s.program boot.thread.0 boot.at)))) (steps + 1)
  boot_paces words boot steps b holds more h =
      by_stamp (boot_takes s.program boot.thread boot.stamp boot.at (answer words (boot_wants s.program boot.thread.0 boot.at)))
      (boot_falls s.program s.readings words m boot b holds more) _
    where
      by_stamp : (next : BootMachine) → let o = entry_of_point (boot_point boot.thread boot.at) in boot_left s.program (next_model o) next < boot_left s.program m boot →
          (found : Option ℕ) → Paced s before (noted es o) (next_model o) (after_boot next found) (steps + 1)
      by_stamp next falls None = rests_on (entry_of_point (boot_point boot.thread boot.at)) steps (boot_left s.program m boot) (steps + 1) _ (omega arith) h
      by_stamp next falls (Some stamp) = inl (rests_on (entry_of_point (boot_point boot.thread boot.at)) steps (boot_left s.program m boot) (steps + 1) 0 (omega arith) h, refl)

  -- a row of a scan, after which the scan waits with its looks noted
  abbrev pub Rowed : Option Entry → (steps left : ℕ) → Type 0
  Rowed o steps left = (w : Waiting s before (noted es o) steps left) × AreNoted (noted es o) w.at (next_model o).scan

  -- the load of the clock begins it
  clock_row : (answered steps left : ℕ) → HasAnswered s before es answered →
      steps + left ≤ boot_bound s.program + answered * round_bound s.program + round_bound s.program → Rowed (Some entries.Scan) steps left
  clock_row answered steps left has within = (
    record { answered = answered; at = length es; waits = waits_begin s before es answered has; within = within },
    λ found is t looked.
        let same : record { time = m.clock; looked = [] } ≡ found = cc in
        absurd (false≢true (subst (λ (z : ScanModel). is_looked z.looked t ≡ true) (sym same) looked)),
  )

  -- an access without an entry leaves it
  plain_row : (steps left more rest : ℕ) → more + rest ≤ steps + left → (w : Waiting s before es steps left) → AreNoted es w.at m.scan → Rowed None more rest
  unfolding waiting_on
  plain_row steps left more rest le w looks = (waiting_on None steps left more rest (λ is. cc) le w, looks)

  look_row : (thread : ThreadId) (found : Option Event) (steps left more rest : ℕ) → more + rest ≤ steps + left → (w : Waiting s before es steps left) → AreNoted es w.at m.scan →
      Rowed (entry_of_point (look_point thread found)) more rest
  unfolding waiting_on
  look_row thread None steps left more rest le w looks = (
    waiting_on (Some (entries.Look thread)) steps left more rest (λ is. cc) le w,
    looks_more es thread w.at m.scan w.waits.within looks,
  )
  look_row thread (Some e) steps left more rest le w looks = plain_row steps left more rest le w looks

  waiting_row : (thread : ThreadId) (time : ℕ) (at : ScanAt) (word steps : ℕ) → let next = scan_takes s.program thread time at word in
      scan_left s.program next < left_at s.program thread.0 at →
      (w : Waiting s before es steps (left_at s.program thread.0 at + service_most s.program)) → AreNoted es w.at m.scan →
      Rowed (entry_of_point (scan_point thread at word)) (steps + 1) (scan_left s.program next + service_most s.program)
  waiting_row thread time scan.Clock word steps falls w looks = clock_row w.answered (steps + 1) _ w.waits.has (let within = w.within in omega arith)
  waiting_row thread time (scan.Slot c p) word steps falls w looks = look_row thread (event_at p (slot_in word)) steps _ (steps + 1) _ (omega arith) w looks
  waiting_row thread time _ word steps falls w looks = plain_row steps _ (steps + 1) _ (omega arith) w looks

  fresh_row : (thread : ThreadId) (time : ℕ) (at : ScanAt) (word steps : ℕ) → at ≡ scan.Clock → let next = scan_takes s.program thread time at word in
      scan_left s.program next < left_at s.program thread.0 at → Rests s before es steps 0 →
      Rowed (entry_of_point (scan_point thread at word)) (steps + 1) (scan_left s.program next + service_most s.program)
  fresh_row thread time scan.Clock word steps is falls h = clock_row h.answered (steps + 1) _ h.has (let within = h.within in omega arith)
  fresh_row thread time _ word steps is falls h = absurd cc

  pub scan_row : (machine : ScanMachine) (word steps : ℕ) → scan_result machine.at ≡ None → ScanPaced s before es m machine steps →
      Rowed (entry_of_point (scan_point machine.thread machine.at word)) (steps + 1)
      (scan_left s.program (scan_takes s.program machine.thread machine.time machine.at word) + service_most s.program)
  scan_row machine word steps more h =
      let falls = scan_falls s.program machine word more in
      elim h [
        | inl fresh ↦ fresh_row machine.thread machine.time machine.at word steps fresh.1 falls fresh.0
        | inr waiting ↦ waiting_row machine.thread machine.time machine.at word steps falls waiting.0 waiting.1
      ]
