-- What a charge has answered by its accesses so far, and what the accesses of sources and clock leave of it.
use Rattle.kernel_core.proofs.Common.{◌≡◌, ◌≢◌, inl, inr, ℕ, zero, suc, ◌+◌, ◌*◌, ◌<◌, ◌≤◌, List, length, Option, Some, ◌∙◌, arith, cases_lt, Entry, Memory, Model, noted, Background, Lasts, Follows, every_task_fits, Kernel, Boot, Scan, Task, ChargeRecord, Setup, KernelHolds}
use Rattle.std.proofs.Math.Nat.{mul-le-mul_right}
use Rattle.ink_base.specs.declared.entry.Entry.TheVariants as entries
use Rattle.never_cut.specs.Bounds.{boot_bound, round_bound}
use Rattle.reboot.specs.kept.LeftMost.{boot_left}
use Rattle.reboot.proofs.LeftFalls.{boot_left-follows}
use Rattle.priority_sched.specs.kept.LeftMost.{scan_left}
use Rattle.priority_sched.proofs.LeftFalls.{scan_falls}
use Rattle.task_run.specs.kept.LeftMost.{left_most}
use Rattle.task_run.proofs.LeftFalls.{left_falls}
use Rattle.kernel_core.specs.Scanned.{entry_at}
use Rattle.kernel_core.specs.Answered.{HasAnswered, IsPaced}
use Rattle.kernel_core.proofs.Answers.{fewer_answered, looks_stay}
use Rattle.kernel_core.proofs.Paces.{service_most, Rests, Waiting, Paced, rests_on, waiting_on}

-- fewer rounds fit
fewer_rounds : (count answered round : ℕ) → 1 ≤ round → count * round < answered * round + round → count ≤ answered
fewer_rounds count answered round some lt =
    elim (cases_lt answered count) [
      | inl more ↦ absurd (let next : answered + 1 ≤ count = omega arith in let le : (answered + 1) * round ≤ count * round = mul-le-mul_right round next in omega arith)
      | inr le ↦ le
    ]

-- what was made in a charge at rest is within the boot and the rounds of its answered scans
rested : (s : Setup) (before : List Entry) (c : ChargeRecord) (left : ℕ) → Rests s before c.entries c.kernel_steps left → IsPaced s before c
rested s before c left h = record { boots = λ more. by_count h.answered h.has (let within = h.within in omega arith); answers = answers }
  where
    by_count : (count : ℕ) → HasAnswered s before c.entries count → boot_bound s.program < boot_bound s.program + count * round_bound s.program →
        (j : ℕ) × (j < length c.entries) × (entry_at c.entries j ≡ entries.Scan)
    by_count zero has lt = absurd (omega arith)
    by_count (suc n) has lt =
        let first = has.answered 0 (omega arith) in
        let behind = first.behind in
        let within = first.within in
        (has.place 0, omega arith, first.scan)

    answers : (count : ℕ) → boot_bound s.program + count * round_bound s.program ≤ c.kernel_steps → HasAnswered s before c.entries count
    answers count enough =
        let within = h.within in
        fewer_answered s before c.entries h.answered count (fewer_rounds count h.answered (round_bound s.program) (omega arith) (omega arith)) h.has

waited : (s : Setup) (before : List Entry) (c : ChargeRecord) (left : ℕ) → 1 ≤ left → Waiting s before c.entries c.kernel_steps left → IsPaced s before c
waited s before c left some h = record {
  boots = λ more. (h.at, h.waits.within, h.waits.scan);
  answers = λ count enough.
      let within = h.within in
      fewer_answered s before c.entries h.answered count (fewer_rounds count h.answered (round_bound s.program) (omega arith) (omega arith)) h.waits.has;
}

-- the charge at hand is within the bound
pub paced_now : (s : Setup) (before : List Entry) (c : ChargeRecord) (words : Memory) (m : Model) (kernel : Kernel) → Background s.program s.readings words m → Lasts 0 m →
    KernelHolds s.program words m kernel → Paced s before c.entries m kernel c.kernel_steps → IsPaced s before c
paced_now s before c words m (Boot boot) b room holds h = rested s before c (boot_left s.program m boot) h
paced_now s before c words m (Scan stamp machine) b room holds (inl h) = rested s before c 0 h.0
paced_now s before c words m (Scan stamp machine) b room holds (inr h) =
    let falls = scan_falls s.program machine 0 holds.2 in waited s before c (scan_left s.program machine + service_most s.program) (omega arith) h.0
paced_now s before c words m (Task r) b room holds (inside, inl h) =
    let fits = every_task_fits s.program s.readings words m r b room holds.0 holds.1 in
    let falls = (left_falls s.program r 0 b.accepted fits.wants inside).0 in
    waited s before c (left_most s.program r) (omega arith) h.2
paced_now s before c words m (Task r) b room holds (inside, inr h) = rested s before c (left_most s.program r) h.1

-- the accesses of the others leave it so
pub paced_beside : (s : Setup) (before es : List Entry) (m next : Model) (o : Option Entry) (kernel : Kernel) (steps : ℕ) → o ≢ Some entries.Scan → Follows m next →
    Paced s before es m kernel steps → Paced s before (noted es o) next kernel steps
unfolding waiting_on
paced_beside s before es m next o (Boot boot) steps other f h =
    let same = boot_left-follows s.program m next boot f in rests_on s before es m o steps (boot_left s.program m boot) steps (boot_left s.program next boot) (omega arith) h
paced_beside s before es m next o (Scan stamp machine) steps other f (inl h) = inl (rests_on s before es m o steps 0 steps 0 (omega arith) h.0, h.1)
paced_beside s before es m next o (Scan stamp machine) steps other f (inr h) =
    let left : ℕ = scan_left s.program machine + service_most s.program in
    inr (waiting_on s before es m o steps left steps left other (omega arith) h.0, looks_stay es o h.0.at m.scan next.scan f.scan h.1)
paced_beside s before es m next o (Task r) steps other f (inside, inl h) =
    (inside, inl (h.0, f.scan ∙ h.1, waiting_on s before es m o steps (left_most s.program r) steps (left_most s.program r) other (omega arith) h.2))
paced_beside s before es m next o (Task r) steps other f (inside, inr h) =
    (inside, inr (f.scan ∙ h.0, rests_on s before es m o steps (left_most s.program r) steps (left_most s.program r) (omega arith) h.1))
