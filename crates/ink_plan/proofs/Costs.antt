-- No service costs more than the bound of its task.
use Rattle.std.proofs.Common.{◌≡◌, ℕ, ◌+◌, ◌*◌, ◌/◌, ◌<◌, ◌≤◌, Bool, true, false, ◌||◌, not, [], ◌∷◌, length, get_or, Option, Some, None, refl, ap, ◌∙◌, arith, eqb-true, leb-true}
use Rattle.std.specs.Prelude.{if◌then◌else◌}
use Rattle.std.specs.List.{list_any}
use Rattle.std.proofs.lemmas.Bool.{and_parts}
use Rattle.ink_base.specs.declared.ids.TaskId.{TaskId}
use Rattle.ink_base.specs.declared.event.Event.{Event}
use Rattle.ink_base.specs.declared.event.Origin.{Origin}
use Rattle.ink_base.specs.declared.event.Origin.TheVariants as origins
use Rattle.fram_words.specs.Header as header
use Rattle.task_isa.specs.declared.outcome.Outcome.{Outcome}
use Rattle.task_isa.specs.declared.outcome.Outcome.TheVariants as outcomes
use Rattle.task_isa.specs.declared.program.Program.{Program}
use Rattle.task_isa.specs.declared.program.Task.{Task}
use Rattle.task_isa.specs.Meaning.{RunEnd, Ended, Trapped, run, first_config, given_of, room_of, task_end}
use Rattle.prog_check.specs.Accepted.{IsAccepted, IsRightTask}
use Rattle.prog_check.specs.Lookup.{thread_def, task_def, first_task}
use Rattle.never_cut.specs.declared.model.Model.{Model}
use Rattle.never_cut.specs.declared.scan_model.ScanModel.{ScanModel}
use Rattle.never_cut.specs.State.{thread_of, is_running}
use Rattle.never_cut.specs.Pending.{pending}
use Rattle.never_cut.specs.Commit.{is_of_queue, is_expired, task_at, start_at, end_at}
use Rattle.never_cut.specs.Cost.{Spent, reads, followed_by, with_copies, consuming, starting, running_at, continuing, ending, serving, cost_of}
use Rattle.never_cut.specs.Entries.{Readings}
use Rattle.never_cut.specs.Sound.{IsSound, IsChain}
use Rattle.never_cut.proofs.Beginnings.{Begins, begins}
use Rattle.task_run.proofs.Acts.{first_own}
use Rattle.ink_layout.specs.Shape.{pages_of}
use Rattle.ink_plan.specs.declared.plan.TaskPlan.{TaskPlan}
use Rattle.ink_plan.specs.declared.plan.EnergyPlan.{EnergyPlan}
use Rattle.ink_plan.specs.Code.{is_forward, greatest_weight, may_trap, can_trap}
use Rattle.ink_plan.specs.Plans.{is_path, weight_of, are_rests, is_forward_plan, is_looped_plan, is_task_plan, bound_of, plan_of, is_plan}
use Rattle.ink_plan.specs.Bounded.{BoundsServices}
use Rattle.ink_plan.proofs.Below.{below_each}
use Rattle.ink_plan.proofs.Closed.{closed}
use Rattle.ink_plan.proofs.Pages.{LieWithin, within_both, pages_most}
use Rattle.ink_plan.proofs.Runs.{forward_takes, looped_takes, run_within, run_well, EndsWell}
use Rattle.ink_plan.proofs.Steps.{IsNoTrap}

-- the task that serves a thread's event
pub record Serves (program : Program) (m : Model) (t x : ℕ) : Type 0 where
  pub known : x < length program.tasks
  pub own : (task_def program x).thread.0 ≡ t

pub task_serves : (program : Program) (readings : Readings) (m : Model) (t : ℕ) → IsAccepted program → IsSound program readings m → t < length program.threads → Serves program m t (task_at program m t)
task_serves program readings m t accepted sound known = by_running (thread_of m t).running refl
  where
    by_running : (running : Option TaskId) → (thread_of m t).running ≡ running → Serves program m t (elim running as (λ _. ℕ) [ Some task ↦ task.0 | None ↦ first_task program t ])
    by_running (Some task) runs = let chain : IsChain program m t task.0 = (sound.threads t known).chain task runs in record { known = chain.known; own = chain.own }
    by_running None idle = let first = accepted.served t known in record { known = first; own = first_own program t first }

-- the parts of a service: what each takes, and that it keeps to the pages
pub record IsPart (most pages : ℕ) (s : Spent) : Type 0 where
  pub takes : s.accesses ≤ most
  pub within : LieWithin pages s.writes

part_both : (a b pages : ℕ) (x y : Spent) → IsPart a pages x → IsPart b pages y → IsPart (a + b) pages (followed_by x y)
part_both a b pages x y first second = record { takes = (let one = first.takes in let two = second.takes in omega arith); within = within_both pages x.writes y.writes first.within second.within }

copies_most : (most pages : ℕ) (x : Spent) → IsPart most pages x → with_copies x ≤ most + 16 * pages
copies_most most pages x part = let takes = part.takes in let few = pages_most pages x.writes part.within in omega arith

-- an end takes up to five
pub end_part : (total pages : ℕ) (e : Event) → total / 8 < pages → 2 ≤ pages → IsPart 5 pages (ending total e)
end_part total pages e inside some = by_queue (is_of_queue e)
  where
    by_queue : (b : Bool) → IsPart 5 pages (if b then record { accesses = 5; writes = header.next ∷ header.finished ∷ total ∷ header.stamp ∷ [] } else record { accesses = 4; writes = header.next ∷ total ∷ header.stamp ∷ [] })
    by_queue true = record { takes = omega arith; within = (omega arith, (omega arith, (inside, (omega arith, tt)))) }
    by_queue false = record { takes = omega arith; within = (omega arith, (inside, (omega arith, tt))) }

pub next_part : (pages : ℕ) → 2 ≤ pages → IsPart 5 pages continuing
next_part pages some = record { takes = omega arith; within = (omega arith, (omega arith, tt)) }

-- an event that can be consumed names a pipe or a timer that is there
abbrev pub IsNear : Origin → Type 0
IsNear (origins.Source source count) = Unit {0}
IsNear (origins.Pipe pipe item) = pipe.0 < 8
IsNear (origins.Timer timer deadline) = timer.0 < 8

start_part : (o : Origin) (pages : ℕ) → 6 ≤ pages → IsNear o → IsPart 5 pages (consuming o)
start_part (origins.Source source count) pages some near = record { takes = omega arith; within = (omega arith, (omega arith, (omega arith, tt))) }
start_part (origins.Pipe pipe item) pages some near = record { takes = omega arith; within = (omega arith, (omega arith, (omega arith, (omega arith, tt)))) }
start_part (origins.Timer timer deadline) pages some near = record { takes = omega arith; within = (omega arith, (omega arith, (omega arith, (omega arith, tt)))) }

-- a service of this outcome, where a trap is paid for twice
serving_most : (outcome : Outcome) (start run : Spent) (e : Event) (code pages : ℕ) → 6 ≤ pages → IsPart 5 pages start → IsPart code pages run →
    serving outcome start run e ≤ code + (16 * pages + 5) + (16 * pages + 5) + 5
serving_most (outcomes.Next task) start run e code pages some starts runs =
    let all = copies_most (5 + (code + 5)) pages _ (part_both 5 (code + 5) pages start _ starts (part_both code 5 pages run continuing runs (next_part pages (omega arith)))) in omega arith
serving_most outcomes.Done start run e code pages some starts runs =
    let all = copies_most (5 + (code + 5)) pages _ (part_both 5 (code + 5) pages start _ starts (part_both code 5 pages run _ runs (end_part header.served pages e (omega arith) (omega arith)))) in omega arith
serving_most (outcomes.Trap trap) start run e code pages some starts runs =
    let first = copies_most (5 + code) pages _ (part_both 5 code pages start run starts runs) in
    let second = copies_most (5 + 5) pages _ (part_both 5 5 pages start _ starts (end_part header.trapped pages e (omega arith) (omega arith))) in
    omega arith

-- and where it doesn't trap
serving_once : (outcome : Outcome) (start run : Spent) (e : Event) (code pages : ℕ) → 6 ≤ pages → IsPart 5 pages start → IsPart code pages run → IsNoTrap outcome →
    serving outcome start run e ≤ code + (16 * pages + 5) + 5
serving_once (outcomes.Next task) start run e code pages some starts runs well =
    let all = copies_most (5 + (code + 5)) pages _ (part_both 5 (code + 5) pages start _ starts (part_both code 5 pages run continuing runs (next_part pages (omega arith)))) in omega arith
serving_once outcomes.Done start run e code pages some starts runs well =
    let all = copies_most (5 + (code + 5)) pages _ (part_both 5 (code + 5) pages start _ starts (part_both code 5 pages run _ runs (end_part header.served pages e (omega arith) (omega arith)))) in omega arith
serving_once (outcomes.Trap trap) start run e code pages some starts runs well = absurd well

neither : (a b : Bool) → (a || b) ≡ false → (a ≡ false) × (b ≡ false)
neither true b is = absurd cc
neither false b is = (refl, is)

untrue : (a : Bool) → not a ≡ false → a ≡ true
untrue true is = refl
untrue false is = absurd cc

-- what is known of a right plan of forward code
pub record HasForward (task : Task) (p : TaskPlan) : Type 0 where
  pub rests : are_rests task p.rest ≡ true
  pub code : p.code ≡ get_or p.rest 0 0
  pub path : is_path task p.path ≡ true
  pub weight : weight_of task p.path ≡ p.code

pub forward_facts : (task : Task) (p : TaskPlan) → is_forward_plan task p ≡ true → HasForward task p
forward_facts task p planned =
    let weighs = and_parts _ _ planned in
    let paths = and_parts _ _ weighs.0 in
    let codes = and_parts _ _ paths.0 in
    let rests = and_parts _ _ codes.0 in
    record { rests = rests.1; code = eqb-true _ _ codes.1; path = paths.1; weight = eqb-true _ _ weighs.1 }

-- the service of a thread's event by its task
module _ (program : Program) (readings : Readings) (m : Model) (t : ℕ) (e : Event) (time : ℕ) (p : TaskPlan) (accepted : IsAccepted program) (sound : IsSound program readings m)
    (thread : t < length program.threads) (begun : is_running (thread_of m t) ≡ false → IsNear e.origin) where
  abbrev task : Task
  task = task_def program (task_at program m t)

  pub serves : Serves program m t (task_at program m t)
  serves = task_serves program readings m t accepted sound thread

  pub right : IsRightTask program task
  right = accepted.tasks (task_at program m t) serves.known

  abbrev pages : ℕ
  pages = pages_of (thread_def program t)

  pub within : LieWithin pages (running_at program m t e time).writes
  within =
      run_within program task (given_of (start_at program m t e time)) (room_of (start_at program m t e time)) task.limit (first_config (thread_of m t).state) (thread_def program t).state
      accepted.counts.pipes accepted.counts.timers right (sound.shape.states t thread)

  -- what forward code takes
  forward_part : HasForward task p → IsPart p.code pages (running_at program m t e time)
  forward_part f =
      let takes =
      forward_takes task p.rest (given_of (start_at program m t e time)) (room_of (start_at program m t e time)) task.limit (first_config (thread_of m t).state) (closed program task right) f.rests right.code
      in
      let is = f.code in
      record { takes = omega arith; within = within }

  -- and other code
  looped_part : p.code ≡ task.limit * greatest_weight task.code → IsPart p.code pages (running_at program m t e time)
  looped_part is =
      let takes = looped_takes task.code (given_of (start_at program m t e time)) (room_of (start_at program m t e time)) task.limit (first_config (thread_of m t).state) right.code in
      record { takes = omega arith; within = within }

  -- its start
  pub starts : IsPart 5 pages (starting (is_running (thread_of m t)) e.origin)
  starts = by_running (is_running (thread_of m t)) begun
    where
      by_running : (running : Bool) → (running ≡ false → IsNear e.origin) → IsPart 5 pages (if running then reads 0 else consuming e.origin)
      by_running true near = record { takes = omega arith; within = tt }
      by_running false near = start_part e.origin pages (omega arith) (near refl)

  -- code that can't trap doesn't
  pub ends_well : is_forward task ≡ true → list_any may_trap task.code ≡ false → IsNoTrap (end_at program m t e time).outcome
  ends_well forward safe =
      let parts = and_parts _ _ forward in
      let enough : length task.code ≤ task.limit = leb-true _ _ parts.0 in
      by_end (run task.code (given_of (start_at program m t e time)) (room_of (start_at program m t e time)) task.limit (first_config (thread_of m t).state))
      (run_well task (given_of (start_at program m t e time)) (room_of (start_at program m t e time)) task.limit (first_config (thread_of m t).state) (closed program task right) parts.1 safe right.code (omega arith))
    where
      by_end : (r : RunEnd) → EndsWell r → IsNoTrap (task_end task.limit (thread_of m t).state r).outcome
      by_end (Ended outcome effects left) well = well
      by_end (Trapped code left) well = absurd well

  -- the service and its commit, by whether the task can trap
  service_most : (traps : Bool) → can_trap task ≡ traps → IsPart p.code pages (running_at program m t e time) →
      serving (end_at program m t e time).outcome (starting (is_running (thread_of m t)) e.origin) (running_at program m t e time) e + 1
      ≤ p.code + (if traps then 2 else 1) * (16 * pages + 5) + 6
  service_most true is runs = let all = serving_most (end_at program m t e time).outcome _ _ e p.code pages (omega arith) starts runs in omega arith
  service_most false is runs =
      let both = neither _ _ is in
      let all = serving_once (end_at program m t e time).outcome _ _ e p.code pages (omega arith) starts runs (ends_well (untrue _ both.0) both.1) in
      omega arith

  -- an expired chain only ends
  expired_most : with_copies (ending header.expired e) + 1 ≤ p.code + (if can_trap task then 2 else 1) * (16 * pages + 5) + 6
  expired_most = by_trap (can_trap task)
    where
      by_trap : (traps : Bool) → with_copies (ending header.expired e) + 1 ≤ p.code + (if traps then 2 else 1) * (16 * pages + 5) + 6
      by_trap true = let all = copies_most 5 pages _ (end_part header.expired pages e (omega arith) (omega arith)) in omega arith
      by_trap false = let all = copies_most 5 pages _ (end_part header.expired pages e (omega arith) (omega arith)) in omega arith

  -- a right plan's bound holds
  pub costs_most : is_task_plan program task p ≡ true → cost_of program m t e time ≤ p.bound
  costs_most planned =
      let parts = and_parts _ _ planned in
      let bound : p.bound ≡ bound_of program task p.code = eqb-true _ _ parts.1 in
      let own : bound_of program task p.code ≡ p.code + (if can_trap task then 2 else 1) * (16 * pages + 5) + 6 =
      ap (λ n. p.code + (if can_trap task then 2 else 1) * (16 * pages_of (thread_def program n) + 5) + 6) serves.own in
      let serve = service_most (can_trap task) refl (by_forward (is_forward task) parts.0) in
      let expire = expired_most in
      by_expired (is_expired program m t time) p.bound (bound ∙ own) serve expire
    where
      by_forward : (forward : Bool) → (if forward then is_forward_plan task p else is_looped_plan task p) ≡ true → IsPart p.code pages (running_at program m t e time)
      by_forward true right = forward_part (forward_facts task p right)
      by_forward false right = let parts = and_parts _ _ right in looped_part (eqb-true _ _ parts.1)

      by_expired : (gone : Bool) (most : ℕ) → most ≡ p.code + (if can_trap task then 2 else 1) * (16 * pages + 5) + 6 →
          serving (end_at program m t e time).outcome (starting (is_running (thread_of m t)) e.origin) (running_at program m t e time) e + 1
          ≤ p.code + (if can_trap task then 2 else 1) * (16 * pages + 5) + 6 →
          with_copies (ending header.expired e) + 1 ≤ p.code + (if can_trap task then 2 else 1) * (16 * pages + 5) + 6 →
          (if gone then with_copies (ending header.expired e) else serving (end_at program m t e time).outcome (starting (is_running (thread_of m t)) e.origin) (running_at program m t e time) e) + 1 ≤ most
      by_expired true most is serve expire = omega arith
      by_expired false most is serve expire = omega arith

-- an event that can begin is near
begun_near : (program : Program) (m : Model) (t time : ℕ) (o : Origin) (value : ℕ) → IsAccepted program → Begins program m t time (record { origin = o; value = value }) → IsNear o
begun_near program m t time (origins.Source source count) value accepted begun = tt
begun_near program m t time (origins.Pipe pipe item) value accepted begun = let known = begun.0 in let few = accepted.counts.pipes in omega arith
begun_near program m t time (origins.Timer timer deadline) value accepted begun = let known = begun.0 in let few = accepted.counts.timers in omega arith

pub idle_near : (program : Program) (readings : Readings) (m : Model) (t : ℕ) (scan : ScanModel) (e : Event) → IsAccepted program → IsSound program readings m → t < length program.threads →
    m.scan ≡ Some scan → pending program m t ≡ Some e → is_running (thread_of m t) ≡ false → IsNear e.origin
idle_near program readings m t scan e accepted sound known is waits idle = by_running (thread_of m t).running refl idle
  where
    by_running : (running : Option TaskId) → (thread_of m t).running ≡ running → (elim running as (λ _. Bool) [ Some task ↦ true | None ↦ false ]) ≡ false → IsNear e.origin
    by_running (Some task) runs idle = absurd cc
    by_running None runs idle =
        begun_near program m t scan.time e.origin e.value accepted
        (begins program m t scan e (sound.threads t known).queued (sound.calm scan is t known) is runs waits)

-- the plan of each task is right
pub task_planned : (program : Program) (plan : EnergyPlan) (x : ℕ) → is_plan program plan ≡ true → x < length program.tasks → is_task_plan program (task_def program x) (plan_of plan x) ≡ true
task_planned program plan x right known =
    let least = and_parts _ _ right in
    let tasks = and_parts _ _ least.0 in
    below_each (λ (k : ℕ). is_task_plan program (task_def program k) (plan_of plan k)) (length program.tasks) tasks.1 x known

-- so each service keeps to the bound of a right plan
pub bounds_services : (program : Program) (plan : EnergyPlan) → IsAccepted program → is_plan program plan ≡ true → BoundsServices program plan
bounds_services program plan accepted whole readings m t sound known = by_scan m.scan refl
  where
    planned : is_task_plan program (task_def program (task_at program m t)) (plan_of plan (task_at program m t)) ≡ true
    planned = task_planned program plan (task_at program m t) whole (task_serves program readings m t accepted sound known).known

    by_event : (scan : ScanModel) → m.scan ≡ Some scan → (found : Option Event) → pending program m t ≡ found →
        (elim found as (λ _. ℕ) [ None ↦ 0 | Some e ↦ cost_of program m t e scan.time ]) ≤ (plan_of plan (task_at program m t)).bound
    by_event scan is None waits = omega arith
    by_event scan is (Some e) waits =
        costs_most program readings m t e scan.time (plan_of plan (task_at program m t)) accepted sound known (idle_near program readings m t scan e accepted sound known is waits) planned

    by_scan : (o : Option ScanModel) → m.scan ≡ o →
        (elim o as (λ _. ℕ) [ None ↦ 0 | Some scan ↦ elim (pending program m t) as (λ _. ℕ) [ None ↦ 0 | Some e ↦ cost_of program m t e scan.time ] ]) ≤ (plan_of plan (task_at program m t)).bound
    by_scan None is = omega arith
    by_scan (Some scan) is = by_event scan is (pending program m t) refl
