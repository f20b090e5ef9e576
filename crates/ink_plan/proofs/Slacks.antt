-- How far a service by straight code stays below its bound.
use Rattle.std.proofs.Common.{◌≡◌, ℕ, ◌+◌, ◌-◌, ◌*◌, ◌<◌, ◌≤◌, Bool, true, false, ◌||◌, not, length, Option, Some, None, refl, sym, ap, ◌∙◌, arith, eqb-true, leb-true}
use Rattle.std.specs.Prelude.{if◌then◌else◌}
use Rattle.std.specs.List.{list_any}
use Rattle.std.proofs.lemmas.Bool.{and_parts, not-true}
use Rattle.ink_base.specs.declared.event.Event.{Event}
use Rattle.fram_words.specs.Header as header
use Rattle.task_isa.specs.declared.outcome.Outcome.{Outcome}
use Rattle.task_isa.specs.declared.outcome.Outcome.TheVariants as outcomes
use Rattle.task_isa.specs.declared.program.Program.{Program}
use Rattle.task_isa.specs.declared.program.Task.{Task}
use Rattle.task_isa.specs.Meaning.{first_config, given_of, room_of}
use Rattle.prog_check.specs.Accepted.{IsAccepted}
use Rattle.prog_check.specs.Lookup.{thread_def, task_def}
use Rattle.ink_layout.specs.Shape.{pages_of}
use Rattle.never_cut.specs.declared.model.Model.{Model}
use Rattle.never_cut.specs.declared.scan_model.ScanModel.{ScanModel}
use Rattle.never_cut.specs.State.{thread_of, is_running}
use Rattle.never_cut.specs.Pending.{pending}
use Rattle.never_cut.specs.Commit.{is_expired, task_at, start_at, end_at}
use Rattle.never_cut.specs.Cost.{Spent, followed_by, with_copies, starting, running_at, ending, serving, cost_of, cost}
use Rattle.never_cut.specs.Entries.{Readings}
use Rattle.never_cut.specs.Sound.{IsSound}
use Rattle.ink_plan.specs.declared.plan.TaskPlan.{TaskPlan}
use Rattle.ink_plan.specs.declared.plan.EnergyPlan.{EnergyPlan}
use Rattle.ink_plan.specs.Code.{is_forward, may_trap, can_trap}
use Rattle.ink_plan.specs.Plans.{is_task_plan, bound_of, plan_of, is_plan}
use Rattle.ink_plan.specs.Slack.{branches, is_straight, refusals_at, ending_of, pages_written, slack, TellsSlack}
use Rattle.ink_plan.proofs.Closed.{closed}
use Rattle.ink_plan.proofs.Costs.{IsNear, IsPart, HasForward, right, serves, within, starts, ends_well, end_part, next_part, idle_near, task_serves, task_planned}
use Rattle.ink_plan.proofs.Heaviest.{forward_of}
use Rattle.ink_plan.proofs.Pages.{within_both, pages_most}
use Rattle.ink_plan.proofs.Steps.{IsNoTrap}
use Rattle.ink_plan.proofs.Straight.{straight_takes}

-- a service that doesn't trap
serving_well : (outcome : Outcome) (start run : Spent) (e : Event) → IsNoTrap outcome → serving outcome start run e ≡ with_copies (followed_by start (followed_by run (ending_of outcome e)))
serving_well (outcomes.Next task) start run e well = refl
serving_well outcomes.Done start run e well = refl
serving_well (outcomes.Trap code) start run e well = absurd well

ends_part : (outcome : Outcome) (pages : ℕ) (e : Event) → 6 ≤ pages → IsPart 5 pages (ending_of outcome e)
ends_part (outcomes.Next task) pages e some = next_part pages (omega arith)
ends_part outcomes.Done pages e some = end_part header.served pages e (omega arith) (omega arith)
ends_part (outcomes.Trap code) pages e some = end_part header.served pages e (omega arith) (omega arith)

-- the parts of a bound and of a cost
sums : (start run end written pages code refused bound spent : ℕ) → start ≤ 5 → end ≤ 5 → written ≤ pages → run + 2 * refused ≡ code → bound ≡ code + (16 * pages + 5) + 6 →
    spent ≡ start + (run + end) + 16 * written + 1 → spent + ((5 - start) + (5 - end) + 2 * refused + 16 * (pages - written)) ≡ bound
sums start run end written pages code refused bound spent starts ends pages_few runs bounds spends = omega arith

paid_once : (code pages : ℕ) → code + 1 * (16 * pages + 5) + 6 ≡ code + (16 * pages + 5) + 6
paid_once code pages = omega arith

cannot : (forward traps : Bool) → forward ≡ true → traps ≡ false → (not forward || traps) ≡ false
cannot true traps is safe = safe
cannot false traps is safe = absurd cc

module _ (program : Program) (readings : Readings) (m : Model) (t : ℕ) (e : Event) (time : ℕ) (p : TaskPlan) (accepted : IsAccepted program) (sound : IsSound program readings m)
    (thread : t < length program.threads) (begun : is_running (thread_of m t) ≡ false → IsNear e.origin) (planned : is_task_plan program (task_def program (task_at program m t)) p ≡ true)
    (live : is_expired program m t time ≡ false) (straight : is_straight (task_def program (task_at program m t)) ≡ true) where
  abbrev task : Task
  task = task_def program (task_at program m t)

  abbrev pages : ℕ
  pages = pages_of (thread_def program t)

  one_path : (is_forward task ≡ true) × (list_any may_trap task.code ≡ false) × (list_any branches task.code ≡ false)
  one_path =
      let parts = and_parts _ _ straight in
      let first = and_parts _ _ parts.0 in
      (first.0, not-true _ first.1, not-true _ parts.1)

  facts : HasForward task p
  facts = forward_of task p (is_forward task) one_path.0 (and_parts _ _ planned).0

  run_is : (running_at program m t e time).accesses + 2 * refusals_at program m t e time ≡ p.code
  run_is =
      let forward = and_parts _ _ one_path.0 in
      let enough : length task.code ≤ task.limit = leb-true _ _ forward.0 in
      let ok = right program readings m t e time p accepted sound thread begun in
      straight_takes task p.rest (given_of (start_at program m t e time)) (room_of (start_at program m t e time)) task.limit (first_config (thread_of m t).state) (closed program task ok) forward.1
      facts.rests one_path.1 one_path.2 ok.code (omega arith)
      ∙ sym facts.code

  bound_is : p.bound ≡ p.code + (16 * pages + 5) + 6
  bound_is =
      let bound : p.bound ≡ bound_of program task p.code = eqb-true _ _ (and_parts _ _ planned).1 in
      let own = ap (λ n. p.code + (if can_trap task then 2 else 1) * (16 * pages_of (thread_def program n) + 5) + 6) (serves program readings m t e time p accepted sound thread begun).own in
      let once = ap (λ b. p.code + (if b then 2 else 1) * (16 * pages + 5) + 6) (cannot (is_forward task) (list_any may_trap task.code) one_path.0 one_path.1) in
      bound ∙ own ∙ once ∙ paid_once p.code pages

  pub slack_is : cost_of program m t e time + slack program m t e time ≡ p.bound
  slack_is =
      let start = starts program readings m t e time p accepted sound thread begun in
      let end = ends_part (end_at program m t e time).outcome pages e (omega arith) in
      let run = within program readings m t e time p accepted sound thread begun in
      let few = pages_most pages _ (within_both pages _ _ start.within (within_both pages _ _ run end.within)) in
      let serves = serving_well (end_at program m t e time).outcome (starting (is_running (thread_of m t)) e.origin) (running_at program m t e time) e
      (ends_well program readings m t e time p accepted sound thread begun one_path.0 one_path.1)
      in
      let spent : Spent = followed_by (starting (is_running (thread_of m t)) e.origin) (followed_by (running_at program m t e time) (ending_of (end_at program m t e time).outcome e)) in
      let served : cost_of program m t e time ≡ with_copies spent + 1 =
      ap (λ (gone : Bool). (if gone then with_copies (ending header.expired e) else serving (end_at program m t e time).outcome (starting (is_running (thread_of m t)) e.origin) (running_at program m t e time) e) + 1) live
      ∙ ap (λ n. n + 1) serves
      in
      sums (starting (is_running (thread_of m t)) e.origin).accesses (running_at program m t e time).accesses (ending_of (end_at program m t e time).outcome e).accesses (pages_written program m t e time) pages p.code
      (refusals_at program m t e time) p.bound (cost_of program m t e time) start.takes end.takes few run_is bound_is served

-- so it is in a state with a scan and a pick
pub tells_slack : (program : Program) (plan : EnergyPlan) → IsAccepted program → is_plan program plan ≡ true → TellsSlack program plan
tells_slack program plan accepted whole readings m t scan e sound known is waits live straight =
    let costs : cost program m t ≡ cost_of program m t e scan.time =
    ap (λ (o : Option ScanModel). elim o as (λ _. ℕ) [ None ↦ 0 | Some s ↦ elim (pending program m t) as (λ _. ℕ) [ None ↦ 0 | Some found ↦ cost_of program m t found s.time ] ]) is
    ∙ ap (λ (o : Option Event). elim o as (λ _. ℕ) [ None ↦ 0 | Some found ↦ cost_of program m t found scan.time ]) waits
    in
    let planned = task_planned program plan (task_at program m t) whole (task_serves program readings m t accepted sound known).known in
    ap (λ n. n + slack program m t e scan.time) costs
    ∙ slack_is program readings m t e scan.time (plan_of plan (task_at program m t)) accepted sound known (idle_near program readings m t scan e accepted sound known is waits) planned live straight
