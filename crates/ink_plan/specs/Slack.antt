-- How far a service stays below the bound of its task, where the code has one path and can't trap.
use Rattle.std.specs.Prelude.{◌≡◌, ℕ, zero, suc, ◌+◌, ◌-◌, ◌*◌, ◌<◌, ◌++◌, ◌&&◌, not, Bool, true, false, if◌then◌else◌, List, [], length, Some}
use Rattle.std.specs.List.{list_any}
use Rattle.ink_base.specs.declared.event.Event.{Event}
use Rattle.fram_words.specs.Header as header
use Rattle.task_isa.specs.declared.act.Act.{Act}
use Rattle.task_isa.specs.declared.act.Act.TheVariants.{Sends}
use Rattle.task_isa.specs.declared.instr.Instr.{Instr}
use Rattle.task_isa.specs.declared.instr.Instr.TheVariants.{Jz, Jnz}
use Rattle.task_isa.specs.declared.outcome.Outcome.{Outcome}
use Rattle.task_isa.specs.declared.outcome.Outcome.TheVariants as outcomes
use Rattle.task_isa.specs.declared.program.Program.{Program}
use Rattle.task_isa.specs.declared.program.Task.{Task}
use Rattle.task_isa.specs.Acts.{Given, act_of}
use Rattle.task_isa.specs.Meaning.{Config, Effects, Room, GoesOn, IsOver, HasTrapped, has_room, execute, instr_at, first_config, given_of, room_of}
use Rattle.prog_check.specs.Lookup.{thread_def, task_def}
use Rattle.ink_layout.specs.Shape.{pages_of}
use Rattle.never_cut.specs.declared.model.Model.{Model}
use Rattle.never_cut.specs.declared.scan_model.ScanModel.{ScanModel}
use Rattle.never_cut.specs.State.{thread_of, is_running}
use Rattle.never_cut.specs.Pending.{pending}
use Rattle.never_cut.specs.Commit.{is_expired, task_at, start_at, end_at}
use Rattle.never_cut.specs.Cost.{Spent, starting, running_at, continuing, ending, pages_more, cost}
use Rattle.never_cut.specs.Entries.{Readings}
use Rattle.never_cut.specs.Sound.{IsSound}
use Rattle.ink_plan.specs.declared.plan.EnergyPlan.{EnergyPlan}
use Rattle.ink_plan.specs.Code.{is_forward, may_trap}
use Rattle.ink_plan.specs.Plans.{plan_of}

-- an instruction behind which the task may go on at two offsets
abbrev pub branches : Instr → Bool
branches (Jz a i) = true
branches (Jnz a i) = true
branches _ = false

-- forward code without a branch, and without an instruction that may trap
abbrev pub is_straight : Task → Bool
is_straight task = is_forward task && not (list_any may_trap task.code) && not (list_any branches task.code)

-- one for a send that finds no room
abbrev pub refusal : Act → Room → Effects → ℕ
refusal (Sends q a v) room e = if has_room room q e.sends then 0 else 1
refusal _ room e = 0

-- how many sends of a run from a configuration on find no room; each takes two accesses less
abbrev pub refusals_on : List Instr → Given → Room → ℕ → Config → ℕ
refusals_on code given room zero c = 0
refusals_on code given room (suc left) c =
    let act = act_of (instr_at code c.cpu.at) given c.cpu in
    refusal act room c.effects + elim (execute act given room c) [
      | GoesOn next ↦ refusals_on code given room left next
      | IsOver outcome ↦ 0
      | HasTrapped code ↦ 0
    ]

-- those of the task that serves a thread's event
abbrev pub refusals_at : Program → Model → (t : ℕ) → Event → (time : ℕ) → ℕ
refusals_at program m t e time =
    let task = task_def program (task_at program m t) in
    let start = start_at program m t e time in
    refusals_on task.code (given_of start) (room_of start) task.limit (first_config start.state)

-- the end of a service that doesn't trap
abbrev pub ending_of : Outcome → Event → Spent
ending_of (outcomes.Next task) e = continuing
ending_of _ e = ending header.served e

-- the pages that a service writes
abbrev pub pages_written : Program → Model → (t : ℕ) → Event → (time : ℕ) → ℕ
pages_written program m t e time =
    let start = starting (is_running (thread_of m t)) e.origin in
    let run = running_at program m t e time in
    let end = ending_of (end_at program m t e time).outcome e in
    pages_more [] (start.writes ++ (run.writes ++ end.writes))

-- what a service leaves of its bound: of the five accesses for the event, of the five for the end, two for each send without room, and the copies of pages
-- that aren't written
abbrev pub slack : Program → Model → (t : ℕ) → Event → (time : ℕ) → ℕ
slack program m t e time =
    let start = starting (is_running (thread_of m t)) e.origin in
    let end = ending_of (end_at program m t e time).outcome e in
    (5 - start.accesses) + (5 - end.accesses) + 2 * refusals_at program m t e time
    + 16 * (pages_of (thread_def program t) - pages_written program m t e time)

-- The service of a thread's event by straight code costs so much less than its bound, and no more or less.
abbrev pub TellsSlack : Program → EnergyPlan → Type 0
TellsSlack program plan =
    (readings : Readings) (m : Model) (t : ℕ) (scan : ScanModel) (e : Event) → IsSound program readings m → t < length program.threads → m.scan ≡ Some scan →
    pending program m t ≡ Some e → is_expired program m t scan.time ≡ false → is_straight (task_def program (task_at program m t)) ≡ true →
    cost program m t + slack program m t e scan.time ≡ (plan_of plan (task_at program m t)).bound
