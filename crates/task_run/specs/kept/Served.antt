-- What the service of a pick makes of what the words of its thread say.
use Rattle.std.specs.Prelude.{◌≡◌, ℕ, ◌+◌, ◌-◌, ◌<◌, ◌≤◌, ◌==◌, Bool, true, false, if◌then◌else◌, List, [], ◌∷◌, ◌++◌, length, slice_index, slice_index_or, Some, None}
use Rattle.ink_base.specs.declared.event.Origin.{Origin}
use Rattle.ink_base.specs.declared.event.Origin.TheVariants as origins
use Rattle.fram_words.specs.Places.{Memory, Ring}
use Rattle.fram_words.specs.Held.{origin_word, due_word}
use Rattle.event_pipe.specs.Ring.{ring_index}
use Rattle.persist_timer.specs.Due.{after_service}
use Rattle.task_isa.specs.declared.instr.Instr.{Instr}
use Rattle.task_isa.specs.declared.act.Act.{Act}
use Rattle.task_isa.specs.declared.outcome.Outcome.TheVariants as outcomes
use Rattle.task_isa.specs.declared.program.Program.{Program}
use Rattle.task_isa.specs.declared.sent.Sent.{Sent}
use Rattle.task_isa.specs.declared.timer_set.TimerSet.{TimerSet}
use Rattle.task_isa.specs.declared.task_end.TaskEnd.{TaskEnd}
use Rattle.task_isa.specs.Acts.{Given, act_of}
use Rattle.task_isa.specs.Meaning.{Effects, Config, Room, RunEnd, Ended, Trapped, GoesOn, instr_at, run, run_of, task_end, given_of, room_of, no_effects, first_config, sent_to}
use Rattle.prog_check.specs.Lookup.{pipe_def, task_def}
use Rattle.ink_layout.specs.declared.pick.Pick.{Pick}
use Rattle.never_cut.specs.declared.model.Model.{Model}
use Rattle.never_cut.specs.declared.pipe_model.PipeModel.{PipeModel}
use Rattle.never_cut.specs.State.{no_pipe}
use Rattle.never_cut.specs.Commit.{start_at, task_at, stamped, is_expired, with_sends}
use Rattle.never_cut.specs.Stands.{Saved}
use Rattle.task_run.specs.declared.ending.Ending.{Ending}
use Rattle.task_run.specs.declared.ending.Ending.TheVariants as endings
use Rattle.task_run.specs.declared.execution.Execution.{Execution}
use Rattle.task_run.specs.Actions.{cpu_of}
use Rattle.task_run.specs.kept.Trace.{config_after}

-- what a pick has to run: the task, its code and its limit, what its instructions read beside the registers, the room of its effects, and whether the
-- chain has expired, so that none of it runs
pub record Assignment : Type 0 where
  pub task : ℕ
  pub code : List Instr
  pub limit : ℕ
  pub given : Given
  pub room : Room
  pub late : Bool

-- the running task of the pick's thread, or its first one
abbrev pub assignment : Program → Model → Pick → Assignment
assignment program m pick =
    let start = start_at program m pick.thread.0 pick.event pick.time in
    let task = task_at program m pick.thread.0 in
    record {
      task = task;
      code = (task_def program task).code;
      limit = (task_def program task).limit;
      given = given_of start;
      room = room_of start;
      late = is_expired program m pick.thread.0 pick.time;
    }

-- the whole run of the task from the thread's state, and what it leaves
abbrev pub whole : Assignment → Saved → RunEnd
whole a x = run_of a.code a.limit a.given a.room x.state

-- and what it leaves
abbrev pub end_of : Assignment → Saved → TaskEnd
end_of a x = task_end a.limit x.state (whole a x)

-- a function with another value at one number
abbrev pub changed : (ℕ → ℕ) → (at value : ℕ) → ℕ → ℕ
changed f at value k = if k == at then value else f k

-- the event's consumption in the thread's own words: an item is taken, a timer is due one period later or off
abbrev pub consumed : Origin → Saved → Saved
consumed (origins.Source source count) x = x
consumed (origins.Pipe pipe item) x = record x { taken = changed x.taken pipe.0 (item + 1) }
consumed (origins.Timer timer deadline) x = record x { due = changed x.due timer.0 (after_service (deadline + 1) (x.period timer.0)) }

-- the thread once its service began; a running chain's began before
abbrev pub begun : Pick → Saved → Saved
begun pick x = elim pick.running [ Some task ↦ x | None ↦ consumed pick.event.origin (record x { first = pick.time }) ]

-- the numbers of written items with what was sent
abbrev pub written_with : List Sent → (ℕ → ℕ) → ℕ → ℕ
written_with [] f = f
written_with (s ∷ sends) f = written_with sends (changed f s.pipe.0 (f s.pipe.0 + 1))

-- the words of timers, and their periods, as they were set; a stopped timer keeps its period
abbrev pub due_with : List TimerSet → (ℕ → ℕ) → ℕ → ℕ
due_with [] f = f
due_with (s ∷ settings) f = due_with settings (changed f s.timer.0 (due_word s.due))

-- periods after a setting: a timer that is stopped keeps its own
abbrev pub period_by : TimerSet → (ℕ → ℕ) → ℕ → ℕ
period_by s f = elim s.due [ None ↦ f | Some due ↦ changed f s.timer.0 s.period ]

-- and after several
abbrev pub period_with : List TimerSet → (ℕ → ℕ) → ℕ → ℕ
period_with [] f = f
period_with (s ∷ settings) f = period_with settings (period_by s f)

-- with the effects of a task at a commit
abbrev pub with_effects : (stamp t : ℕ) → Effects → Saved → Saved
with_effects stamp t e x =
    record x {
      state = e.state;
      outputs = x.outputs ++ stamped stamp t e.outs;
      written = written_with e.sends x.written;
      due = due_with e.timers x.due;
      period = period_with e.timers x.period;
    }

-- the thread is idle
abbrev pub rested : Saved → Saved
rested x = record x { running = None }

-- one more event of its queue is finished
abbrev pub finish : Saved → Saved
finish x = record x { ended = x.ended + 1 }

-- where the event is its queue's
abbrev pub finished_by : Origin → Saved → Saved
finished_by (origins.Source source count) x = finish x
finished_by (origins.Pipe pipe item) x = x
finished_by (origins.Timer timer deadline) x = x

-- the count that an ending raises
abbrev pub total_of : Ending → Saved → ℕ
total_of endings.Trapped x = x.trapped
total_of endings.Expired x = x.expired
total_of _ x = x.served

-- with another number in that count
abbrev pub with_total : Ending → ℕ → Saved → Saved
with_total endings.Trapped n x = record x { trapped = n }
with_total endings.Expired n x = record x { expired = n }
with_total _ n x = record x { served = n }

-- with one more service of this ending
abbrev pub counted : Ending → Saved → Saved
counted ending x = with_total ending (total_of ending x + 1) x

-- the thread at the end of its task: the chain goes on, or the service is over
abbrev pub concluded : Ending → Origin → Saved → Saved
concluded (endings.Next task) origin x = record x { running = Some (record { 0 = task }) }
concluded ending origin x = counted ending (finished_by origin (rested x))

-- the configuration of a run that the registers and these effects stand for
abbrev pub config_of : Execution → Effects → Config
config_of x effects = record { cpu = cpu_of x; effects = effects }

-- within the run: the rest of the run from here ends as the whole task does
pub record Running (x : Saved) (a : Assignment) (pick : Pick) (stamp : ℕ) (ending : Ending) (e : Execution) (y : Saved) (sends : List Sent) (o v : ℕ) : Type 0 where
  pub effects : Effects
  pub made : y ≡ with_effects (stamp + 1) pick.thread.0 effects (begun pick x)
  pub sent : sends ≡ effects.sends
  pub rest : run a.code a.given a.room (a.limit - e.executed) (config_of e effects) ≡ whole a x
  -- the instructions that were executed have come to here
  pub come : config_after a.code a.given a.room e.executed (first_config x.state) ≡ GoesOn (config_of e effects)
  -- no pipe was sent more than it has room for
  pub few : (q : ℕ) → sent_to q effects.sends ≤ slice_index a.room.pipes q
  pub left : e.executed < a.limit
  pub task : e.task.0 ≡ a.task
  pub inside : e.at < length a.code
  pub early : a.late ≡ false
  pub unended : ending ≡ endings.Done
  pub origin : o ≡ origin_word pick.event.origin
  pub value : v ≡ pick.event.value

-- within an instruction that was fetched
pub record Executing (x : Saved) (a : Assignment) (pick : Pick) (stamp : ℕ) (ending : Ending) (e : Execution) (y : Saved) (sends : List Sent) (o v : ℕ) (act : Act) : Type 0 where
  pub running : Running x a pick stamp ending e y sends o v
  pub is_act : act_of (instr_at a.code e.at) a.given (cpu_of e) ≡ act
  -- another instruction follows behind it
  pub goes_on : e.at + 1 < length a.code

-- the run was trapped
abbrev pub IsTrap : RunEnd → Type 0
IsTrap (Ended outcome effects left) = ⊥
IsTrap (Trapped code left) = Unit {0}

-- before the run of an idle thread's task: it did not begin, or it ended by a trap
pub data Before (a : Assignment) (x : Saved) : Ending → Type 0 where
  Begins : Before a x endings.Done
  Again : IsTrap (whole a x) → Before a x endings.Trapped

-- the run ended so
abbrev pub IsEndOf : RunEnd → Ending → Type 0
IsEndOf (Ended (outcomes.Next task) e left) ending = ending ≡ endings.Next task.0
IsEndOf (Ended outcomes.Done e left) ending = ending ≡ endings.Done
IsEndOf (Ended (outcomes.Trap code) e left) ending = ⊥
IsEndOf (Trapped code left) ending = ending ≡ endings.Trapped

-- an expired chain ends without a run
abbrev pub IsEnd : Assignment → Saved → Ending → Type 0
IsEnd a x ending = elim a.late [ true ↦ ending ≡ endings.Expired | false ↦ IsEndOf (whole a x) ending ]

-- the effects of the task; an expired chain has none
abbrev pub effects_of : TaskEnd → Effects
effects_of end = record { state = end.state; sends = end.sends; outs = end.outs; timers = end.timers }

-- the effects of the service: those of the task, or none of an expired chain
abbrev pub result : Assignment → Saved → Effects
result a x = if a.late then no_effects x.state else effects_of (end_of a x)

-- the thread with the effects of the whole task, and with the end of the service
abbrev pub worked : Saved → Assignment → Pick → ℕ → Saved
worked x a pick stamp = with_effects (stamp + 1) pick.thread.0 (result a x) (begun pick x)

-- the thread after the whole service
abbrev pub served : Saved → Assignment → Pick → ℕ → Ending → Saved
served x a pick stamp ending = concluded ending pick.event.origin (worked x a pick stamp)

-- the service is over
abbrev pub IsLast : Ending → Type 0
IsLast (endings.Next task) = ⊥
IsLast _ = Unit {0}

-- the ring words of the pipes
abbrev pub rings_of : Memory → ℕ → ℕ → ℕ
rings_of words q n = words (Ring q n)

-- each ring holds the items of its pipe, and behind them what was sent to it
abbrev pub AreSent : (ℕ → ℕ → ℕ) → Program → List PipeModel → List Sent → Type 0
AreSent rings program pipes sends =
    (q k : ℕ) → q < length program.pipes → let pipe = slice_index_or (with_sends sends pipes) q no_pipe in
    k < length pipe.items → rings q (ring_index (pipe_def program q).places (pipe.taken + k)) ≡ slice_index pipe.items k
