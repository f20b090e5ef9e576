-- The plain meaning of a whole task, over lists.
use Rattle.std.specs.Prelude.{ℕ, zero, suc, ◌+◌, ◌-◌, ◌%◌, ◌^◌, ◌==◌, nat_lt, if◌then◌else◌, List, [], ◌∷◌, ◌++◌, length, count_by, replicate, slice_index_or, slice_index, slice_set, Some, None}
use Rattle.task_isa.specs.declared.instr.Instr.{Instr}
use Rattle.task_isa.specs.declared.instr.Instr.TheVariants.{Done}
use Rattle.task_isa.specs.declared.outcome.Outcome.{Outcome}
use Rattle.task_isa.specs.declared.outcome.Outcome.TheVariants as outcomes
use Rattle.task_isa.specs.declared.outcome.TrapCode.{TrapCode}
use Rattle.task_isa.specs.declared.outcome.TrapCode.TheVariants.{Index, LogFull, Limit}
use Rattle.task_isa.specs.declared.sent.Sent.{Sent}
use Rattle.task_isa.specs.declared.timer_set.TimerSet.{TimerSet}
use Rattle.task_isa.specs.declared.task_start.TaskStart.{TaskStart}
use Rattle.task_isa.specs.declared.task_end.TaskEnd.{TaskEnd}
use Rattle.task_isa.specs.declared.act.Act.{Act}
use Rattle.task_isa.specs.declared.act.Act.TheVariants.{Sets, Goes, Loads, Saves, Puts, Sends, Arms, Stops, Continues, Ends, Traps}
use Rattle.task_isa.specs.Acts.{Given, Cpu, act_of}

-- what a task has done so far
pub record Effects : Type 0 where
  pub state : List ℕ
  pub sends : List Sent
  pub outs : List ℕ
  pub timers : List TimerSet

-- a task between two instructions
pub record Config : Type 0 where
  pub cpu : Cpu
  pub effects : Effects

-- the room that the effects have: of each pipe, and of the log
pub record Room : Type 0 where
  pub pipes : List ℕ
  pub log : ℕ

-- how a run ends, and how many more instructions it could have executed
pub data RunEnd : Type 0 where
  Ended : (outcome : Outcome) (effects : Effects) (left : ℕ) → RunEnd
  Trapped : (code : TrapCode) (left : ℕ) → RunEnd

-- what one instruction makes of a configuration
pub data Stepped : Type 0 where
  GoesOn : (next : Config) → Stepped
  IsOver : (outcome : Outcome) → Stepped
  HasTrapped : (code : TrapCode) → Stepped

-- the next instruction follows, with a register set or none
abbrev pub advance : Cpu → Cpu
advance cpu = record { at = cpu.at + 1; registers = cpu.registers }

-- and with this register set
abbrev pub advance_with : Cpu → ℕ → ℕ → Cpu
advance_with cpu a value = record { at = cpu.at + 1; registers = slice_set cpu.registers a value }

-- the task goes on with these registers
abbrev pub go : Config → Cpu → Stepped
go c cpu = GoesOn (record { cpu = cpu; effects = c.effects })

-- and with these effects
abbrev pub go_with : Config → Cpu → Effects → Stepped
go_with c cpu effects = GoesOn (record { cpu = cpu; effects = effects })

-- how many items the task has sent to a pipe
abbrev pub sent_to : ℕ → List Sent → ℕ
sent_to pipe sends = count_by (λ (s : Sent). s.pipe.0 == pipe) sends

-- a pipe takes one more item of the task
abbrev pub has_room : Room → ℕ → List Sent → Rattle.std.specs.Prelude.Bool
has_room room pipe sends = nat_lt (sent_to pipe sends) (slice_index room.pipes pipe)

-- the effect of each act; a state number has 32 bits
abbrev pub execute : Act → Given → Room → Config → Stepped
execute (Sets a v) given room c = go c (advance_with c.cpu a v)
execute (Goes offset) given room c = go c (record c.cpu { at = offset })
execute (Loads a n) given room c =
    if nat_lt n (length c.effects.state) then go c (advance_with c.cpu a (slice_index c.effects.state n % 2 ^ 32)) else HasTrapped Index
execute (Saves n v) given room c =
    if nat_lt n (length c.effects.state) then go_with c (advance c.cpu) (record c.effects { state = slice_set c.effects.state n v }) else HasTrapped Index
execute (Puts v) given room c =
    if nat_lt (length c.effects.outs) room.log then go_with c (advance c.cpu) (record c.effects { outs = c.effects.outs ++ v ∷ [] }) else HasTrapped LogFull
execute (Sends q a v) given room c =
    if has_room room q c.effects.sends
    then go_with c (advance_with c.cpu a 1) (record c.effects { sends = c.effects.sends ++ record { pipe = record { 0 = q }; value = v } ∷ [] })
    else go c (advance_with c.cpu a 0)
execute (Arms j delay period) given room c =
    go_with c (advance c.cpu) (record c.effects { timers = c.effects.timers ++ record { timer = record { 0 = j }; due = Some (given.time + delay); period = period } ∷ [] })
execute (Stops j) given room c =
    go_with c (advance c.cpu) (record c.effects { timers = c.effects.timers ++ record { timer = record { 0 = j }; due = None; period = 0 } ∷ [] })
execute (Continues x) given room c = IsOver (outcomes.Next (record { 0 = x }))
execute Ends given room c = IsOver outcomes.Done
execute (Traps code) given room c = HasTrapped code

-- the instruction at an offset; past the code, the end of the task
abbrev pub instr_at : List Instr → ℕ → Instr
instr_at code n = slice_index_or code n Done

-- the run from a configuration, within a number of instructions
abbrev pub run : List Instr → Given → Room → ℕ → Config → RunEnd
run code given room zero c = Trapped Limit 0
run code given room (suc left) c =
    elim (execute (act_of (instr_at code c.cpu.at) given c.cpu) given room c) [
      | GoesOn next ↦ run code given room left next
      | IsOver outcome ↦ Ended outcome c.effects left
      | HasTrapped trap ↦ Trapped trap left
    ]

-- offset 0 and sixteen zeros
abbrev pub first_cpu : Cpu
first_cpu = record { at = 0; registers = replicate 16 0 }

-- a task that has done nothing yet, over the state that it was given
abbrev pub no_effects : List ℕ → Effects
no_effects state = record { state = state; sends = []; outs = []; timers = [] }

-- a task before its first instruction
abbrev pub first_config : List ℕ → Config
first_config state = record { cpu = first_cpu; effects = no_effects state }

-- the whole run of a task's code within its limit
abbrev pub run_of : List Instr → ℕ → Given → Room → List ℕ → RunEnd
run_of code limit given room state = run code given room limit (first_config state)

-- what is left behind; a trap leaves the state as it was
abbrev pub task_end : ℕ → List ℕ → RunEnd → TaskEnd
task_end limit state (Ended outcome e left) =
    record { outcome = outcome; state = e.state; sends = e.sends; outs = e.outs; timers = e.timers; executed = limit - left }
task_end limit state (Trapped code left) =
    record { outcome = outcomes.Trap code; state = state; sends = []; outs = []; timers = []; executed = limit - left }

-- what the instructions of a task can ask of its start: the event, and the tick
abbrev pub given_of : TaskStart → Given
given_of start = record { event = start.event; time = start.time }

-- how much the pipes and the outputs take of it
abbrev pub room_of : TaskStart → Room
room_of start = record { pipes = start.room; log = start.log_room }

-- the meaning of a task from a start
abbrev pub task_of : List Instr → ℕ → TaskStart → TaskEnd
task_of code limit start = task_end limit start.state (run_of code limit (given_of start) (room_of start) start.state)
