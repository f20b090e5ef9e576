-- A task that traps leaves its thread's state.
use Rattle.never_cut.proofs.Common.{◌≡◌, ℕ, zero, suc, Bool, true, false, List, length, refl, if◌then◌else◌, nat_lt, Act, Sets, Loads, Saves, Puts, Sends, Continues, Traps, Ends, Goes, Arms, Stops, Instr, Outcome, Index, LogFull, TaskStart, Given, act_of, Config, Room, RunEnd, Ended, Trapped, Stepped, GoesOn, IsOver, HasTrapped, execute, first_config, given_of, has_room, room_of, run, run_of, task_end, task_of, Event, ThreadModel, thread_after}
use Rattle.task_isa.specs.Meaning.{instr_at}
use Rattle.task_isa.specs.declared.outcome.Outcome.TheVariants as outcomes

abbrev IsNoTrap : Outcome → Type 0
IsNoTrap (outcomes.Trap code) = ⊥
IsNoTrap _ = Unit {0}

-- a step that is over, and a run that has ended, have not trapped
abbrev StepsClean : Stepped → Type 0
StepsClean (IsOver outcome) = IsNoTrap outcome
StepsClean _ = Unit {0}

abbrev RunsClean : RunEnd → Type 0
RunsClean (Ended outcome effects left) = IsNoTrap outcome
RunsClean (Trapped trap left) = Unit {0}

by_test : (b : Bool) (s r : Stepped) → StepsClean s → StepsClean r → StepsClean (if b then s else r)
by_test true s r clean other = clean
by_test false s r clean other = other

step_clean : (act : Act) (given : Given) (room : Room) (c : Config) → StepsClean (execute act given room c)
step_clean (Sets a v) given room c = tt
step_clean (Goes offset) given room c = tt
step_clean (Loads a n) given room c = by_test (nat_lt n (length c.effects.state)) _ (HasTrapped Index) tt tt
step_clean (Saves n v) given room c = by_test (nat_lt n (length c.effects.state)) _ (HasTrapped Index) tt tt
step_clean (Puts v) given room c = by_test (nat_lt (length c.effects.outs) room.log) _ (HasTrapped LogFull) tt tt
step_clean (Sends q a v) given room c = by_test (has_room room q c.effects.sends) _ _ tt tt
step_clean (Arms j delay period) given room c = tt
step_clean (Stops j) given room c = tt
step_clean (Continues task) given room c = tt
step_clean Ends given room c = tt
step_clean (Traps trap) given room c = tt

run_clean : (code : List Instr) (given : Given) (room : Room) (left : ℕ) (c : Config) → RunsClean (run code given room left c)
run_clean code given room zero c = tt
run_clean code given room (suc left) c =
    by_step (execute (act_of (instr_at code c.cpu.at) given c.cpu) given room c) (step_clean (act_of (instr_at code c.cpu.at) given c.cpu) given room c)
    (λ next. run_clean code given room left next)
  where
    by_step : (step : Stepped) → StepsClean step → ((next : Config) → RunsClean (run code given room left next)) →
        RunsClean (elim step [ GoesOn next ↦ run code given room left next | IsOver outcome ↦ Ended outcome c.effects left | HasTrapped trap ↦ Trapped trap left ])
    by_step (GoesOn next) clean more = more next
    by_step (IsOver outcome) clean more = clean
    by_step (HasTrapped trap) clean more = tt

-- the thread that a task's end leaves has the end's state
after_end : (e : Event) (limit : ℕ) (state : List ℕ) (x : ThreadModel) (r : RunEnd) → RunsClean r → x.state ≡ state →
    (thread_after e (task_end limit state r).outcome (task_end limit state r).state x).state ≡ (task_end limit state r).state
after_end e limit state x (Ended (outcomes.Next task) effects left) clean same = refl
after_end e limit state x (Ended outcomes.Done effects left) clean same = refl
after_end e limit state x (Ended (outcomes.Trap code) effects left) clean same = absurd clean
after_end e limit state x (Trapped trap left) clean same = same

pub after_task : (e : Event) (code : List Instr) (limit : ℕ) (start : TaskStart) (x : ThreadModel) → x.state ≡ start.state →
    (thread_after e (task_of code limit start).outcome (task_of code limit start).state x).state ≡ (task_of code limit start).state
after_task e code limit start x same =
    after_end e limit start.state x (run_of code limit (given_of start) (room_of start) start.state)
    (run_clean code (given_of start) (room_of start) limit (first_config start.state)) same
