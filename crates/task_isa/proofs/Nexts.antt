-- A task goes on with a task that its code names.
use Rattle.task_isa.proofs.Common.{ℕ, zero, suc, ◌<◌, ◌/◌, ◌%◌, Bool, true, false, List, length, inl, inr, subst, sym, ◌==◌, if◌then◌else◌, nat_lt, cases_lt, get_or_past, Sets, Loads, Saves, Puts, Sends, Continues, Traps, Instr, Divu, Remu, Next, Done, Outcome, Divisor, Index, LogFull, TaskStart, Given, Cpu, divided, reg, Config, Effects, Room, RunEnd, Ended, Trapped, Stepped, GoesOn, IsOver, HasTrapped, execute, first_config, given_of, has_room, instr_at, room_of, run, task_end, task_of}
use Rattle.task_isa.specs.Acts.{act_of}
use Rattle.task_isa.specs.declared.act.Act.{Act}
use Rattle.task_isa.specs.declared.outcome.Outcome.TheVariants as outcomes

-- the task that an instruction names is below a count
abbrev pub NamesBelow : ℕ → Instr → Type 0
NamesBelow count (Next i) = i < count
NamesBelow count _ = Unit {0}

abbrev ContinuesBelow : ℕ → Act → Type 0
ContinuesBelow count (Continues task) = task < count
ContinuesBelow count _ = Unit {0}

abbrev pub EndsBelow : ℕ → Outcome → Type 0
EndsBelow count (outcomes.Next task) = task.0 < count
EndsBelow count _ = Unit {0}

abbrev StepsBelow : ℕ → Stepped → Type 0
StepsBelow count (IsOver outcome) = EndsBelow count outcome
StepsBelow count _ = Unit {0}

abbrev RunsBelow : ℕ → RunEnd → Type 0
RunsBelow count (Ended outcome effects left) = EndsBelow count outcome
RunsBelow count (Trapped trap left) = Unit {0}

divided_below : (count divisor register value : ℕ) → ContinuesBelow count (divided divisor (Sets register value))
divided_below count divisor register value =
    elim (divisor == 0) as (λ b. ContinuesBelow count (if b then Traps Divisor else Sets register value)) [ true ↦ tt | false ↦ tt ]

act_below : (count : ℕ) (instr : Instr) (given : Given) (cpu : Cpu) → NamesBelow count instr → ContinuesBelow count (act_of instr given cpu)
unfolding act_of
act_below count (Next i) given cpu below = below
act_below count (Divu a b c) given cpu below = divided_below count (reg cpu c) a (reg cpu b / reg cpu c)
act_below count (Remu a b c) given cpu below = divided_below count (reg cpu c) a (reg cpu b % reg cpu c)
act_below count _ given cpu below = tt

-- a step that goes on or traps
by_test : (count : ℕ) (b : Bool) (s r : Stepped) → StepsBelow count s → StepsBelow count r → StepsBelow count (if b then s else r)
by_test count true s r below other = below
by_test count false s r below other = other

step_below : (count : ℕ) (act : Act) (given : Given) (room : Room) (c : Config) → ContinuesBelow count act → StepsBelow count (execute act given room c)
step_below count (Loads a n) given room c below = by_test count (nat_lt n (length c.effects.state)) _ (HasTrapped Index) tt tt
step_below count (Saves n v) given room c below = by_test count (nat_lt n (length c.effects.state)) _ (HasTrapped Index) tt tt
step_below count (Puts v) given room c below = by_test count (nat_lt (length c.effects.outs) room.log) _ (HasTrapped LogFull) tt tt
step_below count (Sends q a v) given room c below = by_test count (has_room room q c.effects.sends) _ _ tt tt
step_below count (Continues task) given room c below = below
step_below count _ given room c below = tt

names_below : (count : ℕ) (code : List Instr) (n : ℕ) → ((k : ℕ) → k < length code → NamesBelow count (instr_at code k)) → NamesBelow count (instr_at code n)
names_below count code n each =
    elim (cases_lt n (length code)) [
      | inl within ↦ each n within
      | inr past ↦ subst (NamesBelow count) (sym (get_or_past code n Done past)) tt
    ]

-- how a run goes on behind a step
abbrev behind : List Instr → Given → Room → ℕ → Effects → Stepped → RunEnd
behind code given room left effects (GoesOn next) = run code given room left next
behind code given room left effects (IsOver outcome) = Ended outcome effects left
behind code given room left effects (HasTrapped trap) = Trapped trap left

behind_below : (count : ℕ) (code : List Instr) (given : Given) (room : Room) (left : ℕ) (effects : Effects) (s : Stepped) →
    ((c : Config) → RunsBelow count (run code given room left c)) → StepsBelow count s → RunsBelow count (behind code given room left effects s)
behind_below count code given room left effects (GoesOn next) more below = more next
behind_below count code given room left effects (IsOver outcome) more below = below
behind_below count code given room left effects (HasTrapped trap) more below = tt

run_below : (count : ℕ) (code : List Instr) (given : Given) (room : Room) (left : ℕ) (c : Config) →
    ((k : ℕ) → k < length code → NamesBelow count (instr_at code k)) → RunsBelow count (run code given room left c)
run_below count code given room zero c each = tt
run_below count code given room (suc left) c each =
    behind_below count code given room left c.effects (execute (act_of (instr_at code c.cpu.at) given c.cpu) given room c)
    (λ next. run_below count code given room left next each)
    (step_below count (act_of (instr_at code c.cpu.at) given c.cpu) given room c
    (act_below count (instr_at code c.cpu.at) given c.cpu (names_below count code c.cpu.at each)))

end_below : (count limit : ℕ) (state : List ℕ) (e : RunEnd) → RunsBelow count e → EndsBelow count (task_end limit state e).outcome
end_below count limit state (Ended outcome effects left) below = below
end_below count limit state (Trapped trap left) below = tt

-- the task that a task's meaning goes on with is below a count that its code's tasks are below
pub task_of_below : (count : ℕ) (code : List Instr) (limit : ℕ) (start : TaskStart) →
    ((k : ℕ) → k < length code → NamesBelow count (instr_at code k)) → EndsBelow count (task_of code limit start).outcome
task_of_below count code limit start each =
    end_below count limit start.state (run code (given_of start) (room_of start) limit (first_config start.state))
    (run_below count code (given_of start) (room_of start) limit (first_config start.state) each)
