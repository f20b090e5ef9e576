-- The evaluator's run stands for the rest of the plain run.
use Rattle.task_isa.proofs.Common.{◌≡◌, ℕ, suc, ◌-◌, ◌≤◌, List, [], sym, ◌∙◌, ap, arith, Instr, Outcome, Limit, Run, TaskStart, act_of, Config, Effects, RunEnd, Stepped, GoesOn, IsOver, HasTrapped, Ended, Trapped, execute, given_of, instr_at, room_of, run, task_end, task_of, KeepsRoom, Makes, config_of}
use Rattle.task_isa.specs.declared.flow.Flow.{Flow}
use Rattle.task_isa.specs.declared.flow.Flow.TheVariants as flows
use Rattle.task_isa.specs.declared.outcome.Outcome.TheVariants.{Trap}
use Rattle.task_isa.specs.declared.outcome.TrapCode.{TrapCode}
use Rattle.task_isa.specs.declared.task_end.TaskEnd.{TaskEnd}

-- the rest of the plain run ends as the whole one does
pub record StandsFor (code : List Instr) (limit left : ℕ) (start : TaskStart) (r : Run) : Type 0 where
  pub ends : task_end limit start.state (run code (given_of start) (room_of start) left (config_of r)) ≡ task_of code limit start
  pub room : KeepsRoom start.room r
  pub within : left ≤ limit

-- a run makes the step of its next instruction
abbrev pub Steps : List Instr → TaskStart → Run → Run → Flow → Type 0
Steps code start old new flow =
    Makes (act_of (instr_at code old.at) (given_of start) (config_of old).cpu) (given_of start) (room_of start) old new flow

abbrev step_of : List Instr → TaskStart → Run → Stepped
step_of code start r = execute (act_of (instr_at code r.at) (given_of start) (config_of r).cpu) (given_of start) (room_of start) (config_of r)

abbrev rest : List Instr → TaskStart → ℕ → Config → RunEnd
rest code start left c = run code (given_of start) (room_of start) left c

-- how a run with so many instructions left goes on behind a step
abbrev behind : List Instr → TaskStart → ℕ → Effects → Stepped → RunEnd
behind code start k effects (GoesOn next) = rest code start k next
behind code start k effects (IsOver outcome) = Ended outcome effects k
behind code start k effects (HasTrapped trap) = Trapped trap k

rest_by : (code : List Instr) (start : TaskStart) (r : Run) (left k : ℕ) (s : Stepped) → left ≡ suc k → step_of code start r ≡ s →
    rest code start left (config_of r) ≡ behind code start k (config_of r).effects s
rest_by code start r left k s count step =
    ap (λ n. rest code start n (config_of r)) count ∙ ap (behind code start k (config_of r).effects) step

pub goes_on : (code : List Instr) (limit left k : ℕ) (start : TaskStart) (old new : Run) → StandsFor code limit left start old → left ≡ suc k →
    Steps code start old new flows.GoesOn → StandsFor code limit k start new
goes_on code limit left k start old new stands count makes =
    record {
      ends = sym (ap (task_end limit start.state) (rest_by code start old left k (GoesOn (config_of new)) count makes.stepped)) ∙ stands.ends;
      room = makes.room_kept;
      within = let within = stands.within in omega arith;
    }

pub is_over : (code : List Instr) (limit left k : ℕ) (start : TaskStart) (old new : Run) (outcome : Outcome) → StandsFor code limit left start old →
    left ≡ suc k → Steps code start old new (flows.IsOver outcome) →
    record { outcome = outcome; state = new.state; sends = new.sends; outs = new.outs; timers = new.timers; executed = limit - k } ≡ task_of code limit start
is_over code limit left k start old new outcome stands count makes =
    rw makes.stays (sym (ap (task_end limit start.state) (rest_by code start old left k (IsOver outcome) count makes.stepped)) ∙ stands.ends)

-- what a trap leaves behind
abbrev pub trap_end : TrapCode → TaskStart → ℕ → TaskEnd
trap_end trap start executed = record { outcome = Trap trap; state = start.state; sends = []; outs = []; timers = []; executed = executed }

pub has_trapped : (code : List Instr) (limit left k : ℕ) (start : TaskStart) (old new : Run) (trap : TrapCode) → StandsFor code limit left start old →
    left ≡ suc k → Steps code start old new (flows.HasTrapped trap) → trap_end trap start (limit - k) ≡ task_of code limit start
has_trapped code limit left k start old new trap stands count makes =
    sym (ap (task_end limit start.state) (rest_by code start old left k (HasTrapped trap) count makes.stepped)) ∙ stands.ends

pub has_no_more : (code : List Instr) (limit left : ℕ) (start : TaskStart) (r : Run) → StandsFor code limit left start r → left ≤ 0 →
    trap_end Limit start limit ≡ task_of code limit start
has_no_more code limit left start r stands none =
    let zero : left ≡ 0 = omega arith in
    let whole : limit ≡ limit - 0 = omega arith in
    ap (λ n. trap_end Limit start n) whole ∙ sym (ap (λ n. task_end limit start.state (rest code start n (config_of r))) zero) ∙ stands.ends
