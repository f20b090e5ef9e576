-- One instruction of a run.
use Rattle.task_run.proofs.Common.{◌≡◌, ℕ, suc, ◌+◌, ◌-◌, ◌<◌, ◌≤◌, List, length, get_or, arith, refl, ap, ◌∙◌, sym, subst, Instr, Act, TrapCode, Sent, Given, Cpu, act_of, Effects, Config, Room, RunEnd, Ended, Trapped, Stepped, GoesOn, IsOver, HasTrapped, execute, run, task_end, first_config, config_after, sent_to, Saved, Ending, cpu_of, stepped, whole, begun, with_effects, effects_of, result, config_of, Told, RunningIn, worked_in, Finishing, IsTrap, IsEndOf}
use Rattle.std.proofs.Common.{add-one}
use Rattle.task_isa.specs.Meaning.{instr_at}
use Rattle.task_isa.specs.declared.outcome.Outcome.{Outcome}
use Rattle.task_run.specs.kept.Trace.{one_more}
use Rattle.task_run.proofs.Traps.{Going, end-early}

-- how a run goes on after one instruction
abbrev pub rest_of : List Instr → Given → Room → ℕ → Config → Stepped → RunEnd
rest_of code given room left c (GoesOn next) = run code given room left next
rest_of code given room left c (IsOver outcome) = Ended outcome c.effects left
rest_of code given room left c (HasTrapped trap) = Trapped trap left

after_one : (code : List Instr) (given : Given) (room : Room) (left : ℕ) (c : Config) (s : Stepped) →
    (elim s [ GoesOn next ↦ run code given room left next | IsOver outcome ↦ Ended outcome c.effects left | HasTrapped trap ↦ Trapped trap left ]) ≡ rest_of code given room left c s
after_one code given room left c (GoesOn next) = refl
after_one code given room left c (IsOver outcome) = refl
after_one code given room left c (HasTrapped trap) = refl

run-suc : (code : List Instr) (given : Given) (room : Room) (left : ℕ) (c : Config) (act : Act) → act_of (instr_at code c.cpu.at) given c.cpu ≡ act →
    run code given room (suc left) c ≡ rest_of code given room left c (execute act given room c)
run-suc code given room left c act e =
    after_one code given room left c (execute (act_of (instr_at code c.cpu.at) given c.cpu) given room c)
    ∙ ap (λ j. rest_of code given room left c (execute j given room c)) e

pub run-act : (code : List Instr) (given : Given) (room : Room) (limit executed : ℕ) (c : Config) (act : Act) → executed < limit →
    act_of (instr_at code c.cpu.at) given c.cpu ≡ act →
    run code given room (limit - executed) c ≡ rest_of code given room (limit - (executed + 1)) c (execute act given room c)
run-act code given room limit executed c act lt e =
    let more : limit - executed ≡ suc (limit - (executed + 1)) = omega arith in
    ap (λ k. run code given room k c) more ∙ run-suc code given room (limit - (executed + 1)) c act e

-- the instruction at hand is this act
abbrev pub IsAct : Told → Act → Type 0
IsAct p act = act_of (instr_at p.a.code p.execution.at) p.a.given (cpu_of p.execution) ≡ act

-- what the rest of the run is after this act
pub step_from : (p : Told) (g : RunningIn p) (act : Act) → IsAct p act → (s : Stepped) → execute act p.a.given p.a.room (config_of p.execution g.effects) ≡ s →
    rest_of p.a.code p.a.given p.a.room (p.a.limit - (p.execution.executed + 1)) (config_of p.execution g.effects) s ≡ whole p.a p.x
step_from p g act is s does =
    sym (run-act p.a.code p.a.given p.a.room p.a.limit p.execution.executed (config_of p.execution g.effects) act g.left is
    ∙ ap (λ j. rest_of p.a.code p.a.given p.a.room (p.a.limit - (p.execution.executed + 1)) (config_of p.execution g.effects) j) does)
    ∙ g.rest

-- and what it has come to
pub come_more : (p : Told) (g : RunningIn p) (act : Act) → IsAct p act → (s : Stepped) → execute act p.a.given p.a.room (config_of p.execution g.effects) ≡ s →
    config_after p.a.code p.a.given p.a.room (p.execution.executed + 1) (first_config p.x.state) ≡ s
come_more p g act is s does =
    ap (λ k. config_after p.a.code p.a.given p.a.room k (first_config p.x.state)) (add-one p.execution.executed)
    ∙ ap (λ c. one_more p.a.code p.a.given p.a.room c) g.come
    ∙ ap (λ j. execute j p.a.given p.a.room (config_of p.execution g.effects)) is
    ∙ does

pub going_from : (p : Told) (g : RunningIn p) (act : Act) → IsAct p act → (cpu : Cpu) (z : Saved) (sends : List Sent) (effects : Effects) →
    execute act p.a.given p.a.room (config_of p.execution g.effects) ≡ GoesOn (config_of (stepped p.execution cpu) effects) →
    cpu.at < length p.a.code → z ≡ with_effects (p.stamp + 1) p.pick.thread.0 effects (begun p.pick p.x) → sends ≡ effects.sends →
    ((q : ℕ) → sent_to q effects.sends ≤ get_or p.a.room.pipes q 0) → Going (record p { y = z; sends = sends }) cpu
going_from p g act is cpu z sends effects goes inside made sent few = record {
  effects = effects;
  made = made;
  sent = sent;
  rest = step_from p g act is (GoesOn (config_of (stepped p.execution cpu) effects)) goes;
  come = come_more p g act is (GoesOn (config_of (stepped p.execution cpu) effects)) goes;
  few = few;
  task = g.task;
  inside = inside;
  early = g.early;
  unended = g.unended;
  origin = g.origin;
  value = g.value;
}

-- an act without an effect
pub going_same : (p : Told) (g : RunningIn p) (act : Act) → IsAct p act → (cpu : Cpu) →
    execute act p.a.given p.a.room (config_of p.execution g.effects) ≡ GoesOn (config_of (stepped p.execution cpu) g.effects) →
    cpu.at < length p.a.code → Going p cpu
going_same p g act is cpu goes inside = going_from p g act is cpu p.y p.sends g.effects goes inside g.made g.sent g.few

pub trap_from : (p : Told) (g : RunningIn p) (act : Act) → IsAct p act → (code : TrapCode) →
    execute act p.a.given p.a.room (config_of p.execution g.effects) ≡ HasTrapped code → IsTrap (whole p.a p.x)
trap_from p g act is code traps = subst (λ z. IsTrap z) (step_from p g act is (HasTrapped code) traps) tt

-- the run is over, and its effects are those of the whole task
pub finish_from : (p : Told) (g : RunningIn p) (act : Act) → IsAct p act → (outcome : Outcome) (ending : Ending) →
    execute act p.a.given p.a.room (config_of p.execution g.effects) ≡ IsOver outcome →
    IsEndOf (Ended outcome g.effects (p.a.limit - (p.execution.executed + 1))) ending → Finishing (record p { ending = ending }) (worked_in p)
finish_from p g act is outcome ending over ends =
    let e : Ended outcome g.effects (p.a.limit - (p.execution.executed + 1)) ≡ whole p.a p.x = step_from p g act is (IsOver outcome) over in
    let all : g.effects ≡ result p.a p.x = rw g.early (ap (λ w. effects_of (task_end p.a.limit p.x.state w)) e) in
    record {
      is = g.made ∙ ap (λ z. with_effects (p.stamp + 1) p.pick.thread.0 z (begun p.pick p.x)) all;
      sent = g.sent ∙ ap (λ (z : Effects). z.sends) all;
      end = end-early p.x p.a ending g.early (subst (λ w. IsEndOf w ending) e ends);
      origin = g.origin;
      value = g.value;
    }
