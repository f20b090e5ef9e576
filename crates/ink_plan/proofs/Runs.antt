-- What the run of a task takes, which pages it writes, and when it doesn't trap.
use Rattle.std.proofs.Common.{◌≡◌, ℕ, zero, suc, ◌+◌, ◌*◌, ◌<◌, ◌≤◌, Bool, true, false, List, [], ◌∷◌, ◌++◌, length, get_or, Option, Some, None, sym, ap, ◌∙◌, subst, inl, inr, arith, ltb-true}
use Rattle.std.proofs.lemmas.List.{get_or_past}
use Rattle.std.specs.Prelude.{max, if◌then◌else◌}
use Rattle.std.specs.List.{list_any}
use Rattle.std.proofs.lemmas.Bool.{cases_lt, cases_Bool, false≢true}
use Rattle.std.proofs.lemmas.List.Folds.{list_any_at}
use Rattle.std.proofs.lemmas.List.Recursion.{max_bounds}
use Rattle.task_isa.specs.declared.instr.Instr.{Instr}
use Rattle.task_isa.specs.declared.instr.Instr.TheVariants.{Send, Done}
use Rattle.task_isa.specs.declared.program.Program.{Program}
use Rattle.task_isa.specs.declared.program.Task.{Task}
use Rattle.task_isa.specs.Acts.{Given, act_of}
use Rattle.task_isa.specs.Meaning.{Config, Room, RunEnd, Ended, Trapped, Stepped, GoesOn, IsOver, HasTrapped, execute, run}
use Rattle.prog_check.specs.Accepted.{IsRightInstr, IsRightTask, ends_code}
use Rattle.prog_check.specs.Lookup.{instr_at}
use Rattle.never_cut.specs.Cost.{Spent, reads, acting, running_on}
use Rattle.ink_plan.specs.Code.{weight, target_of, may_follow, jumps_up, goes_up, greatest_weight, may_trap}
use Rattle.ink_plan.specs.Plans.{rest_behind, are_rests}
use Rattle.ink_plan.specs.kept.Closed.{IsClosed}
use Rattle.ink_plan.proofs.Pages.{LieWithin, within_both}
use Rattle.ink_plan.proofs.Paths.{follows_parts}
use Rattle.ink_plan.proofs.Rests.{up_at, rest_at}
use Rattle.ink_plan.proofs.Steps.{GoesBy, GoesWell, IsNoTrap, MayGo, block_of, instr_takes, state_stays, next_follows, step_well, step_within}

-- where the task may go on is in the code
pub follows_inside : (task : Task) (at next : ℕ) → IsClosed task → at < length task.code → may_follow task at next ≡ true → next < length task.code
follows_inside task at next closed inside follows =
    elim (follows_parts task at next follows) [
      | inl on ↦ let less = closed.next at inside on.0 in let is = on.1 in omega arith
      | inr jump ↦ closed.target at next inside jump
    ]

-- in code that goes up it is later
pub follows_later : (task : Task) (at next : ℕ) → goes_up task ≡ true → at < length task.code → may_follow task at next ≡ true → at < next
follows_later task at next up inside follows =
    elim (follows_parts task at next follows) [
      | inl on ↦ let is = on.1 in omega arith
      | inr jump ↦ ltb-true at next (subst (λ (o : Option ℕ). jumps_up at o ≡ true) jump (up_at task at up inside))
    ]

abbrev behind : List ℕ → (at : ℕ) → Bool → Option ℕ → ℕ
behind rest at ends o = max (if ends then 0 else get_or rest (at + 1) 0) (elim o as (λ _. ℕ) [ None ↦ 0 | Some i ↦ get_or rest i 0 ])

-- and its rest is no more than what is behind the instruction
pub follows_rest : (task : Task) (rest : List ℕ) (at next : ℕ) → may_follow task at next ≡ true → get_or rest next 0 ≤ rest_behind rest at (instr_at task at)
follows_rest task rest at next follows =
    elim (follows_parts task at next follows) [
      | inl on ↦ falls (ends_code (instr_at task at)) (target_of (instr_at task at)) on.0 on.1
      | inr jump ↦ jumps (ends_code (instr_at task at)) (target_of (instr_at task at)) jump
    ]
  where
    falls : (ends : Bool) (o : Option ℕ) → ends ≡ false → next ≡ at + 1 → get_or rest next 0 ≤ behind rest at ends o
    falls true o onward is = absurd cc
    falls false o onward is = let same : get_or rest next 0 ≡ get_or rest (at + 1) 0 = ap (λ n. get_or rest n 0) is in omega arith

    jumps : (ends : Bool) (o : Option ℕ) → o ≡ Some next → get_or rest next 0 ≤ behind rest at ends o
    jumps ends None is = absurd cc
    jumps ends (Some i) is = let same : get_or rest i 0 ≡ get_or rest next 0 = (let e : i ≡ next = cc in ap (λ n. get_or rest n 0) e) in omega arith

-- what is spent behind a step
abbrev pub spent_behind : List Instr → Given → Room → ℕ → Stepped → Spent
spent_behind code given room left step = elim step as (λ _. Spent) [ GoesOn next ↦ running_on code given room left next | IsOver outcome ↦ reads 0 | HasTrapped trap ↦ reads 0 ]

-- forward code takes no more than the rest of the offset that it is at
pub forward_takes : (task : Task) (rest : List ℕ) (given : Given) (room : Room) (left : ℕ) (c : Config) → IsClosed task → are_rests task rest ≡ true → c.cpu.at < length task.code →
    (running_on task.code given room left c).accesses ≤ get_or rest c.cpu.at 0
forward_takes task rest given room zero c closed right inside = omega arith
forward_takes task rest given room (suc left) c closed right inside =
    by_step (execute (act_of (instr_at task c.cpu.at) given c.cpu) given room c) (next_follows (instr_at task c.cpu.at) given room c)
    (λ next within. forward_takes task rest given room left next closed right within)
  where
    by_step : (step : Stepped) → GoesBy (MayGo c.cpu.at (instr_at task c.cpu.at)) step →
        ((next : Config) → next.cpu.at < length task.code → (running_on task.code given room left next).accesses ≤ get_or rest next.cpu.at 0) →
        1 + ((acting (act_of (instr_at task c.cpu.at) given c.cpu) room c.effects).accesses + (spent_behind task.code given room left step).accesses) ≤ get_or rest c.cpu.at 0
    by_step (GoesOn next) goes more =
        let takes = instr_takes (instr_at task c.cpu.at) given room c in
        let is = rest_at task rest c.cpu.at right inside in
        let within = follows_inside task c.cpu.at next.cpu.at closed inside goes in
        let behind = follows_rest task rest c.cpu.at next.cpu.at goes in
        let after = more next within in
        omega arith
    by_step (IsOver outcome) goes more =
        let takes = instr_takes (instr_at task c.cpu.at) given room c in
        let is = rest_at task rest c.cpu.at right inside in
        omega arith
    by_step (HasTrapped trap) goes more =
        let takes = instr_takes (instr_at task c.cpu.at) given room c in
        let is = rest_at task rest c.cpu.at right inside in
        omega arith

-- no instruction is heavier than the heaviest
weight_most : (code : List Instr) (n : ℕ) → 0 < length code → weight (get_or code n Done) ≤ greatest_weight code
weight_most code n some =
    elim (cases_lt n (length code)) [
      | inl inside ↦ max_bounds greatest_weight weight (omega arith) (λ x xs. omega arith) code n Done inside
      | inr past ↦ let is : weight (get_or code n Done) ≡ 1 = ap weight (get_or_past code n Done past) in let one = first_weighs code some in omega arith
    ]
  where
    weighs : (i : Instr) → 1 ≤ weight i
    weighs (Send p a b) = omega arith
    weighs _ = omega arith

    first_weighs : (l : List Instr) → 0 < length l → 1 ≤ greatest_weight l
    first_weighs [] some = absurd (omega arith)
    first_weighs (i ∷ l) some = let one = weighs i in omega arith

-- any code takes the heaviest as often as it may
pub looped_takes : (code : List Instr) (given : Given) (room : Room) (left : ℕ) (c : Config) → 0 < length code → (running_on code given room left c).accesses ≤ left * greatest_weight code
looped_takes code given room zero c some = omega arith
looped_takes code given room (suc left) c some =
    by_step (execute (act_of (get_or code c.cpu.at Done) given c.cpu) given room c) (λ next. looped_takes code given room left next some)
  where
    by_step : (step : Stepped) → ((next : Config) → (running_on code given room left next).accesses ≤ left * greatest_weight code) →
        1 + ((acting (act_of (get_or code c.cpu.at Done) given c.cpu) room c.effects).accesses + (spent_behind code given room left step).accesses) ≤ suc left * greatest_weight code
    by_step (GoesOn next) more =
        let takes = instr_takes (get_or code c.cpu.at Done) given room c in
        let few = weight_most code c.cpu.at some in
        let after = more next in
        omega arith
    by_step (IsOver outcome) more = let takes = instr_takes (get_or code c.cpu.at Done) given room c in let few = weight_most code c.cpu.at some in omega arith
    by_step (HasTrapped trap) more = let takes = instr_takes (get_or code c.cpu.at Done) given room c in let few = weight_most code c.cpu.at some in omega arith

-- each instruction is right, also those past the code
pub right_at : (program : Program) (task : Task) (n : ℕ) → IsRightTask program task → IsRightInstr program task (instr_at task n)
right_at program task n right =
    elim (cases_lt n (length task.code)) [
      | inl inside ↦ right.instrs n inside
      | inr past ↦ subst (λ (i : Instr). IsRightInstr program task i) (sym (get_or_past task.code n Done past)) tt
    ]

-- a run writes to the pages of its thread's block
pub run_within : (program : Program) (task : Task) (given : Given) (room : Room) (left : ℕ) (c : Config) (size : ℕ) → length program.pipes ≤ 8 → length program.timers ≤ 8 → IsRightTask program task →
    length c.effects.state ≡ size → LieWithin (block_of size) (running_on task.code given room left c).writes
run_within program task given room zero c size pipes timers right is = tt
run_within program task given room (suc left) c size pipes timers right is =
    by_step (execute (act_of (instr_at task c.cpu.at) given c.cpu) given room c) (state_stays (act_of (instr_at task c.cpu.at) given c.cpu) given room c)
    (λ next same. run_within program task given room left next size pipes timers right same)
  where
    by_step : (step : Stepped) → GoesBy (λ (next : Config). length next.effects.state ≡ length c.effects.state) step →
        ((next : Config) → length next.effects.state ≡ size → LieWithin (block_of size) (running_on task.code given room left next).writes) →
        LieWithin (block_of size) ((acting (act_of (instr_at task c.cpu.at) given c.cpu) room c.effects).writes ++ (spent_behind task.code given room left step).writes)
    by_step (GoesOn next) same more =
        within_both (block_of size) _ _ (step_within program task (instr_at task c.cpu.at) given room c size pipes timers (right_at program task c.cpu.at right) is) (more next (same ∙ is))
    by_step (IsOver outcome) same more =
        within_both (block_of size) _ _ (step_within program task (instr_at task c.cpu.at) given room c size pipes timers (right_at program task c.cpu.at right) is) tt
    by_step (HasTrapped trap) same more =
        within_both (block_of size) _ _ (step_within program task (instr_at task c.cpu.at) given room c size pipes timers (right_at program task c.cpu.at right) is) tt

-- a run that ends
abbrev pub EndsWell : RunEnd → Type 0
EndsWell (Ended outcome effects left) = IsNoTrap outcome
EndsWell (Trapped code left) = ⊥

-- forward code without an instruction that may trap doesn't
pub run_well : (task : Task) (given : Given) (room : Room) (left : ℕ) (c : Config) → IsClosed task → goes_up task ≡ true → list_any may_trap task.code ≡ false → c.cpu.at < length task.code →
    length task.code ≤ left + c.cpu.at → EndsWell (run task.code given room left c)
run_well task given room zero c closed up safe inside enough = absurd (omega arith)
run_well task given room (suc left) c closed up safe inside enough =
    by_step (execute (act_of (instr_at task c.cpu.at) given c.cpu) given room c) (next_follows (instr_at task c.cpu.at) given room c) (step_well (instr_at task c.cpu.at) given room c safe_here)
    (λ next within left_is. run_well task given room left next closed up safe within left_is)
  where
    safe_here : may_trap (instr_at task c.cpu.at) ≡ false
    safe_here = elim (cases_Bool (may_trap (instr_at task c.cpu.at))) [
      | inl traps ↦ absurd (false≢true (sym safe ∙ list_any_at may_trap task.code c.cpu.at Done inside traps))
      | inr safely ↦ safely
    ]

    by_step : (step : Stepped) → GoesBy (MayGo c.cpu.at (instr_at task c.cpu.at)) step → GoesWell step →
        ((next : Config) → next.cpu.at < length task.code → length task.code ≤ left + next.cpu.at → EndsWell (run task.code given room left next)) →
        EndsWell (elim step as (λ _. RunEnd) [ GoesOn next ↦ run task.code given room left next | IsOver outcome ↦ Ended outcome c.effects left | HasTrapped trap ↦ Trapped trap left ])
    by_step (GoesOn next) goes well more =
        let later = follows_later task c.cpu.at next.cpu.at up inside goes in
        more next (follows_inside task c.cpu.at next.cpu.at closed inside goes) (omega arith)
    by_step (IsOver outcome) goes well more = well
    by_step (HasTrapped trap) goes well more = absurd well
