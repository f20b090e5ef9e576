-- What straight code takes: its weight, less two for each send that finds no room.
use Rattle.std.proofs.Common.{◌≡◌, ℕ, zero, suc, ◌+◌, ◌*◌, ◌<◌, ◌≤◌, Bool, true, false, cond, List, [], ◌∷◌, length, get_or, sym, ◌∙◌, inl, inr, arith}
use Rattle.std.specs.Prelude.{if◌then◌else◌}
use Rattle.std.specs.List.{list_any}
use Rattle.std.proofs.lemmas.Bool.{cases_Bool, false≢true}
use Rattle.std.proofs.lemmas.List.Folds.{list_any_at}
use Rattle.fram_words.specs.Header as header
use Rattle.task_isa.specs.declared.instr.Instr.{Instr}
use Rattle.task_isa.specs.declared.instr.Instr.TheVariants.{Divu, Remu, Jmp, Jz, Jnz, Ld, St, Out, Send, Next, Done}
use Rattle.task_isa.specs.declared.program.Task.{Task}
use Rattle.task_isa.specs.Acts.{Given, act_of}
use Rattle.task_isa.specs.Meaning.{Config, Room, Stepped, GoesOn, IsOver, HasTrapped, execute, has_room}
use Rattle.prog_check.specs.Lookup.{instr_at}
use Rattle.never_cut.specs.Cost.{reads, acting, running_on}
use Rattle.ink_plan.specs.Code.{weight, goes_up, may_trap}
use Rattle.ink_plan.specs.Plans.{rest_behind, are_rests}
use Rattle.ink_plan.specs.Slack.{branches, refusal, refusals_on}
use Rattle.ink_plan.specs.kept.Closed.{IsClosed}
use Rattle.ink_plan.proofs.Rests.{rest_at}
use Rattle.ink_plan.proofs.Runs.{follows_inside, follows_later, spent_behind}
use Rattle.ink_plan.proofs.Steps.{GoesBy, MayGo, next_follows}

-- an instruction that can't trap takes its weight, or two less
instr_exact : (instr : Instr) (given : Given) (room : Room) (c : Config) → may_trap instr ≡ false →
    1 + (acting (act_of instr given c.cpu) room c.effects).accesses + 2 * refusal (act_of instr given c.cpu) room c.effects ≡ weight instr
unfolding act_of
instr_exact (Divu a b r) given room c safe = absurd cc
instr_exact (Remu a b r) given room c safe = absurd cc
instr_exact (Ld a b) given room c safe = absurd cc
instr_exact (St a b) given room c safe = absurd cc
instr_exact (Out a) given room c safe = absurd cc
instr_exact (Send i a b) given room c safe = by_room (has_room room i c.effects.sends)
  where
    by_room : (free : Bool) → 1 + (if free then record { accesses = 5; writes = header.written i ∷ [] } else reads 3).accesses + 2 * (if free then 0 else 1) ≡ 6
    by_room true = omega arith
    by_room false = omega arith
instr_exact _ given room c safe = omega arith

-- behind it the task goes on where the rest is, or is over
abbrev GoesExactly : List ℕ → (at : ℕ) → Instr → Stepped → Type 0
GoesExactly rest at instr (GoesOn next) = rest_behind rest at instr ≡ get_or rest next.cpu.at 0
GoesExactly rest at instr (IsOver outcome) = rest_behind rest at instr ≡ 0
GoesExactly rest at instr (HasTrapped code) = ⊥

exactly_either : (rest : List ℕ) (at : ℕ) (instr : Instr) (b : Bool) (x y : Stepped) → GoesExactly rest at instr x → GoesExactly rest at instr y → GoesExactly rest at instr (cond b x y)
exactly_either rest at instr true x y first second = first
exactly_either rest at instr false x y first second = second

step_exact : (rest : List ℕ) (instr : Instr) (given : Given) (room : Room) (c : Config) → may_trap instr ≡ false → branches instr ≡ false →
    GoesExactly rest c.cpu.at instr (execute (act_of instr given c.cpu) given room c)
unfolding act_of
step_exact rest (Divu a b r) given room c safe one = absurd cc
step_exact rest (Remu a b r) given room c safe one = absurd cc
step_exact rest (Ld a b) given room c safe one = absurd cc
step_exact rest (St a b) given room c safe one = absurd cc
step_exact rest (Out a) given room c safe one = absurd cc
step_exact rest (Jz a i) given room c safe one = absurd cc
step_exact rest (Jnz a i) given room c safe one = absurd cc
step_exact rest (Jmp i) given room c safe one = omega arith
step_exact rest (Next i) given room c safe one = omega arith
step_exact rest Done given room c safe one = omega arith
step_exact rest (Send i a b) given room c safe one = exactly_either rest c.cpu.at (Send i a b) (has_room room i c.effects.sends) _ _ (omega arith) (omega arith)
step_exact rest _ given room c safe one = omega arith

-- what is refused behind a step
abbrev refusals_behind : List Instr → Given → Room → ℕ → Stepped → ℕ
refusals_behind code given room left step = elim step as (λ _. ℕ) [ GoesOn next ↦ refusals_on code given room left next | IsOver outcome ↦ 0 | HasTrapped trap ↦ 0 ]

none_at : (test : Instr → Bool) (code : List Instr) (n : ℕ) → list_any test code ≡ false → n < length code → test (get_or code n Done) ≡ false
none_at test code n none inside =
    elim (cases_Bool (test (get_or code n Done))) [
      | inl here ↦ absurd (false≢true (sym none ∙ list_any_at test code n Done inside here))
      | inr absent ↦ absent
    ]

-- the run
pub straight_takes : (task : Task) (rest : List ℕ) (given : Given) (room : Room) (left : ℕ) (c : Config) → IsClosed task → goes_up task ≡ true → are_rests task rest ≡ true →
    list_any may_trap task.code ≡ false → list_any branches task.code ≡ false → c.cpu.at < length task.code → length task.code ≤ left + c.cpu.at →
    (running_on task.code given room left c).accesses + 2 * refusals_on task.code given room left c ≡ get_or rest c.cpu.at 0
straight_takes task rest given room zero c closed up right safe one inside enough = absurd (omega arith)
straight_takes task rest given room (suc left) c closed up right safe one inside enough =
    by_step (execute (act_of (instr_at task c.cpu.at) given c.cpu) given room c) (next_follows (instr_at task c.cpu.at) given room c)
    (step_exact rest (instr_at task c.cpu.at) given room c (none_at may_trap task.code c.cpu.at safe inside) (none_at branches task.code c.cpu.at one inside))
    (λ next within left_is. straight_takes task rest given room left next closed up right safe one within left_is)
  where
    by_step : (step : Stepped) → GoesBy (MayGo c.cpu.at (instr_at task c.cpu.at)) step → GoesExactly rest c.cpu.at (instr_at task c.cpu.at) step →
        ((next : Config) → next.cpu.at < length task.code → length task.code ≤ left + next.cpu.at →
        (running_on task.code given room left next).accesses + 2 * refusals_on task.code given room left next ≡ get_or rest next.cpu.at 0) →
        1 + ((acting (act_of (instr_at task c.cpu.at) given c.cpu) room c.effects).accesses + (spent_behind task.code given room left step).accesses)
        + 2 * (refusal (act_of (instr_at task c.cpu.at) given c.cpu) room c.effects + refusals_behind task.code given room left step)
        ≡ get_or rest c.cpu.at 0
    by_step (GoesOn next) goes exactly more =
        let takes = instr_exact (instr_at task c.cpu.at) given room c (none_at may_trap task.code c.cpu.at safe inside) in
        let is = rest_at task rest c.cpu.at right inside in
        let later = follows_later task c.cpu.at next.cpu.at up inside goes in
        let after = more next (follows_inside task c.cpu.at next.cpu.at closed inside goes) (omega arith) in
        omega arith
    by_step (IsOver outcome) goes exactly more =
        let takes = instr_exact (instr_at task c.cpu.at) given room c (none_at may_trap task.code c.cpu.at safe inside) in
        let is = rest_at task rest c.cpu.at right inside in
        omega arith
    by_step (HasTrapped trap) goes exactly more = absurd exactly
