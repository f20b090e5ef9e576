-- What a task of an accepted program leaves behind: it goes on with a task of its thread, ends its service or traps; it keeps the length of its state, sends
-- and puts out no more than there is room for, and only to pipes that its thread writes, and sets timers of its thread. Numbers keep 32 bits.
use Rattle.never_cut.proofs.Common.{◌≡◌, ℕ, zero, suc, ◌+◌, ◌<◌, ◌≤◌, ◌-◌, ◌==◌, ◌%◌, ◌^◌, Bool, true, false, cond, List, [], ◌∷◌, ◌++◌, length, Option, Some, None, refl, sym, ap, ◌∙◌, arith, subst, inl, inr, length-append, length-set, nat_lt, slice_index, ltb-true, ne_eqb, cases_eq, cases_lt, get_or_past, sum_by-append, All-nil, All-cons, All-append, Act, Sets, Goes, Loads, Saves, Puts, Sends, Arms, Stops, Continues, Ends, Traps, Instr, Done, Program, Task, Sent, TimerSet, TaskEnd, TaskStart, Given, Config, Effects, Room, Stepped, GoesOn, IsOver, HasTrapped, RunEnd, Ended, Trapped, execute, run, has_room, sent_to, task_end, task_of, run_of, given_of, room_of, first_config, no_effects, task_def, IsRightInstr, IsAccepted}
use Rattle.task_isa.specs.Acts.{act_of}
use Rattle.task_isa.specs.Meaning.{instr_at}
use Rattle.std.proofs.lemmas.Nat.{mod_below}
use Rattle.task_isa.specs.Code.{IsInstr}
use Rattle.never_cut.proofs.Values.{HaveBits, zeros_below, set_below, last_below}
use Rattle.never_cut.proofs.RightActs.{IsRightItem, IsRightSetting, IsRightOutcome, IsFitting, HasEventBits, IsRightAct, act_right}

abbrev StepFits : Program → (t size : ℕ) → Room → Stepped → Type 0
StepFits program t size room (GoesOn next) = IsFitting program t size room next.effects × HaveBits next.cpu.registers
StepFits program t size room (IsOver outcome) = IsRightOutcome program t outcome
StepFits program t size room (HasTrapped code) = Unit {0}

where_true : (program : Program) (t size : ℕ) (room : Room) (b : Bool) (x y : Stepped) → (b ≡ true → StepFits program t size room x) → StepFits program t size room y →
    StepFits program t size room (cond b x y)
where_true program t size room true x y h k = h refl
where_true program t size room false x y h k = k

-- one for an item that is sent to the pipe
abbrev pub counted : Bool → ℕ
counted b = cond b 1 0

-- how many items a pipe has got after one more
sent_to-more : (q : ℕ) (sends : List Sent) (s : Sent) → sent_to q (sends ++ s ∷ []) ≡ sent_to q sends + counted (s.pipe.0 == q)
sent_to-more q sends s = rw (sum_by-append (λ (x : Sent). cond (x.pipe.0 == q) 1 0) sends (s ∷ [])) (omega arith)

one_at_most : (b : Bool) → counted b ≤ 1
one_at_most true = omega arith
one_at_most false = omega arith

one_more : (room : Room) (sends : List Sent) (s : Sent) → ((q : ℕ) → sent_to q sends ≤ slice_index room.pipes q) → sent_to s.pipe.0 sends < slice_index room.pipes s.pipe.0 →
    (q : ℕ) → sent_to q (sends ++ s ∷ []) ≤ slice_index room.pipes q
one_more room sends s h free q =
    elim (cases_eq q s.pipe.0) [
      | inl same ↦
          let here : sent_to q sends < slice_index room.pipes q = subst (λ k. sent_to k sends < slice_index room.pipes k) (sym same) free in
          omega (arith, sent_to-more q sends s, one_at_most (s.pipe.0 == q), here)
      | inr apart ↦
          let other : counted (s.pipe.0 == q) ≡ 0 = ap counted (ne_eqb s.pipe.0 q (λ e. apart (sym e))) in
          omega (arith, sent_to-more q sends s, other, h q)
    ]

with_sent : (program : Program) (t size : ℕ) (room : Room) (e : Effects) (s : Sent) → IsFitting program t size room e → IsRightItem program t s → has_room room s.pipe.0 e.sends ≡ true →
    IsFitting program t size room (record e { sends = e.sends ++ s ∷ [] })
with_sent program t size room e s h right free = record {
  state = h.state;
  values = h.values;
  outs = h.outs;
  words = h.words;
  sent = one_more room e.sends s h.sent (ltb-true _ _ free);
  sends = All-append (IsRightItem program t) e.sends (s ∷ []) h.sends (All-cons (IsRightItem program t) s [] right (All-nil (IsRightItem program t)));
  timers = h.timers;
}

with_setting : (program : Program) (t size : ℕ) (room : Room) (e : Effects) (s : TimerSet) → IsFitting program t size room e → IsRightSetting program t s →
    IsFitting program t size room (record e { timers = e.timers ++ s ∷ [] })
with_setting program t size room e s h right = record {
  state = h.state;
  values = h.values;
  outs = h.outs;
  words = h.words;
  sent = h.sent;
  sends = h.sends;
  timers = All-append (IsRightSetting program t) e.timers (s ∷ []) h.timers (All-cons (IsRightSetting program t) s [] right (All-nil (IsRightSetting program t)));
}

armed_right : (program : Program) (t time j delay period : ℕ) → time < 2 ^ 47 → IsRightAct program t (Arms j delay period) →
    IsRightSetting program t (record { timer = record { 0 = j }; due = Some (time + delay); period = period })
armed_right program t time j delay period early right = record {
  known = right.0;
  own = right.1;
  due = λ due is. let same : time + delay ≡ due = ap (λ (o : Option ℕ). elim o [ None ↦ 0 | Some n ↦ n ]) is in let few = right.2 in omega arith;
  period = right.3;
}

stopped_right : (program : Program) (t j : ℕ) → IsRightAct program t (Stops j) → IsRightSetting program t (record { timer = record { 0 = j }; due = None; period = 0 })
stopped_right program t j right = record {
  known = right.0;
  own = right.1;
  due = λ due is. absurd (let clash : None ≡ Some due = is in cc);
  period = omega arith;
}

step_fits : (program : Program) (t size : ℕ) (act : Act) (given : Given) (room : Room) (c : Config) → given.time < 2 ^ 47 → IsRightAct program t act →
    IsFitting program t size room c.effects → HaveBits c.cpu.registers → StepFits program t size room (execute act given room c)
step_fits program t size (Sets a v) given room c early right h bits = (h, set_below c.cpu.registers a v right bits)
step_fits program t size (Goes offset) given room c early right h bits = (h, bits)
step_fits program t size (Loads a n) given room c early right h bits =
    where_true program t size room (nat_lt n (length c.effects.state)) _ _
    (λ _. (h, set_below c.cpu.registers a (slice_index c.effects.state n % 2 ^ 32) (mod_below (slice_index c.effects.state n) (2 ^ 32) (omega arith)) bits)) tt
step_fits program t size (Saves n v) given room c early right h bits =
    where_true program t size room (nat_lt n (length c.effects.state)) _ _
    (λ _. (
      record {
        state = length-set c.effects.state n v ∙ h.state;
        values = set_below c.effects.state n v right h.values;
        outs = h.outs;
        words = h.words;
        sent = h.sent;
        sends = h.sends;
        timers = h.timers;
      },
      bits,
    )) tt
step_fits program t size (Puts v) given room c early right h bits =
    where_true program t size room (nat_lt (length c.effects.outs) room.log) _ _
    (λ e. (
      record {
        state = h.state;
        values = h.values;
        outs = let lt : length c.effects.outs < room.log = ltb-true _ _ e in omega (arith, length-append c.effects.outs (v ∷ []));
        words = last_below c.effects.outs v right h.words;
        sent = h.sent;
        sends = h.sends;
        timers = h.timers;
      },
      bits,
    )) tt
step_fits program t size (Sends q a v) given room c early right h bits =
    where_true program t size room (has_room room q c.effects.sends) _ _ (λ free. (with_sent program t size room c.effects _ h right free, set_below c.cpu.registers a 1 (omega arith) bits))
    (h, set_below c.cpu.registers a 0 (omega arith) bits)
step_fits program t size (Arms j delay period) given room c early right h bits =
    (with_setting program t size room c.effects _ h (armed_right program t given.time j delay period early right), bits)
step_fits program t size (Stops j) given room c early right h bits = (with_setting program t size room c.effects _ h (stopped_right program t j right), bits)
step_fits program t size (Continues x) given room c early right h bits = right
step_fits program t size Ends given room c early right h bits = tt
step_fits program t size (Traps code) given room c early right h bits = tt

abbrev RunFits : Program → (t size : ℕ) → Room → RunEnd → Type 0
RunFits program t size room (Ended outcome e left) = IsRightOutcome program t outcome × IsFitting program t size room e
RunFits program t size room (Trapped code left) = Unit {0}

-- each instruction of a task is right, and its operands fit their bits
abbrev CodeFits : Program → Task → Type 0
CodeFits program task = (n : ℕ) → IsRightInstr program task (instr_at task.code n) × IsInstr (instr_at task.code n)

run_fits : (program : Program) (task : Task) (given : Given) (room : Room) (left size : ℕ) (c : Config) → CodeFits program task → HasEventBits given.event → given.time < 2 ^ 47 →
    IsFitting program task.thread.0 size room c.effects → HaveBits c.cpu.registers → RunFits program task.thread.0 size room (run task.code given room left c)
run_fits program task given room zero size c right event early h bits = tt
run_fits program task given room (suc left) size c right event early h bits =
    let i : Instr = instr_at task.code c.cpu.at in
    by_step (execute (act_of i given c.cpu) given room c)
    (step_fits program task.thread.0 size (act_of i given c.cpu) given room c early
    (act_right program task i given c.cpu (right c.cpu.at).0 (right c.cpu.at).1 event bits) h bits)
    (λ next k. run_fits program task given room left size next right event early k.0 k.1)
  where
    by_step : (step : Stepped) → StepFits program task.thread.0 size room step →
        ((next : Config) → IsFitting program task.thread.0 size room next.effects × HaveBits next.cpu.registers → RunFits program task.thread.0 size room (run task.code given room left next)) →
        RunFits program task.thread.0 size room (elim step [ GoesOn next ↦ run task.code given room left next | IsOver outcome ↦ Ended outcome c.effects left | HasTrapped trap ↦ Trapped trap left ])
    by_step (GoesOn next) k more = more next k
    by_step (IsOver outcome) k more = (k, h)
    by_step (HasTrapped trap) k more = tt

-- what a run that has ended leaves behind
abbrev pub effects_of : TaskEnd → Effects
effects_of end = record { state = end.state; sends = end.sends; outs = end.outs; timers = end.timers }

-- the end of a task of thread t: how it goes on, and its effects
pub record IsFittingEnd (program : Program) (t size : ℕ) (room : Room) (end : TaskEnd) : Type 0 where
  pub outcome : IsRightOutcome program t end.outcome
  pub effects : IsFitting program t size room (effects_of end)

no_effects_fit : (program : Program) (t size : ℕ) (room : Room) (state : List ℕ) → length state ≡ size → HaveBits state → IsFitting program t size room (no_effects state)
no_effects_fit program t size room state same values = record {
  state = same;
  values = values;
  outs = omega arith;
  words = λ k. omega arith;
  sent = λ q. omega arith;
  sends = All-nil (IsRightItem program t);
  timers = All-nil (IsRightSetting program t);
}

end_fits : (program : Program) (t size limit : ℕ) (room : Room) (state : List ℕ) (r : RunEnd) → length state ≡ size → HaveBits state → RunFits program t size room r →
    IsFittingEnd program t size room (task_end limit state r)
end_fits program t size limit room state (Ended outcome e left) same values h = record { outcome = h.0; effects = h.1 }
end_fits program t size limit room state (Trapped code left) same values h = record { outcome = tt; effects = no_effects_fit program t size room state same values }

-- so it is of each instruction of an accepted program's task, also of those beyond the code
code_fits : (program : Program) (x : ℕ) → IsAccepted program → x < length program.tasks → CodeFits program (task_def program x)
code_fits program x accepted known n =
    elim (cases_lt n (length (task_def program x).code)) [
      | inl less ↦ ((accepted.tasks x known).instrs n less, (accepted.tasks x known).fits n less)
      | inr past ↦ subst (λ (i : Instr). IsRightInstr program (task_def program x) i × IsInstr i) (sym (get_or_past (task_def program x).code n Done past))
          (tt, record { a_fits = omega arith; b_fits = omega arith; c_fits = omega arith; i_fits = omega arith })
    ]

-- the end of task x from a start
pub task_fits : (program : Program) (x t size : ℕ) (start : TaskStart) → IsAccepted program → x < length program.tasks → (task_def program x).thread.0 ≡ t → start.time < 2 ^ 47 →
    HasEventBits start.event → length start.state ≡ size → HaveBits start.state →
    IsFittingEnd program t size (room_of start) (task_of (task_def program x).code (task_def program x).limit start)
task_fits program x t size start accepted known own early event same values =
    let task : Task = task_def program x in
    subst (λ u. IsFittingEnd program u size (room_of start) (task_of task.code task.limit start)) own
    (end_fits program task.thread.0 size task.limit (room_of start) start.state (run_of task.code task.limit (given_of start) (room_of start) start.state) same values
    (run_fits program task (given_of start) (room_of start) task.limit size (first_config start.state) (code_fits program x accepted known) event early
    (no_effects_fit program task.thread.0 size (room_of start) start.state same values) (zeros_below 16)))
