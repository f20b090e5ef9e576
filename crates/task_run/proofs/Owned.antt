-- A task sends to pipes that its thread writes, sets timers of its thread, and goes on with tasks of its thread.
use Rattle.task_run.proofs.Common.{◌≡◌, ℕ, zero, suc, ◌<◌, true, false, List, [], ◌∷◌, ◌++◌, length, sym, inl, inr, subst, ◌==◌, nat_lt, Bool, if◌then◌else◌, cases_Bool, cases_lt, get_or_past, Instr, Divu, Remu, Send, Arm, Stop, Next, Done, Act, Sets, Goes, Loads, Saves, Puts, Sends, Arms, Stops, Continues, Ends, Traps, Program, Task, Sent, TimerSet, Given, Cpu, reg, Effects, Config, Room, RunEnd, Ended, Trapped, run, execute, GoesOn, IsOver, HasTrapped, has_room, Stepped, task_end, no_effects, first_config, task_def, instr_at, IsAccepted, IsRightInstr, IsRightTask, Pick, Model, Readings, IsSound, Saved, saved, Assignment, assignment, whole, end_of, effects_of, result}
use Rattle.task_isa.specs.Acts.{act_of}
use Rattle.task_isa.specs.declared.outcome.Outcome.TheVariants as outcomes
use Rattle.task_run.proofs.Acts.{IsOwnTask, own_task}
use Rattle.task_run.proofs.PipeWords.{IsOwnPipe, AreOwnSends}
use Rattle.task_run.proofs.TimerWords.{IsOwnTimer, AreOwnSettings}

abbrev pub IsOwnAct : Program → ℕ → Act → Type 0
IsOwnAct program t (Sends q a v) = IsOwnPipe program t q
IsOwnAct program t (Arms j delay period) = IsOwnTimer program t j
IsOwnAct program t (Stops j) = IsOwnTimer program t j
IsOwnAct program t (Continues x) = IsOwnTask program t x
IsOwnAct program t _ = Unit {0}

own_instr : (program : Program) (task : Task) (i : Instr) (given : Given) (cpu : Cpu) → IsRightInstr program task i → IsOwnAct program task.thread.0 (act_of i given cpu)
unfolding act_of
own_instr program task (Send i a b) given cpu right = record { known = right.0; writer = right.1 }
own_instr program task (Arm i a b) given cpu right = record { known = right.0; thread = right.1 }
own_instr program task (Stop i) given cpu right = record { known = right.0; thread = right.1 }
own_instr program task (Next i) given cpu right = record { known = right.0; own = right.1 }
own_instr program task (Divu a b c) given cpu right = elim (cases_Bool (reg cpu c == 0)) [ inl t ↦ rw t tt | inr f ↦ rw f tt ]
own_instr program task (Remu a b c) given cpu right = elim (cases_Bool (reg cpu c == 0)) [ inl t ↦ rw t tt | inr f ↦ rw f tt ]
own_instr program task _ given cpu right = tt

own_done : (program : Program) (t : ℕ) (given : Given) (cpu : Cpu) → IsOwnAct program t (act_of Done given cpu)
unfolding act_of
own_done program t given cpu = tt

-- each act of a task; beyond its code stands the end
pub own_act : (program : Program) (task : Task) (n : ℕ) (given : Given) (cpu : Cpu) → IsRightTask program task → IsOwnAct program task.thread.0 (act_of (instr_at task n) given cpu)
own_act program task n given cpu right =
    elim (cases_lt n (length task.code)) [
      | inl lt ↦ own_instr program task (instr_at task n) given cpu (right.instrs n lt)
      | inr ge ↦
          let none : instr_at task n ≡ Done = get_or_past task.code n Done ge in
          subst (λ i. IsOwnAct program task.thread.0 (act_of i given cpu)) (sym none) (own_done program task.thread.0 given cpu)
    ]

-- what a task has done so far
pub record AreOwn (program : Program) (t : ℕ) (e : Effects) : Type 0 where
  pub sends : AreOwnSends program t e.sends
  pub timers : AreOwnSettings program t e.timers

own-send : (program : Program) (t : ℕ) (sends : List Sent) (s : Sent) → AreOwnSends program t sends → IsOwnPipe program t s.pipe.0 → AreOwnSends program t (sends ++ s ∷ [])
own-send program t [] s own more = (more, tt)
own-send program t (x ∷ sends) s own more = (own.0, own-send program t sends s own.1 more)

own-setting : (program : Program) (t : ℕ) (settings : List TimerSet) (s : TimerSet) → AreOwnSettings program t settings → IsOwnTimer program t s.timer.0 →
    AreOwnSettings program t (settings ++ s ∷ [])
own-setting program t [] s own more = (more, tt)
own-setting program t (x ∷ settings) s own more = (own.0, own-setting program t settings s own.1 more)

abbrev IsOwnStep : Program → ℕ → Stepped → Type 0
IsOwnStep program t (GoesOn next) = AreOwn program t next.effects
IsOwnStep program t (IsOver (outcomes.Next task)) = IsOwnTask program t task.0
IsOwnStep program t (IsOver outcomes.Done) = Unit {0}
IsOwnStep program t (IsOver (outcomes.Trap code)) = ⊥
IsOwnStep program t (HasTrapped code) = Unit {0}

own_step : (program : Program) (t : ℕ) (act : Act) (given : Given) (room : Room) (c : Config) → IsOwnAct program t act → AreOwn program t c.effects →
    IsOwnStep program t (execute act given room c)
own_step program t (Sets a v) given room c own e = e
own_step program t (Goes offset) given room c own e = e
own_step program t (Loads a n) given room c own e = elim (cases_Bool (nat_lt n (length c.effects.state))) [ inl h ↦ rw h e | inr h ↦ rw h tt ]
own_step program t (Saves n v) given room c own e =
    elim (cases_Bool (nat_lt n (length c.effects.state))) [ inl h ↦ rw h (record { sends = e.sends; timers = e.timers }) | inr h ↦ rw h tt ]
own_step program t (Puts v) given room c own e =
    elim (cases_Bool (nat_lt (length c.effects.outs) room.log)) [ inl h ↦ rw h (record { sends = e.sends; timers = e.timers }) | inr h ↦ rw h tt ]
own_step program t (Sends q a v) given room c own e =
    elim (cases_Bool (has_room room q c.effects.sends)) [
      | inl h ↦ rw h (record { sends = own-send program t c.effects.sends (record { pipe = record { 0 = q }; value = v }) e.sends own; timers = e.timers })
      | inr h ↦ rw h e
    ]
own_step program t (Arms j delay period) given room c own e = record { sends = e.sends; timers = own-setting program t c.effects.timers _ e.timers own }
own_step program t (Stops j) given room c own e = record { sends = e.sends; timers = own-setting program t c.effects.timers _ e.timers own }
own_step program t (Continues x) given room c own e = own
own_step program t Ends given room c own e = tt
own_step program t (Traps code) given room c own e = tt

abbrev pub IsOwnEnd : Program → ℕ → RunEnd → Type 0
IsOwnEnd program t (Ended (outcomes.Next task) e left) = AreOwn program t e × IsOwnTask program t task.0
IsOwnEnd program t (Ended outcomes.Done e left) = AreOwn program t e
IsOwnEnd program t (Ended (outcomes.Trap code) e left) = ⊥
IsOwnEnd program t (Trapped code left) = Unit {0}

own_next : (program : Program) (t : ℕ) (c : Config) (count : ℕ) (s : Stepped) (goes_on : Config → RunEnd) → AreOwn program t c.effects → IsOwnStep program t s →
    ((next : Config) → AreOwn program t next.effects → IsOwnEnd program t (goes_on next)) →
    IsOwnEnd program t (elim s as (λ _. RunEnd) [ GoesOn next ↦ goes_on next | IsOver outcome ↦ Ended outcome c.effects count | HasTrapped trap ↦ Trapped trap count ])
own_next program t c count (GoesOn next) goes_on e own more = more next own
own_next program t c count (IsOver (outcomes.Next x)) goes_on e own more = (e, own)
own_next program t c count (IsOver outcomes.Done) goes_on e own more = e
own_next program t c count (IsOver (outcomes.Trap code)) goes_on e own more = absurd own
own_next program t c count (HasTrapped trap) goes_on e own more = tt

pub own_run : (program : Program) (task : Task) (given : Given) (room : Room) (count : ℕ) (c : Config) → IsRightTask program task → AreOwn program task.thread.0 c.effects →
    IsOwnEnd program task.thread.0 (run task.code given room count c)
own_run program task given room zero c right e = tt
own_run program task given room (suc count) c right e =
    own_next program task.thread.0 c count (execute (act_of (instr_at task c.cpu.at) given c.cpu) given room c) (λ next. run task.code given room count next) e
    (own_step program task.thread.0 (act_of (instr_at task c.cpu.at) given c.cpu) given room c (own_act program task c.cpu.at given c.cpu right) e)
    (λ next own. own_run program task given room count next right own)

-- what a task leaves
own_end : (program : Program) (t limit : ℕ) (state : List ℕ) (w : RunEnd) → IsOwnEnd program t w → AreOwn program t (effects_of (task_end limit state w))
own_end program t limit state (Ended (outcomes.Next task) e left) own = record { sends = own.0.sends; timers = own.0.timers }
own_end program t limit state (Ended outcomes.Done e left) own = record { sends = own.sends; timers = own.timers }
own_end program t limit state (Ended (outcomes.Trap code) e left) own = absurd own
own_end program t limit state (Trapped code left) own = record { sends = tt; timers = tt }

own_late : (program : Program) (t : ℕ) (state : List ℕ) (late : Bool) (e : Effects) → AreOwn program t e → AreOwn program t (if late then no_effects state else e)
own_late program t state true e own = record { sends = tt; timers = tt }
own_late program t state false e own = own

pub own_result : (program : Program) (readings : Readings) (m : Model) (pick : Pick) → IsAccepted program → IsSound program readings m → pick.thread.0 < length program.threads →
    AreOwn program pick.thread.0 (result (assignment program m pick) (saved program m pick.thread.0))
own_result program readings m pick accepted sound known =
    let t : ℕ = pick.thread.0 in
    let a : Assignment = assignment program m pick in
    let x : Saved = saved program m t in
    let task : IsOwnTask program t a.task = own_task program readings m t accepted sound known in
    own_late program t x.state a.late (effects_of (end_of a x))
    (own_end program t a.limit x.state (whole a x)
    (subst (λ u. IsOwnEnd program u (whole a x)) task.own
    (own_run program (task_def program a.task) a.given a.room a.limit (first_config x.state) (accepted.tasks a.task task.known) (record { sends = tt; timers = tt }))))
