-- What is left of a service around one instruction of its run, and around a trap.
use Rattle.task_run.proofs.Common.{◌≡◌, ℕ, suc, ◌+◌, ◌-◌, ◌/◌, ◌<◌, ◌≤◌, Bool, true, false, cond, List, ◌∷◌, nat_lt, ltb-false, append_assoc, arith, refl, ap, ◌∙◌, sym, inl, inr, subst, cases_Bool, Option, Some, None, Origin, TaskId, Memory, Buffer, Loading, IsUnderWay, no_writes, is_dirty, after_copy, Program, Sent, Act, Cpu, Config, RunEnd, Ended, Trapped, Stepped, GoesOn, IsOver, HasTrapped, act_of, execute, run, first_config, task_def, Pick, Model, Saved, saved, Execution, WriteFirst, WriteNext, TaskMachine, trap, phase_again, proceed, Assignment, assignment, whole, config_of, IsTrap, told, RunningIn}
use Rattle.ink_base.specs.declared.event.Origin.TheVariants as origins
use Rattle.task_isa.specs.Meaning.{instr_at}
use Rattle.never_cut.specs.Cost.{Spent, reads, followed_by, acting, running_on, with_copies}
use Rattle.task_run.specs.declared.ending.Ending.TheVariants as endings
use Rattle.task_run.specs.kept.Left.{clean_pages, copied, Rest, left_in, before, end_spent, start_spent, again, behind_run, going, config_at, run_spent, run_rest, rest, left}
use Rattle.task_run.proofs.PageFalls.{left_is, left_same, plain_left, put_left, pages_fresh}
use Rattle.task_run.proofs.Runs.{IsAct, step_from, come_more}

-- the same accesses and writes take the same copies
pub copies_same : (x y : Spent) → x.accesses ≡ y.accesses → x.writes ≡ y.writes → with_copies x ≡ with_copies y
copies_same x y accesses writes = rw (accesses, writes) refl

-- before the first write all pages that are written are copied
pub fresh_rest : (commit : ℕ) (x : Rest) → left_in (no_writes commit) x ≡ with_copies x.spent + x.behind
fresh_rest commit x =
    let pages = pages_fresh commit x.spent.writes in
    let all = left_is (no_writes commit) x in
    omega arith

fresh_left : (commit : ℕ) (x : Rest) → x.behind ≡ 0 → left_in (no_writes commit) x ≡ with_copies x.spent
fresh_left commit x none = let all = fresh_rest commit x in omega arith

-- nothing is left but what is behind a trap
left_behind : (b : Buffer) (n : ℕ) → b.copying ≡ Loading 0 → left_in b (record { spent = reads 0; behind = n }) ≡ n
unfolding left_in clean_pages
left_behind b n fresh = let none : copied b.copying ≡ 0 = ap copied fresh in omega arith

trapped_run : (w : RunEnd) (pick : Pick) → IsTrap w → behind_run w pick ≡ record { spent = reads 0; behind = again pick }
trapped_run (Ended outcome effects left) pick ends = absurd ends
trapped_run (Trapped code left) pick ends = refl

-- the service once more, behind a trap
again_by : (a : Assignment) (x : Saved) (pick : Pick) (e : Execution) (commit : ℕ) (running : Option TaskId) → pick.running ≡ running →
    left_in (no_writes commit) (rest a x pick endings.Trapped e (phase_again running)) ≡ again pick
again_by a x pick e commit (Some task) is =
    fresh_left commit (rest a x pick endings.Trapped e WriteNext) refl
    ∙ copies_same (end_spent endings.Trapped pick.event) (followed_by (start_spent pick) (end_spent endings.Trapped pick.event)) (rw is (omega arith)) (rw is refl)
again_by a x pick e commit None is =
    fresh_left commit (rest a x pick endings.Trapped e WriteFirst) refl
    ∙ copies_same (rest a x pick endings.Trapped e WriteFirst).spent (followed_by (start_spent pick) (end_spent endings.Trapped pick.event)) (accesses pick.event.origin refl) (writes pick.event.origin refl)
  where
    accesses : (o : Origin) → pick.event.origin ≡ o → (rest a x pick endings.Trapped e WriteFirst).spent.accesses ≡ (followed_by (start_spent pick) (end_spent endings.Trapped pick.event)).accesses
    accesses (origins.Source source count) o = rw (is, o) (omega arith)
    accesses (origins.Pipe pipe item) o = rw (is, o) (omega arith)
    accesses (origins.Timer timer deadline) o = rw (is, o) (omega arith)

    writes : (o : Origin) → pick.event.origin ≡ o → (rest a x pick endings.Trapped e WriteFirst).spent.writes ≡ (followed_by (start_spent pick) (end_spent endings.Trapped pick.event)).writes
    writes (origins.Source source count) o = rw (is, o) refl
    writes (origins.Pipe pipe item) o = rw (is, o) refl
    writes (origins.Timer timer deadline) o = rw (is, o) refl

-- a trap leaves what was behind the run
pub trap_left : (program : Program) (m : Model) (r : TaskMachine) → r.buffer.copying ≡ Loading 0 → IsTrap (whole (assignment program m r.pick) (saved program m r.pick.thread.0)) →
    left_in r.buffer (behind_run (whole (assignment program m r.pick) (saved program m r.pick.thread.0)) r.pick) ≡ left program m (trap r)
trap_left program m r fresh ends =
    let a : Assignment = assignment program m r.pick in
    let x : Saved = saved program m r.pick.thread.0 in
    ap (left_in r.buffer) (trapped_run (whole a x) r.pick ends) ∙ (left_behind r.buffer (again r.pick) fresh ∙ sym (again_by a x r.pick r.execution r.buffer.commit r.pick.running refl))

-- an access of a write
pub put_falls : (program : Program) (m : Model) (words : Memory) (r : TaskMachine) (w word : ℕ) (next : TaskMachine) (y : Rest) →
    IsUnderWay words r.pick.thread.0 r.buffer (w / 8) →
    (let x = rest (assignment program m r.pick) (saved program m r.pick.thread.0) r.pick r.ending r.execution r.phase in
    x.spent.accesses ≡ suc y.spent.accesses → x.spent.writes ≡ w ∷ y.spent.writes → x.behind ≡ y.behind →
    (r.buffer.copying ≡ Loading 0 → left_in r.buffer y ≡ left program m next) →
    left program m r ≡ suc (left program m (cond (is_dirty r.buffer (w / 8)) next (record r { buffer = after_copy r.buffer (w / 8) r.buffer.copying word }))))
put_falls program m words r w word next y under accesses writes behind goes =
    let x : Rest = rest (assignment program m r.pick) (saved program m r.pick.thread.0) r.pick r.ending r.execution r.phase in
    put_left words r.pick.thread.0 r.buffer w word (left program m next) x y under accesses writes behind goes
    ∙ ap (λ n. suc n) (by_dirty (is_dirty r.buffer (w / 8)))
  where
    other : TaskMachine
    other = record r { buffer = after_copy r.buffer (w / 8) r.buffer.copying word }

    by_dirty : (dirty : Bool) → cond dirty (left program m next) (left program m other) ≡ left program m (cond dirty next other)
    by_dirty true = refl
    by_dirty false = refl

module _ (program : Program) (m : Model) (r : TaskMachine) (y : Saved) (sends : List Sent) (s o v : ℕ) (g : RunningIn (told program m r y sends s o v))
    (fresh : r.buffer.copying ≡ Loading 0) where
  abbrev a : Assignment
  a = assignment program m r.pick

  abbrev x : Saved
  x = saved program m r.pick.thread.0

  abbrev c : Config
  c = config_of r.execution g.effects

  abbrev behind : Rest
  behind = behind_run (whole a x) r.pick

  abbrev executed : ℕ
  executed = r.execution.executed

  -- the run is in its configuration
  pub config_now : config_at a x executed ≡ c
  config_now = ap (going (first_config x.state)) g.come

  -- what is spent behind one instruction
  abbrev pub after_step : Stepped → Spent
  after_step (GoesOn next) = running_on a.code a.given a.room (a.limit - (executed + 1)) next
  after_step (IsOver outcome) = reads 0
  after_step (HasTrapped code) = reads 0

  by_step : (st : Stepped) →
      (elim st [ GoesOn next ↦ running_on a.code a.given a.room (a.limit - (executed + 1)) next | IsOver outcome ↦ reads 0 | HasTrapped code ↦ reads 0 ]) ≡ after_step st
  by_step (GoesOn next) = refl
  by_step (IsOver outcome) = refl
  by_step (HasTrapped code) = refl

  -- the run of this configuration begins with this instruction
  unrolled : (act : Act) → IsAct (told program m r y sends s o v) act →
      run_spent a x executed ≡ followed_by (reads 1) (followed_by (acting act a.room g.effects) (after_step (execute act a.given a.room c)))
  unrolled act is =
      let more : a.limit - executed ≡ suc (a.limit - (executed + 1)) = (let lt : executed < a.limit = g.left in omega arith) in
      let now : Act = act_of (instr_at a.code c.cpu.at) a.given c.cpu in
      ap (running_on a.code a.given a.room (a.limit - executed)) config_now
      ∙ (ap (λ k. running_on a.code a.given a.room k c) more
      ∙ (ap (λ st. followed_by (reads 1) (followed_by (acting now a.room g.effects) st)) (by_step (execute now a.given a.room c))
      ∙ ap (λ j. followed_by (reads 1) (followed_by (acting j a.room g.effects) (after_step (execute j a.given a.room c)))) is))

  -- an instruction is fetched
  pub step_left : (act : Act) → IsAct (told program m r y sends s o v) act → (st : Stepped) → execute act a.given a.room c ≡ st → (spent : Spent) → acting act a.room g.effects ≡ spent →
      left_in r.buffer (run_rest a x r.pick executed) ≡ suc (left_in r.buffer (before spent (before (after_step st) behind)))
  step_left act is st does spent acts =
      let n : Spent = after_step st in
      ap (λ z. left_in r.buffer (before z behind))
      (unrolled act is ∙ (ap (λ z. followed_by (reads 1) (followed_by (acting act a.room g.effects) (after_step z))) does ∙ ap (λ z. followed_by (reads 1) (followed_by z n)) acts))
      ∙ plain_left r.buffer (before (followed_by (reads 1) (followed_by spent n)) behind) (before spent (before n behind)) fresh (omega arith)
      (append_assoc spent.writes n.writes behind.spent.writes) refl

  -- one behind which the run goes on
  pub goes_left : (act : Act) → IsAct (told program m r y sends s o v) act → (next : Config) → execute act a.given a.room c ≡ GoesOn next → (spent : Spent) →
      acting act a.room g.effects ≡ spent → left_in r.buffer (run_rest a x r.pick executed) ≡ suc (left_in r.buffer (before spent (run_rest a x r.pick (executed + 1))))
  goes_left act is next does spent acts =
      let come = come_more (told program m r y sends s o v) g act is (GoesOn next) does in
      step_left act is (GoesOn next) does spent acts
      ∙ ap (λ z. suc (left_in r.buffer (before spent (before (running_on a.code a.given a.room (a.limit - (executed + 1)) z) behind)))) (sym (ap (going (first_config x.state)) come))

  -- nothing more
  pub nothing_left : (z : Rest) → left_in r.buffer (before (reads 0) z) ≡ left_in r.buffer z
  nothing_left z = left_same r.buffer (before (reads 0) z) z (omega arith) refl refl

  -- after an instruction the run goes on, or is trapped at its limit
  pub proceed_left : (act : Act) → IsAct (told program m r y sends s o v) act → (next : Config) → execute act a.given a.room c ≡ GoesOn next → (cpu : Cpu) →
      left_in r.buffer (run_rest a x r.pick (executed + 1)) ≡ left program m (proceed program r cpu)
  proceed_left act is next does cpu =
      let same : (task_def program r.execution.task.0).limit ≡ a.limit = ap (λ k. (task_def program k).limit) g.task in
      let done : ℕ = executed + 1 in
      rw same
      elim (cases_Bool (nat_lt done a.limit)) [
        | inl t ↦ rw t refl
        | inr f ↦
            let over : a.limit ≤ done = ltb-false done a.limit f in
            let none : a.limit - done ≡ 0 = omega arith in
            let ends : run a.code a.given a.room 0 next ≡ whole a x =
            ap (λ k. run a.code a.given a.room k next) (sym none) ∙ step_from (told program m r y sends s o v) g act is (GoesOn next) does
            in
            rw f
            (ap (λ k. left_in r.buffer (before (running_on a.code a.given a.room k (config_at a x done)) behind)) none
            ∙ (nothing_left behind ∙ trap_left program m r fresh (subst (λ w. IsTrap w) ends tt)))
      ]
