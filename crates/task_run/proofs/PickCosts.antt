-- What is left at a pick is what its task costs.
use Rattle.task_run.proofs.Common.{◌≡◌, ℕ, ◌+◌, ◌-◌, false, if◌then◌else◌, List, ◌++◌, arith, refl, ap, ◌∙◌, sym, inl, inr, append-nil, cases_Bool, Option, Some, None, Event, Origin, TaskId, Memory, no_writes, Program, RunEnd, Ended, Trapped, task_end, first_config, Pick, Model, ScanModel, ThreadModel, thread_of, is_running, pending, end_at, Saved, saved, IsPicked, begin, first_phase, running_task, execution_of, WriteFirst, Assignment, assignment, whole}
use Rattle.ink_base.specs.declared.event.Origin.TheVariants as origins
use Rattle.fram_words.specs.Header as header
use Rattle.task_isa.specs.declared.outcome.Outcome.TheVariants as outcomes
use Rattle.never_cut.specs.Cost as costs
use Rattle.never_cut.specs.Cost.{Spent, reads, followed_by, with_copies, serving, cost, cost_of}
use Rattle.task_run.specs.declared.ending.Ending.TheVariants as endings
use Rattle.task_run.specs.kept.Left.{Rest, left_in, end_spent, ending_rest, start_spent, behind_run, run_spent, run_rest, rest, left}
use Rattle.task_run.proofs.Resumes.{late-idle}
use Rattle.task_run.proofs.RunLefts.{copies_same, fresh_rest}

-- the cost of the pick's event at the pick's time
cost_is : (program : Program) (words : Memory) (m : Model) (pick : Pick) → IsPicked program words m pick →
    cost program m pick.thread.0 ≡ cost_of program m pick.thread.0 pick.event pick.time
cost_is program words m pick p =
    let t : ℕ = pick.thread.0 in
    ap (λ (s : Option ScanModel). elim s as (λ _. ℕ) [ None ↦ 0 | Some scan ↦ elim (pending program m t) as (λ _. ℕ) [ None ↦ 0 | Some e ↦ cost_of program m t e scan.time ] ]) p.scanned
    ∙ (ap (λ (o : Option Event). elim o as (λ _. ℕ) [ None ↦ 0 | Some e ↦ cost_of program m t e p.scan.time ]) p.pending_is
    ∙ ap (cost_of program m t pick.event) (sym p.time))

-- an end, and the store of the commit word behind it
end_costs : (s e : Spent) → with_copies (followed_by s (followed_by e (reads 1))) ≡ with_copies (followed_by s e) + 1
end_costs s e =
    let same : with_copies (followed_by s (followed_by e (reads 1))) ≡ with_copies (record { accesses = s.accesses + (e.accesses + 1); writes = s.writes ++ e.writes }) =
    copies_same (followed_by s (followed_by e (reads 1))) (record { accesses = s.accesses + (e.accesses + 1); writes = s.writes ++ e.writes }) refl (ap (λ l. s.writes ++ l) (append-nil e.writes))
    in omega arith

only_end_costs : (e : Spent) → with_copies (followed_by e (reads 1)) ≡ with_copies e + 1
only_end_costs e =
    let same : with_copies (followed_by e (reads 1)) ≡ with_copies (record { accesses = e.accesses + 1; writes = e.writes }) =
    copies_same (followed_by e (reads 1)) (record { accesses = e.accesses + 1; writes = e.writes }) refl (append-nil e.writes)
    in omega arith

run_end_costs : (s r e : Spent) → with_copies (followed_by s (followed_by r (followed_by e (reads 1)))) ≡ with_copies (followed_by s (followed_by r e)) + 1
run_end_costs s r e =
    let same : with_copies (followed_by s (followed_by r (followed_by e (reads 1))))
    ≡ with_copies (record { accesses = s.accesses + (r.accesses + (e.accesses + 1)); writes = s.writes ++ (r.writes ++ e.writes) }) =
    copies_same (followed_by s (followed_by r (followed_by e (reads 1)))) (record { accesses = s.accesses + (r.accesses + (e.accesses + 1)); writes = s.writes ++ (r.writes ++ e.writes) }) refl
    (ap (λ l. s.writes ++ (r.writes ++ l)) (append-nil e.writes))
    in omega arith

-- a trap, and the service once more behind it
trap_costs : (s r e : Spent) → with_copies (followed_by s (followed_by r (reads 0))) + with_copies (followed_by s (followed_by e (reads 1)))
    ≡ with_copies (followed_by s r) + with_copies (followed_by s e) + 1
trap_costs s r e =
    let same : with_copies (followed_by s (followed_by r (reads 0))) ≡ with_copies (followed_by s r) =
    copies_same (followed_by s (followed_by r (reads 0))) (followed_by s r) (omega arith) (ap (λ l. s.writes ++ l) (append-nil r.writes))
    in
    let more = end_costs s e in
    omega arith

-- the whole service, by the end of its run
serving_costs : (limit : ℕ) (state : List ℕ) (w : RunEnd) (pick : Pick) (r : Spent) →
    with_copies (followed_by (start_spent pick) (followed_by r (behind_run w pick).spent)) + (behind_run w pick).behind
    ≡ serving (task_end limit state w).outcome (start_spent pick) r pick.event + 1
serving_costs limit state (Ended (outcomes.Next task) e left) pick r = let all = run_end_costs (start_spent pick) r costs.continuing in omega arith
serving_costs limit state (Ended outcomes.Done e left) pick r = let all = run_end_costs (start_spent pick) r (costs.ending header.served pick.event) in omega arith
serving_costs limit state (Ended (outcomes.Trap code) e left) pick r = trap_costs (start_spent pick) r (costs.ending header.trapped pick.event)
serving_costs limit state (Trapped code left) pick r = trap_costs (start_spent pick) r (costs.ending header.trapped pick.event)

module _ (program : Program) (words : Memory) (m : Model) (pick : Pick) (stamp : ℕ) (p : IsPicked program words m pick) where
  abbrev a : Assignment
  a = assignment program m pick

  abbrev x : Saved
  x = saved program m pick.thread.0

  abbrev thread : ThreadModel
  thread = thread_of m pick.thread.0

  -- the run of the cost is the run of the assignment
  run_is : run_spent a x 0 ≡ costs.running_at program m pick.thread.0 pick.event pick.time
  run_is =
      let all : a.limit - 0 ≡ a.limit = omega arith in
      ap (λ k. costs.running_on a.code a.given a.room k (first_config x.state)) all

  -- a service that is not late costs its start, its run and what is behind it
  early_costs : a.late ≡ false → costs.starting (is_running thread) pick.event.origin ≡ start_spent pick →
      with_copies (followed_by (start_spent pick) (followed_by (run_spent a x 0) (behind_run (whole a x) pick).spent)) + (behind_run (whole a x) pick).behind
      ≡ cost_of program m pick.thread.0 pick.event pick.time
  early_costs early start =
      let outcome = (end_at program m pick.thread.0 pick.event pick.time).outcome in
      let run : Spent = costs.running_at program m pick.thread.0 pick.event pick.time in
      serving_costs a.limit x.state (whole a x) pick (run_spent a x 0)
      ∙ (ap (λ z. serving outcome (start_spent pick) z pick.event + 1) run_is
      ∙ (ap (λ z. serving outcome z run pick.event + 1) (sym start)
      ∙ ap (λ c. (if c then with_copies (costs.ending header.expired pick.event) else serving outcome (costs.starting (is_running thread) pick.event.origin) run pick.event) + 1)
      (sym early)))

  -- where a service begins
  idle_spent : (o : Origin) → pick.event.origin ≡ o → pick.running ≡ None →
      (let z = rest a x pick endings.Done (execution_of (running_task pick.running)) WriteFirst in
      with_copies z.spent ≡ with_copies (followed_by (start_spent pick) (followed_by (run_spent a x 0) (behind_run (whole a x) pick).spent)))
  idle_spent (origins.Source source count) is idle =
      copies_same (rest a x pick endings.Done (execution_of (running_task pick.running)) WriteFirst).spent
      (followed_by (start_spent pick) (followed_by (run_spent a x 0) (behind_run (whole a x) pick).spent)) (rw (idle, is) (omega arith)) (rw (idle, is) refl)
  idle_spent (origins.Pipe pipe item) is idle =
      copies_same (rest a x pick endings.Done (execution_of (running_task pick.running)) WriteFirst).spent
      (followed_by (start_spent pick) (followed_by (run_spent a x 0) (behind_run (whole a x) pick).spent)) (rw (idle, is) (omega arith)) (rw (idle, is) refl)
  idle_spent (origins.Timer timer deadline) is idle =
      copies_same (rest a x pick endings.Done (execution_of (running_task pick.running)) WriteFirst).spent
      (followed_by (start_spent pick) (followed_by (run_spent a x 0) (behind_run (whole a x) pick).spent)) (rw (idle, is) (omega arith)) (rw (idle, is) refl)

  running_is : (running : Option TaskId) → pick.running ≡ running → is_running thread ≡ is_running (record thread { running = running })
  running_is running is = ap (λ (r : Option TaskId). is_running (record thread { running = r })) (sym p.running ∙ is)

  by_running : (running : Option TaskId) → pick.running ≡ running →
      left_in (no_writes pick.commit_word) (rest a x pick endings.Done (execution_of (running_task pick.running)) (first_phase running)) ≡ cost_of program m pick.thread.0 pick.event pick.time
  by_running None is =
      let z : Rest = rest a x pick endings.Done (execution_of (running_task pick.running)) WriteFirst in
      fresh_rest pick.commit_word z
      ∙ (ap (λ n. n + z.behind) (idle_spent pick.event.origin refl is)
      ∙ early_costs (late-idle program words m pick p is) (ap (λ c. costs.starting c pick.event.origin) (running_is None is) ∙ rw is refl))
  by_running (Some task) is =
      elim (cases_Bool a.late) [
        | inl late ↦
            ap (λ c. left_in (no_writes pick.commit_word) (if c then ending_rest endings.Expired pick.event else run_rest a x pick 0)) late
            ∙ (fresh_rest pick.commit_word (ending_rest endings.Expired pick.event)
            ∙ (let one = only_end_costs (costs.ending header.expired pick.event) in
            let all : with_copies (end_spent endings.Expired pick.event) + 0 ≡ with_copies (costs.ending header.expired pick.event) + 1 = omega arith in all)
            ∙ ap (λ c. (if c then with_copies (costs.ending header.expired pick.event)
            else serving (end_at program m pick.thread.0 pick.event pick.time).outcome (costs.starting (is_running thread) pick.event.origin) (costs.running_at program m pick.thread.0 pick.event pick.time) pick.event) + 1) (sym late))
        | inr early ↦
            let start : costs.starting (is_running thread) pick.event.origin ≡ start_spent pick = ap (λ c. costs.starting c pick.event.origin) (running_is (Some task) is) ∙ rw is refl in
            let z : Rest = run_rest a x pick 0 in
            ap (λ c. left_in (no_writes pick.commit_word) (if c then ending_rest endings.Expired pick.event else z)) early
            ∙ (fresh_rest pick.commit_word z
            ∙ (ap (λ n. n + z.behind)
            (copies_same z.spent (followed_by (start_spent pick) z.spent) (rw is (omega arith)) (rw is refl))
            ∙ early_costs early start))
      ]

  -- what is left at the pick
  pub pick_costs : left program m (begin pick stamp) ≡ cost program m pick.thread.0
  pick_costs = by_running pick.running refl ∙ sym (cost_is program words m pick p)
