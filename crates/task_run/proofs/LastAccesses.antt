-- The last access that remains is the commit, and the commit is the last.
use Rattle.task_run.proofs.Common.{◌≡◌, ℕ, zero, suc, ◌+◌, Bool, true, false, cond, refl, ap, ◌∙◌, sym, inl, inr, nat_lt, arith, false≢true, Memory, answer, Option, Some, None, TaskId, Origin, Act, Sets, Goes, Loads, Saves, Puts, Sends, Arms, Stops, Continues, Ends, Traps, Program, Cpu, act_of, advance_with, decoded, thread_def, task_def, pipe_def, Ending, Sending, Phase, WriteValue, WriteTaken, WriteDue, Resume, Fetch, ReadState, WriteState, ReadCount, WriteCount, ReadWritten, StoreItem, WriteWritten, WritePeriod, WriteStopped, WriteNext, StoreCommit, StoreAck, StoreEmpty, Over, TaskMachine, Action, Put, Get, Make, action, is_late, given_by, cpu_of, want, after, after_act, after_action, after_event, after_value, after_written, after_next, end_phase, phase_again, instr_of, at_phase, proceed, trap}
use Rattle.event_pipe.specs.Ring.{has_room}
use Rattle.ink_base.specs.declared.event.Origin.TheVariants as origins
use Rattle.ink_layout.specs.declared.kernel_point.KernelPoint.TheVariants as points
use Rattle.task_run.specs.declared.ending.Ending.TheVariants as endings
use Rattle.task_run.specs.Machine.{after_resume, point_at}
use Rattle.task_run.specs.Remaining.{is_committed, IsRemaining, EveryLastCommits, EveryCommitIsLast}
use Rattle.task_run.proofs.Counting.{machine_next}
use Rattle.task_run.proofs.Keeping.{IsBefore}
use Rattle.task_run.proofs.Remains.{phase_kind, commit_next}

-- the commit is not made
abbrev IsAlive : TaskMachine → Type 0
IsAlive r = is_committed r.phase ≡ false

one_alive : (c : Bool) (x y : TaskMachine) → IsAlive x → IsAlive y → IsAlive (cond c x y)
one_alive true x y here there = here
one_alive false x y here there = there

again_alive : (running : Option TaskId) → is_committed (phase_again running) ≡ false
again_alive None = refl
again_alive (Some task) = refl

end_alive : (o : Origin) → is_committed (end_phase o) ≡ false
end_alive (origins.Source source count) = refl
end_alive (origins.Pipe pipe item) = refl
end_alive (origins.Timer timer deadline) = refl

next_alive : (k : Ending) (o : Origin) → is_committed (after_next k o) ≡ false
next_alive (endings.Next task) o = refl
next_alive endings.Done o = end_alive o
next_alive endings.Trapped o = end_alive o
next_alive endings.Expired o = end_alive o

module _ (program : Program) (r : TaskMachine) where
  trap_alive : IsAlive (trap r)
  trap_alive = again_alive r.pick.running

  proceed_alive : (cpu : Cpu) → IsAlive (proceed program r cpu)
  proceed_alive cpu = one_alive (nat_lt (r.execution.executed + 1) (task_def program r.execution.task.0).limit) _ _ refl trap_alive

  act_alive : (act : Act) → IsAlive (after_act program r act)
  act_alive (Sets a v) = proceed_alive _
  act_alive (Goes offset) = proceed_alive _
  act_alive (Loads a n) = one_alive (nat_lt n (thread_def program r.pick.thread.0).state) _ _ refl trap_alive
  act_alive (Saves n v) = one_alive (nat_lt n (thread_def program r.pick.thread.0).state) _ _ refl trap_alive
  act_alive (Puts v) = refl
  act_alive (Sends pipe a v) = refl
  act_alive (Arms timer delay period) = refl
  act_alive (Stops timer) = refl
  act_alive (Continues task) = refl
  act_alive Ends = refl
  act_alive (Traps code) = trap_alive

  event_alive : (k : Ending) → IsAlive (after_event program r k)
  event_alive endings.Done = refl
  event_alive (endings.Next task) = refl
  event_alive endings.Trapped = refl
  event_alive endings.Expired = refl

  value_alive : (o : Origin) → IsAlive (after_value program r o)
  value_alive (origins.Source source count) = event_alive r.ending
  value_alive (origins.Pipe pipe item) = refl
  value_alive (origins.Timer timer deadline) = refl

  resume_alive : (late : Bool) (word : ℕ) → IsAlive (after_resume program r late word)
  resume_alive true word = end_alive r.pick.event.origin
  resume_alive false word = act_alive (act_of (instr_of (decoded word)) (given_by r) (cpu_of r.execution))

  written_alive : (s : Sending) (taken written : ℕ) → IsAlive (after_written program r s taken written)
  written_alive s taken written =
      let full : Cpu = advance_with (cpu_of r.execution) s.register 0 in
      one_alive (has_room (pipe_def program s.pipe).places written taken) (at_phase r (StoreItem s written)) (proceed program r full) refl (proceed_alive full)

  after_alive : (phase : Phase) (word : ℕ) → IsBefore phase → IsAlive (after program r phase word)
  after_alive WriteValue word before = value_alive r.pick.event.origin
  after_alive WriteTaken word before = event_alive r.ending
  after_alive (WriteDue w) word before = event_alive r.ending
  after_alive Resume word before = resume_alive (is_late program r) word
  after_alive Fetch word before = act_alive (act_of (instr_of (decoded word)) (given_by r) (cpu_of r.execution))
  after_alive (ReadState a n) word before = proceed_alive _
  after_alive (WriteState n v) word before = proceed_alive _
  after_alive (ReadCount v) word before = one_alive (nat_lt word (thread_def program r.pick.thread.0).log) _ _ refl trap_alive
  after_alive (WriteCount n) word before = proceed_alive _
  after_alive (ReadWritten s taken) word before = written_alive s taken word
  after_alive (WriteWritten s written) word before = proceed_alive _
  after_alive (WritePeriod timer period) word before = proceed_alive _
  after_alive (WriteStopped timer) word before = proceed_alive _
  after_alive WriteNext word before = next_alive r.ending r.pick.event.origin
  after_alive StoreCommit word before = absurd before
  after_alive (StoreAck source count) word before = absurd before
  after_alive StoreEmpty word before = absurd before
  after_alive Over word before = absurd before
  after_alive _ word before = refl

  action_alive : (a : Action) (word : ℕ) → is_committed r.phase ≡ false → IsAlive (after program r r.phase word) → IsAlive (after_action program r a word)
  action_alive (Put w v) word alive next = one_alive _ _ _ next alive
  action_alive (Get w) word alive next = next
  action_alive (Make access) word alive next = next

-- the store of the commit word alone commits
commits_by : (program : Program) (words : Memory) (r : TaskMachine) → is_committed r.phase ≡ false → is_committed (machine_next program words r).phase ≡ true → r.phase ≡ StoreCommit
commits_by program words r alive over =
    elim (phase_kind r.phase) [
      | inl before ↦
          let word : ℕ = answer words (want program r) in
          absurd (false≢true (sym (action_alive program r (action program r r.phase) word alive (after_alive program r r.phase word before)) ∙ over))
      | inr (inl commit) ↦ commit
      | inr (inr past) ↦ absurd (false≢true (sym alive ∙ past))
    ]

pub every_last_commits : EveryLastCommits
every_last_commits program words r h =
    let alive : is_committed r.phase ≡ false = h.before 0 (omega arith) in
    let commit : r.phase ≡ StoreCommit = commits_by program words r alive h.commits in
    ap (point_at r) commit

-- where an access means a commit
point_commits : (r : TaskMachine) (phase : Phase) → point_at r phase ≡ points.Commit r.pick.thread → phase ≡ StoreCommit
point_commits r StoreCommit is = refl
point_commits r StoreEmpty is = absurd (let clash : points.Release r.pick.thread ≡ points.Commit r.pick.thread = is in cc)
point_commits r _ is = absurd (let clash : points.Nothing ≡ points.Commit r.pick.thread = is in cc)

pub every_commit_is_last : EveryCommitIsLast
every_commit_is_last program words r n h is =
    let commit : r.phase ≡ StoreCommit = point_commits r r.phase is in
    by_number n h commit
  where
    by_number : (n : ℕ) → IsRemaining program words r n → r.phase ≡ StoreCommit → n ≡ 1
    by_number zero h commit = absurd (false≢true (sym (ap is_committed commit) ∙ h.commits))
    by_number (suc zero) h commit = refl
    by_number (suc (suc n)) h commit = absurd (false≢true (sym (h.before 1 (omega arith)) ∙ commit_next program words r commit))
