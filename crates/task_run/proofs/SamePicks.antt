-- A service keeps its pick.
use Rattle.task_run.proofs.Common.{◌≡◌, ℕ, ◌+◌, Bool, true, false, cond, refl, nat_lt, Origin, Act, Sets, Goes, Loads, Saves, Puts, Sends, Arms, Stops, Continues, Ends, Traps, Program, Cpu, act_of, decoded, thread_def, task_def, Pick, Ending, Sending, Phase, WriteValue, WriteTaken, WriteDue, Resume, Fetch, ReadState, WriteState, ReadCount, WriteCount, ReadWritten, WriteWritten, WritePeriod, WriteStopped, TaskMachine, Action, Put, Get, Make, action, is_late, given_by, cpu_of, take, after, after_act, after_action, after_event, after_value, after_written, instr_of, proceed}
use Rattle.ink_base.specs.declared.event.Origin.TheVariants as origins
use Rattle.task_run.specs.declared.ending.Ending.TheVariants as endings
use Rattle.task_run.specs.Machine.{after_resume}

one_pick : (c : Bool) (x y : TaskMachine) (p : Pick) → x.pick ≡ p → y.pick ≡ p → (cond c x y).pick ≡ p
one_pick true x y p here there = here
one_pick false x y p here there = there

module _ (program : Program) (r : TaskMachine) where
  proceed_pick : (cpu : Cpu) → (proceed program r cpu).pick ≡ r.pick
  proceed_pick cpu = one_pick (nat_lt (r.execution.executed + 1) (task_def program r.execution.task.0).limit) _ _ r.pick refl refl

  act_pick : (act : Act) → (after_act program r act).pick ≡ r.pick
  act_pick (Sets a v) = proceed_pick _
  act_pick (Goes offset) = proceed_pick _
  act_pick (Loads a n) = one_pick (nat_lt n (thread_def program r.pick.thread.0).state) _ _ r.pick refl refl
  act_pick (Saves n v) = one_pick (nat_lt n (thread_def program r.pick.thread.0).state) _ _ r.pick refl refl
  act_pick (Puts v) = refl
  act_pick (Sends pipe a v) = refl
  act_pick (Arms timer delay period) = refl
  act_pick (Stops timer) = refl
  act_pick (Continues task) = refl
  act_pick Ends = refl
  act_pick (Traps code) = refl

  event_pick : (k : Ending) → (after_event program r k).pick ≡ r.pick
  event_pick endings.Done = refl
  event_pick (endings.Next task) = refl
  event_pick endings.Trapped = refl
  event_pick endings.Expired = refl

  value_pick : (o : Origin) → (after_value program r o).pick ≡ r.pick
  value_pick (origins.Source source count) = event_pick r.ending
  value_pick (origins.Pipe pipe item) = refl
  value_pick (origins.Timer timer deadline) = refl

  resume_pick : (late : Bool) (word : ℕ) → (after_resume program r late word).pick ≡ r.pick
  resume_pick true word = refl
  resume_pick false word = act_pick (act_of (instr_of (decoded word)) (given_by r) (cpu_of r.execution))

  written_pick : (s : Sending) (taken written : ℕ) → (after_written program r s taken written).pick ≡ r.pick
  written_pick s taken written = one_pick _ _ _ r.pick refl (proceed_pick _)

  after_pick : (phase : Phase) (word : ℕ) → (after program r phase word).pick ≡ r.pick
  after_pick WriteValue word = value_pick r.pick.event.origin
  after_pick WriteTaken word = event_pick r.ending
  after_pick (WriteDue w) word = event_pick r.ending
  after_pick Resume word = resume_pick (is_late program r) word
  after_pick Fetch word = act_pick (act_of (instr_of (decoded word)) (given_by r) (cpu_of r.execution))
  after_pick (ReadState a n) word = proceed_pick _
  after_pick (WriteState n v) word = proceed_pick _
  after_pick (ReadCount v) word = one_pick (nat_lt word (thread_def program r.pick.thread.0).log) _ _ r.pick refl refl
  after_pick (WriteCount n) word = proceed_pick _
  after_pick (ReadWritten s taken) word = written_pick s taken word
  after_pick (WriteWritten s written) word = proceed_pick _
  after_pick (WritePeriod timer period) word = proceed_pick _
  after_pick (WriteStopped timer) word = proceed_pick _
  after_pick _ word = refl

  action_pick : (a : Action) (word : ℕ) → (after_action program r a word).pick ≡ r.pick
  action_pick (Put w v) word = one_pick _ _ _ r.pick (after_pick r.phase word) refl
  action_pick (Get w) word = after_pick r.phase word
  action_pick (Make access) word = after_pick r.phase word

  pub take_pick : (word : ℕ) → (take program r word).pick ≡ r.pick
  take_pick word = action_pick (action program r r.phase) word
