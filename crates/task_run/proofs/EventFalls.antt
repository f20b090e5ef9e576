-- The accesses that write the event and the end of a service, and the commit, are those that are left.
use Rattle.task_run.proofs.Common.{◌≡◌, ℕ, suc, ◌+◌, Bool, true, false, if◌then◌else◌, [], ◌∷◌, ◌++◌, arith, refl, ap, ◌∙◌, sym, inl, inr, subst, cases_Bool, Event, Origin, number_of, Code, Memory, answer, Buffer, Program, IsAccepted, Pick, Model, is_of_queue, Readings, IsSound, Saved, saved, StandsPrivate, Ending, Execution, Phase, WriteFirst, WriteOrigin, WriteValue, WriteTaken, ReadPeriod, WriteDue, Resume, Fetch, WriteNext, WriteFinished, ReadTotal, WriteTotal, WriteStamp, StoreCommit, TaskMachine, total_word, after_event, after_value, after_commit, end_phase, release_phase, want, Assignment, assignment, IsReady, Serving}
use Rattle.ink_base.specs.declared.event.Origin.TheVariants as origins
use Rattle.fram_words.specs.Header as header
use Rattle.never_cut.specs.Cost as costs
use Rattle.never_cut.specs.Cost.{reads}
use Rattle.task_run.specs.declared.ending.Ending.TheVariants as endings
use Rattle.task_run.specs.Actions as actions
use Rattle.task_run.specs.Machine as machine
use Rattle.task_run.specs.kept.Left.{Rest, left_in, before, writing, consuming_rest, ending_rest, task_rest, run_rest, rest, left}
use Rattle.task_run.proofs.Accesses.{machine_at, holding_load}
use Rattle.task_run.proofs.PageFalls.{left_same, plain_left}
use Rattle.task_run.proofs.InstrFalls.{Falls, fetch_falls}
use Rattle.task_run.proofs.Resumes.{late-running, goes_on}
use Rattle.task_run.proofs.RunLefts.{put_falls}

-- whether an event is a queue's is told by its origin
of_queue : (e : Event) (o : Origin) → e.origin ≡ o → is_of_queue e ≡ is_of_queue (record e { origin = o })
of_queue e o is = ap (λ (z : Origin). is_of_queue (record e { origin = z })) is

module _ (program : Program) (m : Model) (words : Memory) (pick : Pick) (stamp : ℕ) (b : Buffer) (ending : Ending) (e : Execution) where
  abbrev a : Assignment
  a = assignment program m pick

  abbrev x : Saved
  x = saved program m pick.thread.0

  pub fall-first : Serving program words m (machine_at pick stamp b ending e WriteFirst) → Falls program m words (machine_at pick stamp b ending e WriteFirst)
  fall-first h =
      let r : TaskMachine = machine_at pick stamp b ending e WriteFirst in
      put_falls program m words r header.first (answer words (want program r)) (machine_at pick stamp b ending e WriteOrigin) (rest a x pick ending e WriteOrigin)
      h.ready (omega arith) refl refl λ fresh. refl

  pub fall-origin : Serving program words m (machine_at pick stamp b ending e WriteOrigin) → Falls program m words (machine_at pick stamp b ending e WriteOrigin)
  fall-origin h =
      let r : TaskMachine = machine_at pick stamp b ending e WriteOrigin in
      put_falls program m words r header.origin (answer words (want program r)) (machine_at pick stamp b ending e WriteValue) (rest a x pick ending e WriteValue)
      h.ready (omega arith) refl refl λ fresh. refl

  -- behind the event the task begins, or the service ends
  event_left : (phase : Phase) (k : Ending) → left_in b (task_rest a x pick k) ≡ left program m (after_event program (machine_at pick stamp b k e phase) k)
  event_left phase endings.Done = refl
  event_left phase (endings.Next task) = refl
  event_left phase endings.Trapped = refl
  event_left phase endings.Expired = refl

  value_left : (o : Origin) → pick.event.origin ≡ o →
      left_in b (before (consuming_rest pick.event.origin) (task_rest a x pick ending)) ≡ left program m (after_value program (machine_at pick stamp b ending e WriteValue) o)
  value_left (origins.Source source count) is =
      ap (λ o. left_in b (before (consuming_rest o) (task_rest a x pick ending))) is
      ∙ (left_same b (before (reads 0) (task_rest a x pick ending)) (task_rest a x pick ending) (omega arith) refl refl ∙ event_left WriteValue ending)
  value_left (origins.Pipe pipe item) is =
      ap (λ o. left_in b (before (consuming_rest o) (task_rest a x pick ending))) is
      ∙ ap (λ o. left_in b (before (writing 1 (header.taken (number_of o))) (task_rest a x pick ending))) (sym is)
  value_left (origins.Timer timer deadline) is =
      ap (λ o. left_in b (before (consuming_rest o) (task_rest a x pick ending))) is
      ∙ ap (λ o. left_in b (before (writing 2 (header.due (number_of o))) (task_rest a x pick ending))) (sym is)

  pub fall-value : Serving program words m (machine_at pick stamp b ending e WriteValue) → Falls program m words (machine_at pick stamp b ending e WriteValue)
  fall-value h =
      let r : TaskMachine = machine_at pick stamp b ending e WriteValue in
      put_falls program m words r header.value (answer words (want program r)) (after_value program r pick.event.origin)
      (before (consuming_rest pick.event.origin) (task_rest a x pick ending)) h.ready (omega arith) refl refl λ fresh. value_left pick.event.origin refl

  pub fall-taken : Serving program words m (machine_at pick stamp b ending e WriteTaken) → Falls program m words (machine_at pick stamp b ending e WriteTaken)
  fall-taken h =
      let r : TaskMachine = machine_at pick stamp b ending e WriteTaken in
      put_falls program m words r (header.taken (actions.device r)) (answer words (want program r)) (after_event program r ending) (task_rest a x pick ending)
      h.ready (omega arith) refl refl λ fresh. event_left WriteTaken ending

  pub fall-period : Serving program words m (machine_at pick stamp b ending e ReadPeriod) → Falls program m words (machine_at pick stamp b ending e ReadPeriod)
  fall-period h =
      let r : TaskMachine = machine_at pick stamp b ending e ReadPeriod in
      let w : ℕ = header.due (actions.device r) in
      plain_left b (before (writing 2 w) (task_rest a x pick ending)) (before (writing 1 w) (task_rest a x pick ending)) h.ready (omega arith) refl refl

  pub fall-due : (w : ℕ) → Serving program words m (machine_at pick stamp b ending e (WriteDue w)) → Falls program m words (machine_at pick stamp b ending e (WriteDue w))
  fall-due w h =
      let r : TaskMachine = machine_at pick stamp b ending e (WriteDue w) in
      put_falls program m words r (header.due (actions.device r)) (answer words (want program r)) (after_event program r ending) (task_rest a x pick ending)
      h.ready (omega arith) refl refl λ fresh. event_left (WriteDue w) ending

  -- a service that ends has the rest of its end behind the word of the next task
  end_accesses : (k : Ending) (o : Origin) → pick.event.origin ≡ o →
      (costs.ending (total_word k) pick.event).accesses + 1 ≡ suc (rest a x pick k e (end_phase o)).spent.accesses
  end_accesses k (origins.Source source count) is = rw (of_queue pick.event (origins.Source source count) is) refl
  end_accesses k (origins.Pipe pipe item) is = rw (of_queue pick.event (origins.Pipe pipe item) is) refl
  end_accesses k (origins.Timer timer deadline) is = rw (of_queue pick.event (origins.Timer timer deadline) is) refl

  end_writes : (k : Ending) (o : Origin) → pick.event.origin ≡ o →
      (costs.ending (total_word k) pick.event).writes ++ [] ≡ header.next ∷ (rest a x pick k e (end_phase o)).spent.writes
  end_writes k (origins.Source source count) is = rw (of_queue pick.event (origins.Source source count) is) refl
  end_writes k (origins.Pipe pipe item) is = rw (of_queue pick.event (origins.Pipe pipe item) is) refl
  end_writes k (origins.Timer timer deadline) is = rw (of_queue pick.event (origins.Timer timer deadline) is) refl

  end_behind : (k : Ending) (o : Origin) → 0 ≡ (rest a x pick k e (end_phase o)).behind
  end_behind k (origins.Source source count) = refl
  end_behind k (origins.Pipe pipe item) = refl
  end_behind k (origins.Timer timer deadline) = refl

  -- the word of the next task
  next_falls : (k : Ending) → Serving program words m (machine_at pick stamp b k e WriteNext) → Falls program m words (machine_at pick stamp b k e WriteNext)
  next_falls (endings.Next task) h =
      let r : TaskMachine = machine_at pick stamp b (endings.Next task) e WriteNext in
      put_falls program m words r header.next (answer words (want program r)) (machine_at pick stamp b (endings.Next task) e WriteStamp) (rest a x pick (endings.Next task) e WriteStamp)
      h.ready refl refl refl λ fresh. refl
  next_falls endings.Done h =
      let r : TaskMachine = machine_at pick stamp b endings.Done e WriteNext in
      let o : Origin = pick.event.origin in
      put_falls program m words r header.next (answer words (want program r)) (machine_at pick stamp b endings.Done e (end_phase o)) (rest a x pick endings.Done e (end_phase o))
      h.ready (end_accesses endings.Done o refl) (end_writes endings.Done o refl) (end_behind endings.Done o) λ fresh. refl
  next_falls endings.Trapped h =
      let r : TaskMachine = machine_at pick stamp b endings.Trapped e WriteNext in
      let o : Origin = pick.event.origin in
      put_falls program m words r header.next (answer words (want program r)) (machine_at pick stamp b endings.Trapped e (end_phase o)) (rest a x pick endings.Trapped e (end_phase o))
      h.ready (end_accesses endings.Trapped o refl) (end_writes endings.Trapped o refl) (end_behind endings.Trapped o) λ fresh. refl
  next_falls endings.Expired h =
      let r : TaskMachine = machine_at pick stamp b endings.Expired e WriteNext in
      let o : Origin = pick.event.origin in
      put_falls program m words r header.next (answer words (want program r)) (machine_at pick stamp b endings.Expired e (end_phase o)) (rest a x pick endings.Expired e (end_phase o))
      h.ready (end_accesses endings.Expired o refl) (end_writes endings.Expired o refl) (end_behind endings.Expired o) λ fresh. refl

  pub fall-next : Serving program words m (machine_at pick stamp b ending e WriteNext) → Falls program m words (machine_at pick stamp b ending e WriteNext)
  fall-next h = next_falls ending h

  pub fall-finished : Serving program words m (machine_at pick stamp b ending e WriteFinished) → Falls program m words (machine_at pick stamp b ending e WriteFinished)
  fall-finished h =
      let r : TaskMachine = machine_at pick stamp b ending e WriteFinished in
      put_falls program m words r header.finished (answer words (want program r)) (machine_at pick stamp b ending e ReadTotal) (rest a x pick ending e ReadTotal)
      h.ready refl refl refl λ fresh. refl

  pub fall-read_total : Serving program words m (machine_at pick stamp b ending e ReadTotal) → Falls program m words (machine_at pick stamp b ending e ReadTotal)
  fall-read_total h = plain_left b (rest a x pick ending e ReadTotal) (rest a x pick ending e (WriteTotal 0)) h.ready refl refl refl

  pub fall-write_total : (n : ℕ) → Serving program words m (machine_at pick stamp b ending e (WriteTotal n)) → Falls program m words (machine_at pick stamp b ending e (WriteTotal n))
  fall-write_total n h =
      let r : TaskMachine = machine_at pick stamp b ending e (WriteTotal n) in
      put_falls program m words r (total_word ending) (answer words (want program r)) (machine_at pick stamp b ending e WriteStamp) (rest a x pick ending e WriteStamp)
      h.ready refl refl refl λ fresh. refl

  pub fall-stamp : Serving program words m (machine_at pick stamp b ending e WriteStamp) → Falls program m words (machine_at pick stamp b ending e WriteStamp)
  fall-stamp h =
      let r : TaskMachine = machine_at pick stamp b ending e WriteStamp in
      put_falls program m words r header.stamp (answer words (want program r)) (machine_at pick stamp b ending e StoreCommit) (rest a x pick ending e StoreCommit)
      h.ready refl refl refl λ fresh. refl

  -- nothing is left behind the commit
  release_rest : (k : Ending) (o : Origin) → rest a x pick k e (release_phase o) ≡ record { spent = reads 0; behind = 0 }
  release_rest k (origins.Source source count) = refl
  release_rest k (origins.Pipe pipe item) = refl
  release_rest k (origins.Timer timer deadline) = refl

  commit_rest : (k : Ending) (o : Origin) → rest a x pick k e (after_commit k o) ≡ record { spent = reads 0; behind = 0 }
  commit_rest (endings.Next task) o = refl
  commit_rest endings.Done o = release_rest endings.Done o
  commit_rest endings.Trapped o = release_rest endings.Trapped o
  commit_rest endings.Expired o = release_rest endings.Expired o

  pub fall-commit : Serving program words m (machine_at pick stamp b ending e StoreCommit) → Falls program m words (machine_at pick stamp b ending e StoreCommit)
  fall-commit h =
      let none : Rest = record { spent = reads 0; behind = 0 } in
      plain_left b (rest a x pick ending e StoreCommit) none h.ready refl refl refl ∙ ap (λ z. suc (left_in b z)) (sym (commit_rest ending pick.event.origin))

module _ (program : Program) (readings : Readings) (m : Model) (words : Memory) (pick : Pick) (stamp : ℕ) (b : Buffer) (ending : Ending) (e : Execution)
    (accepted : IsAccepted program) (stands : StandsPrivate words program m) (sound : IsSound program readings m) where
  pub fall-fetch : Serving program words m (machine_at pick stamp b ending e Fetch) → Falls program m words (machine_at pick stamp b ending e Fetch)
  fall-fetch h =
      let r : TaskMachine = machine_at pick stamp b ending e Fetch in
      fetch_falls program m r h.y h.sends h.s h.o h.v h.progress h.ready words readings accepted stands sound (holding_load program m words r h h.ready)

  abbrev r : TaskMachine
  r = machine_at pick stamp b ending e Resume

  abbrev late : Bool
  late = actions.is_late program r

  -- the access of a running chain, late or not
  abbrev LateFalls : Bool → Type 0
  LateFalls is_late =
      let act = if is_late then actions.Put header.next 0 else actions.fetch r in
      left program m r ≡ suc (left program m (machine.after_action program r act (answer words (actions.access_of r act))))

  late_same : (h : Serving program words m r) → late ≡ (assignment program m pick).late
  late_same h = late-running program words m pick h.progress.0 h.picked h.progress.1

  late_falls : (h : Serving program words m r) → late ≡ true → LateFalls true
  late_falls h is =
      let o : Origin = pick.event.origin in
      let over : (assignment program m pick).late ≡ true = sym (late_same h) ∙ is in
      let y : Rest = rest (assignment program m pick) (saved program m pick.thread.0) pick endings.Expired e (end_phase o) in
      let now : rest (assignment program m pick) (saved program m pick.thread.0) pick ending e Resume ≡ ending_rest endings.Expired pick.event =
      ap (λ c. if c then ending_rest endings.Expired pick.event else run_rest (assignment program m pick) (saved program m pick.thread.0) pick e.executed) over
      in
      let under = subst (λ (act : actions.Action). IsReady words pick.thread.0 b act) (ap (λ c. if c then actions.Put 1 0 else actions.fetch r) is) h.ready in
      let word : ℕ = answer words (actions.access_of r (actions.Put header.next 0)) in
      put_falls program m words r header.next word (machine.after_resume program r late word) y under
      (ap (λ (z : Rest). z.spent.accesses) now ∙ end_accesses program m words pick stamp b ending e endings.Expired o refl)
      (ap (λ (z : Rest). z.spent.writes) now ∙ end_writes program m words pick stamp b ending e endings.Expired o refl)
      (ap (λ (z : Rest). z.behind) now ∙ end_behind program m words pick stamp b ending e endings.Expired o)
      λ fresh. ap (λ c. left program m (machine.after_resume program r c word)) (sym is)

  early_falls : (h : Serving program words m r) → late ≡ false → LateFalls false
  early_falls h is =
      let early : (assignment program m pick).late ≡ false = sym (late_same h) ∙ is in
      let fresh = subst (λ (act : actions.Action). IsReady words pick.thread.0 b act) (ap (λ c. if c then actions.Put 1 0 else actions.fetch r) is) h.ready in
      let word : ℕ = words (Code e.task.0 e.at) in
      ap (λ c. left_in b (if c then ending_rest endings.Expired pick.event else run_rest (assignment program m pick) (saved program m pick.thread.0) pick e.executed)) early
      ∙ (fetch_falls program m r h.y h.sends h.s h.o h.v (goes_on program readings m words pick stamp b ending e accepted stands sound h is) fresh words readings accepted stands sound
      (holding_load program m words r h fresh)
      ∙ ap (λ c. suc (left program m (machine.after_resume program r c word))) (sym is))

  pub fall-resume : Serving program words m r → Falls program m words r
  fall-resume h = elim (cases_Bool late) [ inl is ↦ subst LateFalls (sym is) (late_falls h is) | inr is ↦ subst LateFalls (sym is) (early_falls h is) ]
