-- What remains of a service, up to the store of its commit word, is what is left of it by the meaning of its task.
use Rattle.task_run.proofs.Common.{◌≡◌, ℕ, zero, suc, true, false, arith, refl, ap, ◌∙◌, sym, inl, inr, subst, false≢true, Memory, Buffer, Program, Pick, Model, Readings, Saved, saved, Background, Ending, Execution, Phase, WriteFirst, WriteOrigin, WriteValue, WriteTaken, ReadPeriod, WriteDue, Resume, Fetch, ReadState, WriteState, ReadCount, StoreLog, WriteCount, LoadReader, LoadTaken, ReadWritten, StoreItem, WriteWritten, WriteArmed, WritePeriod, WriteStopped, WriteNext, WriteFinished, ReadTotal, WriteTotal, WriteStamp, StoreCommit, StoreAck, StoreEmpty, Over, TaskMachine, begin, is_over, assignment, Assignment, KnowsAt}
use Rattle.std.specs.Prelude.{◌⊎◌}
use Rattle.never_cut.specs.Cost.{cost}
use Rattle.never_cut.specs.Within.{Lasts}
use Rattle.task_run.specs.Knows.{CanGoOn}
use Rattle.task_run.specs.Remaining.{alone, is_committed, phase_after, IsRemaining, EveryPickCosts, EveryServiceGoesOn}
use Rattle.task_run.specs.kept.Left.{clean_pages, left_in, rest, left}
use Rattle.task_run.proofs.Accesses.{machine_at}
use Rattle.task_run.proofs.ActFalls.{fall-read_state, fall-write_state, fall-read_count, fall-store_log, fall-write_count, fall-load_reader, fall-load_taken, fall-read_written, fall-store_item, fall-write_written, fall-write_armed, fall-write_period, fall-write_stopped}
use Rattle.task_run.proofs.Begins.{every_pick}
use Rattle.task_run.proofs.Counting.{words_next, machine_next, remaining_more, remaining_none, Knowing, knowing_next, commit_committed}
use Rattle.task_run.proofs.EventFalls.{fall-first, fall-origin, fall-value, fall-taken, fall-period, fall-due, fall-next, fall-finished, fall-read_total, fall-write_total, fall-stamp, fall-commit, fall-fetch, fall-resume}
use Rattle.task_run.proofs.InstrFalls.{Falls}
use Rattle.task_run.proofs.Keeping.{IsBefore}
use Rattle.task_run.proofs.PickCosts.{pick_costs}
use Rattle.task_run.proofs.Ranges.{every_task_fits}

module _ (program : Program) (readings : Readings) (words : Memory) (m : Model) (pick : Pick) (stamp : ℕ) (b : Buffer) (ending : Ending) (e : Execution)
    (g : Background program readings words m) where
  -- each access up to the commit is one of those that are left
  falls : (phase : Phase) → KnowsAt program words m (machine_at pick stamp b ending e phase) phase → is_committed phase ≡ false →
      Falls program m words (machine_at pick stamp b ending e phase)
  falls WriteFirst h alive = fall-first program m words pick stamp b ending e h
  falls WriteOrigin h alive = fall-origin program m words pick stamp b ending e h
  falls WriteValue h alive = fall-value program m words pick stamp b ending e h
  falls WriteTaken h alive = fall-taken program m words pick stamp b ending e h
  falls ReadPeriod h alive = fall-period program m words pick stamp b ending e h
  falls (WriteDue w) h alive = fall-due program m words pick stamp b ending e w h
  falls Resume h alive = fall-resume program readings m words pick stamp b ending e g.accepted g.private g.sound h
  falls Fetch h alive = fall-fetch program readings m words pick stamp b ending e g.accepted g.private g.sound h
  falls (ReadState c n) h alive = fall-read_state program m words pick stamp b ending e c n h
  falls (WriteState n v) h alive = fall-write_state program m words pick stamp b ending e n v h
  falls (ReadCount v) h alive = fall-read_count program m words pick stamp b ending e v h
  falls (StoreLog n v) h alive = fall-store_log program m words pick stamp b ending e n v h
  falls (WriteCount n) h alive = fall-write_count program m words pick stamp b ending e n h
  falls (LoadReader s) h alive = fall-load_reader program m words pick stamp b ending e s h
  falls (LoadTaken s commit) h alive = fall-load_taken program m words pick stamp b ending e s commit h
  falls (ReadWritten s taken) h alive = fall-read_written program m words pick stamp b ending e s taken g.accepted g.sound.shape h
  falls (StoreItem s written) h alive = fall-store_item program m words pick stamp b ending e s written h
  falls (WriteWritten s written) h alive = fall-write_written program m words pick stamp b ending e s written g.sound.shape h
  falls (WriteArmed timer delay period) h alive = fall-write_armed program m words pick stamp b ending e timer delay period h
  falls (WritePeriod timer period) h alive = fall-write_period program m words pick stamp b ending e timer period h
  falls (WriteStopped timer) h alive = fall-write_stopped program m words pick stamp b ending e timer h
  falls WriteNext h alive = fall-next program m words pick stamp b ending e h
  falls WriteFinished h alive = fall-finished program m words pick stamp b ending e h
  falls ReadTotal h alive = fall-read_total program m words pick stamp b ending e h
  falls (WriteTotal n) h alive = fall-write_total program m words pick stamp b ending e n h
  falls WriteStamp h alive = fall-stamp program m words pick stamp b ending e h
  falls StoreCommit h alive = fall-commit program m words pick stamp b ending e h
  falls (StoreAck source count) h alive = absurd (false≢true (sym alive))
  falls StoreEmpty h alive = absurd (false≢true (sym alive))
  falls Over h alive = absurd (false≢true (sym alive))

falls_now : (program : Program) (readings : Readings) (words : Memory) (m : Model) (r : TaskMachine) → Knowing program readings words m r → is_committed r.phase ≡ false →
    Falls program m words r
falls_now program readings words m r k alive = falls program readings words m r.pick r.stamp r.buffer r.ending r.execution k.background r.phase k.knows alive

-- nothing is left behind the commit
none_left : (a : Assignment) (x : Saved) (pick : Pick) (b : Buffer) (ending : Ending) (e : Execution) (phase : Phase) → is_committed phase ≡ true → left_in b (rest a x pick ending e phase) ≡ 0
unfolding left_in clean_pages
none_left a x pick b ending e (StoreAck source count) over = omega arith
none_left a x pick b ending e StoreEmpty over = omega arith
none_left a x pick b ending e Over over = omega arith
none_left a x pick b ending e _ over = absurd (false≢true over)

-- where a phase stands to the commit
pub phase_kind : (phase : Phase) → (IsBefore phase) ⊎ ((phase ≡ StoreCommit) ⊎ (is_committed phase ≡ true))
phase_kind StoreCommit = inr (inl refl)
phase_kind (StoreAck source count) = inr (inr refl)
phase_kind StoreEmpty = inr (inr refl)
phase_kind Over = inr (inr refl)
phase_kind _ = inl tt

before_alive : (phase : Phase) → IsBefore phase → is_committed phase ≡ false
before_alive StoreCommit before = absurd before
before_alive (StoreAck source count) before = absurd before
before_alive StoreEmpty before = absurd before
before_alive Over before = absurd before
before_alive _ before = refl

-- behind the store of the commit word it is committed
pub commit_next : (program : Program) (words : Memory) (r : TaskMachine) → r.phase ≡ StoreCommit → is_committed (machine_next program words r).phase ≡ true
commit_next program words r is =
    subst (λ phase. is_committed (machine_next program words (record r { phase = phase })).phase ≡ true) (sym is) (commit_committed r.ending r.pick.event.origin)

-- what is left behind the store of the commit word
behind_commit : (program : Program) (readings : Readings) (m : Model) (n : ℕ) (words : Memory) (r : TaskMachine) → Falls program m words r → left program m r ≡ suc n → r.phase ≡ StoreCommit →
    IsRemaining program words r (suc n)
behind_commit program readings m n words r one is commit =
    let next : TaskMachine = machine_next program words r in
    let over = commit_next program words r commit in
    let none : left program m next ≡ 0 = none_left (assignment program m next.pick) (saved program m next.pick.thread.0) next.pick next.buffer next.ending next.execution next.phase over in
    let last : 0 ≡ n = omega arith in
    remaining_more program words r n (ap is_committed commit)
    (subst (λ z. IsRemaining program (words_next program words r) next z) last (remaining_none program (words_next program words r) next over))

-- what is left is what remains
remains : (program : Program) (readings : Readings) (m : Model) (n : ℕ) (words : Memory) (r : TaskMachine) → Knowing program readings words m r → left program m r ≡ n →
    IsRemaining program words r n
remains program readings m zero words r k is =
    elim (phase_kind r.phase) [
      | inl before ↦ absurd (let one = falls_now program readings words m r k (before_alive r.phase before) in omega arith)
      | inr (inl commit) ↦ absurd (let one = falls_now program readings words m r k (ap is_committed commit) in omega arith)
      | inr (inr over) ↦ remaining_none program words r over
    ]
remains program readings m (suc n) words r k is =
    elim (phase_kind r.phase) [
      | inl before ↦
          let alive = before_alive r.phase before in
          let one = falls_now program readings words m r k alive in
          remaining_more program words r n alive
          (remains program readings m n (words_next program words r) (machine_next program words r) (knowing_next program readings words m r before k) (omega arith))
      | inr (inl commit) ↦ behind_commit program readings m n words r (falls_now program readings words m r k (ap is_committed commit)) is commit
      | inr (inr over) ↦
          absurd (let none = none_left (assignment program m r.pick) (saved program m r.pick.thread.0) r.pick r.buffer r.ending r.execution r.phase over in omega arith)
    ]

pub every_pick_costs : EveryPickCosts
every_pick_costs program readings words m pick stamp g p is =
    let k : Knowing program readings words m (begin pick stamp) = record { background = g; knows = every_pick program readings words m pick stamp g p is } in
    remains program readings m (cost program m pick.thread.0) words (begin pick stamp) k (pick_costs program words m pick stamp p)

-- a service that was committed stays so
pub stays : (program : Program) (n : ℕ) (words : Memory) (pick : Pick) (stamp : ℕ) (b : Buffer) (ending : Ending) (e : Execution) (phase : Phase) → is_committed phase ≡ true →
    is_committed (phase_after program words (machine_at pick stamp b ending e phase) n) ≡ true
stays program zero words pick stamp b ending e phase over = over
stays program (suc n) words pick stamp b ending e (StoreAck source count) over =
    stays program n (words_next program words (machine_at pick stamp b ending e (StoreAck source count))) pick stamp b ending e StoreEmpty refl
stays program (suc n) words pick stamp b ending e StoreEmpty over = stays program n (words_next program words (machine_at pick stamp b ending e StoreEmpty)) pick stamp b ending e Over refl
stays program (suc n) words pick stamp b ending e Over over = stays program n (words_next program words (machine_at pick stamp b ending e Over)) pick stamp b ending e Over refl
stays program (suc n) words pick stamp b ending e _ over = absurd (false≢true over)

pub is_over-false : (phase : Phase) → is_committed phase ≡ false → is_over phase ≡ false
is_over-false Over alive = absurd (false≢true (sym alive))
is_over-false _ alive = refl

goes_on_from : (program : Program) (readings : Readings) (m : Model) → Lasts 0 m → (n : ℕ) (words : Memory) (r : TaskMachine) → Knowing program readings words m r →
    (let b = alone program n (record { words = words; machine = r }) in is_committed b.machine.phase ≡ false → CanGoOn program b.words b.machine)
goes_on_from program readings m lasts zero words r k alive = every_task_fits program readings words m r k.background lasts k.knows (is_over-false r.phase alive)
goes_on_from program readings m lasts (suc n) words r k alive =
    elim (phase_kind r.phase) [
      | inl before ↦ goes_on_from program readings m lasts n (words_next program words r) (machine_next program words r) (knowing_next program readings words m r before k) alive
      | inr (inl commit) ↦
          let next : TaskMachine = machine_next program words r in
          absurd (false≢true (sym alive ∙ stays program n (words_next program words r) next.pick next.stamp next.buffer next.ending next.execution next.phase (commit_next program words r commit)))
      | inr (inr over) ↦ absurd (false≢true (sym alive ∙ stays program (suc n) words r.pick r.stamp r.buffer r.ending r.execution r.phase over))
    ]

pub every_service_goes_on : EveryServiceGoesOn
every_service_goes_on program readings words m r g lasts knows n alive = goes_on_from program readings m lasts n words r (record { background = g; knows = knows }) alive
