-- What is known while a pick is served.
use Rattle.std.specs.Prelude.{◌≡◌, ℕ, ◌+◌, ◌/◌, ◌^◌, ◌<◌, true, List, [], length, slice_index, slice_index_or, Some}
use Rattle.ink_base.specs.declared.ids.TaskId.{TaskId}
use Rattle.fram_words.specs.Places.{Memory, Ring, Commit}
use Rattle.fram_words.specs.Held.{origin_word, output_word}
use Rattle.event_pipe.specs.Ring.{ring_index}
use Rattle.persist_timer.specs.Due.{after_service}
use Rattle.thread_state.specs.Pages.{Buffer, Loading, Buffered, IsUnderWay}
use Rattle.task_isa.specs.declared.act.Act.TheVariants.{Loads, Saves, Puts, Stops}
use Rattle.task_isa.specs.declared.program.Program.{Program}
use Rattle.task_isa.specs.declared.sent.Sent.{Sent}
use Rattle.task_isa.specs.Acts.{number_of}
use Rattle.prog_check.specs.Lookup.{thread_def, pipe_def}
use Rattle.ink_layout.specs.Shape.{pages_of}
use Rattle.never_cut.specs.declared.model.Model.{Model}
use Rattle.never_cut.specs.State.{no_pipe}
use Rattle.never_cut.specs.Commit.{is_of_queue}
use Rattle.never_cut.specs.Stands.{Saved, saved, thread_words, log_of, AreLogged}
use Rattle.never_cut.specs.kept.Picked.{IsPicked}
use Rattle.task_run.specs.declared.ending.Ending.TheVariants as endings
use Rattle.task_run.specs.declared.phase.Phase.{Phase}
use Rattle.task_run.specs.declared.phase.Phase.TheVariants.{WriteFirst, WriteOrigin, WriteValue, WriteTaken, ReadPeriod, WriteDue, Resume, Fetch, ReadState, WriteState, ReadCount, StoreLog, WriteCount, LoadReader, LoadTaken, ReadWritten, StoreItem, WriteWritten, WriteArmed, WritePeriod, WriteStopped, WriteNext, WriteFinished, ReadTotal, WriteTotal, WriteStamp, StoreCommit}
use Rattle.task_run.specs.declared.machine.TaskMachine.{TaskMachine}
use Rattle.task_run.specs.Actions.{Action, Put, Get, Make, action, execution_of}
use Rattle.task_run.specs.kept.Served.{assignment, rested, finished_by, total_of, concluded, IsLast, rings_of, AreSent}
use Rattle.task_run.specs.kept.Progress.{Told, RunningIn, ExecutingIn, Beginning, Finishing, worked_in, SendingTo, Placing, Arming, HalfArmed, IsOfPipe, IsOfTimer}

-- what is known in a phase
abbrev pub Progress : Memory → Told → Phase → Type 0
Progress words p WriteFirst = Beginning p p.x
Progress words p WriteOrigin = Beginning p (record p.x { first = p.pick.time })
Progress words p WriteValue = Beginning p (record p.x { first = p.pick.time }) × (p.o ≡ origin_word p.pick.event.origin)
Progress words p WriteTaken =
    Beginning p (record p.x { first = p.pick.time }) × (p.o ≡ origin_word p.pick.event.origin) × (p.v ≡ p.pick.event.value) × IsOfPipe p.pick.event.origin
Progress words p ReadPeriod =
    Beginning p (record p.x { first = p.pick.time }) × (p.o ≡ origin_word p.pick.event.origin) × (p.v ≡ p.pick.event.value) × IsOfTimer p.pick.event.origin
Progress words p (WriteDue word) =
    Beginning p (record p.x { first = p.pick.time }) × (p.o ≡ origin_word p.pick.event.origin) × (p.v ≡ p.pick.event.value)
    × IsOfTimer p.pick.event.origin × (word ≡ after_service p.pick.due_word (p.x.period (number_of p.pick.event.origin)))
Progress words p Resume =
    (task : TaskId) × (p.pick.running ≡ Some task) × (p.y ≡ p.x) × (p.sends ≡ []) × (p.ending ≡ endings.Done) × (p.execution ≡ execution_of task)
    × (p.o ≡ origin_word p.pick.event.origin) × (p.v ≡ p.pick.event.value)
Progress words p Fetch = RunningIn p
Progress words p (ReadState r n) = ExecutingIn p (Loads r n) × (n < length p.y.state)
Progress words p (WriteState n w) = ExecutingIn p (Saves n w) × (n < length p.y.state)
Progress words p (ReadCount w) = ExecutingIn p (Puts w)
Progress words p (StoreLog n w) =
    ExecutingIn p (Puts w) × (n ≡ length p.y.outputs) × (length p.y.outputs < length p.x.outputs + p.a.room.log)
Progress words p (WriteCount k) =
    (w : ℕ) × ExecutingIn p (Puts w) × (k ≡ length p.y.outputs + 1) × (length p.y.outputs < length p.x.outputs + p.a.room.log)
    × (log_of words p.pick.thread.0 (length p.y.outputs) ≡ output_word (record { stamp = p.stamp + 1; thread = p.pick.thread; value = w }))
Progress words p (LoadReader s) = SendingTo p s
Progress words p (LoadTaken s commit) = SendingTo p s × (commit ≡ words (Commit (pipe_def p.program s.pipe).reader.0))
Progress words p (ReadWritten s taken) = SendingTo p s × (taken ≡ (slice_index_or p.pipes s.pipe no_pipe).taken)
Progress words p (StoreItem s written) = Placing p s written
Progress words p (WriteWritten s written) = Placing p s written × (words (Ring s.pipe (ring_index (pipe_def p.program s.pipe).places written)) ≡ s.value)
Progress words p (WriteArmed timer delay period) = Arming p timer delay period
Progress words p (WritePeriod timer period) = HalfArmed p timer period
Progress words p (WriteStopped timer) = ExecutingIn p (Stops timer) × (timer < length p.program.timers)
Progress words p WriteNext = Finishing p (worked_in p)
Progress words p WriteFinished = Finishing p (rested (worked_in p)) × IsLast p.ending × (is_of_queue p.pick.event ≡ true)
Progress words p ReadTotal = Finishing p (finished_by p.pick.event.origin (rested (worked_in p))) × IsLast p.ending
Progress words p (WriteTotal n) = Finishing p (finished_by p.pick.event.origin (rested (worked_in p))) × IsLast p.ending × (n ≡ total_of p.ending p.y + 1)
Progress words p WriteStamp = Finishing p (concluded p.ending p.pick.event.origin (worked_in p))
Progress words p StoreCommit = Finishing p (concluded p.ending p.pick.event.origin (worked_in p)) × (p.s ≡ p.stamp + 1)
Progress words p _ = ⊥

-- the copying that an action may have begun
abbrev pub IsReady : Memory → ℕ → Buffer → Action → Type 0
IsReady words t b (Put w v) = IsUnderWay words t b (w / 8)
IsReady words t b (Get w) = b.copying ≡ Loading 0
IsReady words t b (Make access) = b.copying ≡ Loading 0

-- what is told of the service of these registers
abbrev pub told : Program → Model → TaskMachine → (y : Saved) → (sends : List Sent) → (s o v : ℕ) → Told
told program m r y sends s o v =
    record {
      program = program;
      x = saved program m r.pick.thread.0;
      a = assignment program m r.pick;
      pipes = m.pipes;
      pick = r.pick;
      stamp = r.stamp;
      ending = r.ending;
      execution = r.execution;
      y = y;
      sends = sends;
      s = s;
      o = o;
      v = v;
    }

-- from the pick to the commit: the working copy stands for a thread y, with a stamp, origin and value that are not the state's
pub record Serving (program : Program) (words : Memory) (m : Model) (r : TaskMachine) : Type 0 where
  pub y : Saved
  pub sends : List Sent
  pub s : ℕ
  pub o : ℕ
  pub v : ℕ
  pub picked : IsPicked program words m r.pick
  pub stamp : r.stamp ≡ m.commits
  pub buffered : Buffered words r.pick.thread.0 r.buffer (λ k. slice_index (thread_words y s o v) k)
  pub ready : IsReady words r.pick.thread.0 r.buffer (action program r r.phase)
  pub logged : AreLogged (log_of words r.pick.thread.0) y.outputs
  pub sent : AreSent (rings_of words) program m.pipes sends
  pub size : length y.state ≡ (thread_def program r.pick.thread.0).state
  -- the pages that were written are the thread's
  pub pages : r.buffer.dirty < 2 ^ pages_of (thread_def program r.pick.thread.0)
  pub progress : Progress words (told program m r y sends s o v) r.phase
