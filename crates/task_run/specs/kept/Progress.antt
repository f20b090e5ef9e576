-- What is known in each phase of a service.
use Rattle.std.specs.Prelude.{◌≡◌, ℕ, ◌+◌, ◌<◌, false, List, [], length, slice_index_or, None}
use Rattle.ink_base.specs.declared.event.Origin.{Origin}
use Rattle.ink_base.specs.declared.event.Origin.TheVariants as origins
use Rattle.fram_words.specs.Held.{origin_word}
use Rattle.persist_timer.specs.Due.{armed}
use Rattle.task_isa.specs.declared.act.Act.{Act}
use Rattle.task_isa.specs.declared.act.Act.TheVariants.{Sends, Arms}
use Rattle.task_isa.specs.declared.program.Program.{Program}
use Rattle.task_isa.specs.declared.sent.Sent.{Sent}
use Rattle.prog_check.specs.Lookup.{pipe_def}
use Rattle.ink_layout.specs.declared.pick.Pick.{Pick}
use Rattle.never_cut.specs.declared.pipe_model.PipeModel.{PipeModel}
use Rattle.never_cut.specs.State.{no_pipe}
use Rattle.never_cut.specs.Stands.{Saved}
use Rattle.task_run.specs.declared.ending.Ending.{Ending}
use Rattle.task_run.specs.declared.execution.Execution.{Execution}
use Rattle.task_run.specs.declared.sending.Sending.{Sending}
use Rattle.task_run.specs.kept.Served.{Assignment, changed, Running, Executing, Before, IsEnd, result, worked}

-- What the registers hold beside the working copy, and what the copy stands for: x is what the state says of the thread, y what the working copy stands
-- for, `sends` what is in the rings beside the items of the pipes.
pub record Told : Type 0 where
  pub program : Program
  pub x : Saved
  pub a : Assignment
  pub pipes : List PipeModel
  pub pick : Pick
  pub stamp : ℕ
  pub ending : Ending
  pub execution : Execution
  pub y : Saved
  pub sends : List Sent
  pub s : ℕ
  pub o : ℕ
  pub v : ℕ

-- the same, of what is told of a service
abbrev pub RunningIn : Told → Type 0
RunningIn p = Running p.x p.a p.pick p.stamp p.ending p.execution p.y p.sends p.o p.v

-- the same, with the instruction at hand
abbrev pub ExecutingIn : Told → Act → Type 0
ExecutingIn p act = Executing p.x p.a p.pick p.stamp p.ending p.execution p.y p.sends p.o p.v act

-- the event's words are being written: nothing of a run is there
pub record Beginning (p : Told) (y : Saved) : Type 0 where
  pub idle : p.pick.running ≡ None
  pub early : p.a.late ≡ false
  pub is : p.y ≡ y
  pub unsent : p.sends ≡ []
  pub before : Before p.a p.x p.ending

-- the end is being written: the working copy stands for y
pub record Finishing (p : Told) (y : Saved) : Type 0 where
  pub is : p.y ≡ y
  pub sent : p.sends ≡ (result p.a p.x).sends
  pub end : IsEnd p.a p.x p.ending
  -- a chain that goes on has its event in its words
  pub origin : p.o ≡ origin_word p.pick.event.origin
  pub value : p.v ≡ p.pick.event.value

-- the thread with the effects of the task, of what is told
abbrev pub worked_in : Told → Saved
worked_in p = worked p.x p.a p.pick p.stamp

-- an item is being sent: the pipe has had this many items taken
pub record SendingTo (p : Told) (s : Sending) : Type 0 where
  pub executing : ExecutingIn p (Sends s.pipe s.register s.value)
  pub pipe : s.pipe < length p.program.pipes
  pub writer : (pipe_def p.program s.pipe).writer.0 ≡ p.pick.thread.0

-- and there is room for it behind as many as were written
pub record Placing (p : Told) (s : Sending) (written : ℕ) : Type 0 where
  pub sending : SendingTo p s
  pub count : written ≡ p.y.written s.pipe
  pub room : written < (slice_index_or p.pipes s.pipe no_pipe).taken + (pipe_def p.program s.pipe).places

-- a timer of the thread is being armed
pub record Arming (p : Told) (timer delay period : ℕ) : Type 0 where
  pub executing : ExecutingIn p (Arms timer delay period)
  pub known : timer < length p.program.timers

-- the thread with one timer's word changed
abbrev pub with_due : Saved → (timer word : ℕ) → Saved
with_due y timer word = record y { due = changed y.due timer word }

-- armed: the word is written, the period is not
pub record HalfArmed (p : Told) (timer period : ℕ) : Type 0 where
  pub before : Saved
  pub delay : ℕ
  pub arming : Arming (record p { y = before }) timer delay period
  pub is : p.y ≡ with_due before timer (armed p.pick.time delay)

-- the event is an item of a pipe
abbrev pub IsOfPipe : Origin → Type 0
IsOfPipe (origins.Pipe pipe item) = Unit {0}
IsOfPipe _ = ⊥

-- or of a timer
abbrev pub IsOfTimer : Origin → Type 0
IsOfTimer (origins.Timer timer deadline) = Unit {0}
IsOfTimer _ = ⊥
