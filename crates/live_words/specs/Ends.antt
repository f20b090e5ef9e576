-- What the words of a live board stand for at the end.
use Rattle.std.specs.Prelude.{◌≡◌, ℕ, ◌+◌, ◌-◌, ◌<◌, ◌≤◌, Bool, true, false, List, length, map, drop, slice_index}
use Rattle.task_isa.specs.declared.program.Program.{Program}
use Rattle.fram_words.specs.Held.{src_of}
use Rattle.push_core.specs.Queue.{Queue, KeepsNumbers, StandsSource}
use Rattle.prog_check.specs.Lookup.{source_thread}
use Rattle.never_cut.specs.declared.source_model.SourceModel.{SourceModel}
use Rattle.never_cut.specs.State.{source_in}
use Rattle.never_cut.specs.Entries.{readings_of}
use Rattle.job_parts.specs.Job.{JobParts, IsJob}
use Rattle.kernel_account.specs.Account.{IsAccount}
use Rattle.event_queue.specs.declared.view.Call.{Call}
use Rattle.event_queue.specs.declared.view.Lay.{Lay}
use Rattle.event_queue.specs.declared.view.View.{View}
use Rattle.event_queue.specs.declared.seat.SourceSeat.{SourceSeat}
use Rattle.event_queue.specs.Calls.{mine_of, released_of, acked_of, sum_of}
use Rattle.event_queue.specs.Finishes.{Finished}
use Rattle.event_queue.specs.Places.{Ack, word_at}
use Rattle.event_queue.specs.Views.{calls_of}
use Rattle.kernel_actor.specs.Accounts.{AreFound, IsAccountOf}
use Rattle.kernel_actor.specs.Ends.{EndsAs}
use Rattle.kernel_actor.specs.Lays.{IsLayOf}
use Rattle.live_account.specs.declared.record.LiveRecord.{LiveRecord}
use Rattle.live_account.specs.Kernel.{events_in, opened}
use Rattle.live_account.specs.Matches.{event_of}
use Rattle.live_account.specs.Queues.{events_from}
use Rattle.live_account.specs.Record.{EndsRight}
use Rattle.live_account.specs.Turns.{all_ticks}
use Rattle.live_words.specs.Finals.{AreFinal}

-- thread t's queue once the kernel has made these calls: its events without those that were released
abbrev pub queue_left : LiveRecord → List Call → (t : ℕ) → (finished : Bool) → Queue
queue_left r calls t finished = record { held = drop (released_of t calls) (events_in r t); finished = finished; released = released_of t calls }

-- what source i has accepted and settled, where this is its SRC
abbrev pub source_by : Program → LiveRecord → (i src : ℕ) → SourceModel
source_by program r i src =
    record { next = (src_of src).next + (events_from program r i - (src_of src).accepted); accepted = events_from program r i; refused = false }

-- What is known of source i by its SRC and its ACK: they and the events that its queue holds tell how many readings it has accepted and settled, whether
-- or not the first of them is finished, if only an acknowledged one is; it has accepted as many as were published, and settled no more than it has.
pub record IsTold (job : JobParts) (r : LiveRecord) (calls mine : List Call) (i src ack : ℕ) : Type 0 where
  pub numbers : (finished : Bool) → (acked_of (source_thread job.program i) calls ≡ true → finished ≡ true) →
      KeepsNumbers i src ack (queue_left r calls (source_thread job.program i) finished) (source_in (source_by job.program r i src))
  pub stands : StandsSource i src ack (drop (released_of (source_thread job.program i) calls) (events_in r (source_thread job.program i))) (source_in (source_by job.program r i src))
  pub published : events_from job.program r i ≡ length (mine_of mine)
  pub ordered : events_from job.program r i ≤ (source_by job.program r i src).next
  pub within : (source_by job.program r i src).next ≤ length (readings_of job.readings i)

-- What the actors of a job have left, and the set of queues, and that the record was made of it: the words put together, the kernel's own account, and of
-- each queue the events of its entries.
pub record IsLeft (job : JobParts) (r : LiveRecord) : Type 0 where
  pub is_job : IsJob job
  pub lay : Lay
  pub is_lay : IsLayOf job.program lay
  pub own : List ℕ
  pub closed : List ℕ
  pub srcs : List ℕ
  pub words : AreFinal job.program lay own closed srcs r.words
  pub kernel : View
  pub clock : View
  pub seats : List SourceSeat
  pub finished : Finished lay closed kernel clock seats
  pub ends : EndsAs job.program own (calls_of kernel) r.kernel
  pub account : IsAccountOf job.program (calls_of kernel) r.kernel
  pub events : (t : ℕ) → t < length job.program.threads → events_in r t ≡ map event_of (finished.entries t)
  pub sources : (i : ℕ) → i < length job.program.sources → IsTold job r (calls_of kernel) (finished.calls.source i) i (slice_index srcs i) (word_at lay closed (Ack i))
  pub ticks : sum_of (calls_of clock) ≡ all_ticks job.charges

-- The events that the kernel found are those of the record; its account is legal over them; and the words stand for the state after all.
pub record ComesOut (job : JobParts) (r : LiveRecord) (calls : List Call) : Type 0 where
  pub found : AreFound (events_in r) calls
  pub legal : IsAccount job.program (opened job.program r) r.kernel
  pub ends : EndsRight job r

-- so it is wherever a record is made of what is left
abbrev pub EveryEnd : Type 0
EveryEnd = (job : JobParts) (r : LiveRecord) (left : IsLeft job r) → ComesOut job r (calls_of left.kernel)
