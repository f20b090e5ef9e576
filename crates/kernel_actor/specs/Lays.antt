-- The set of queues is that of the program.
use Rattle.std.specs.Prelude.{◌≡◌, ℕ, ◌<◌, length}
use Rattle.task_isa.specs.declared.program.Program.{Program}
use Rattle.task_isa.specs.declared.program.ThreadDef.{ThreadDef}
use Rattle.prog_check.specs.Lookup.{thread_def, source_thread}
use Rattle.event_queue.specs.declared.view.Lay.{Lay}
use Rattle.event_queue.specs.Views.{places_of, queue_of}

-- as many queues as threads and as many sources, each queue with its places and each source with its queue
pub record IsLayOf (program : Program) (lay : Lay) : Type 0 where
  pub queues : length lay.queues ≡ length program.threads
  pub sources : length lay.sources ≡ length program.sources
  pub queue : (i : ℕ) → i < length program.sources → queue_of lay i ≡ source_thread program i
  pub places : (t : ℕ) → t < length program.threads → places_of lay t ≡ (thread_def program t).queue

-- the places of a thread's queue
abbrev pub places_in : ThreadDef → ℕ
places_in d = d.queue
