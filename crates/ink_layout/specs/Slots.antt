-- The slots of a program's queues.
use Rattle.std.specs.Prelude.{ℕ, ◌%◌}
use Rattle.task_isa.specs.declared.program.Program.{Program}
use Rattle.fram_words.specs.Places.{Place, Slot}
use Rattle.prog_check.specs.Lookup.{thread_def}

-- the slot of a position in the queue of thread t
abbrev pub slot_place : Program → (t position : ℕ) → Place
slot_place program t position = Slot t (position % (thread_def program t).queue)
