-- The room for the lists of a record.
use Rattle.std.specs.Prelude.{◌≡◌, ℕ, ◌+◌, ◌<◌, ◌≤◌, ◌==◌, List, [], length, slice_index_or, if◌then◌else◌}
use Rattle.prog_check.specs.Lookup.{source_thread}
use Rattle.never_cut.specs.Entries.{readings_of}
use Rattle.job_parts.specs.Job.{JobParts}
use Rattle.queue_lists.specs.Lists.{sum_below}

-- for how many events a queue has room, and for how many of their charges
pub record Space : Type 0 where
  pub events : ℕ
  pub charges : ℕ

-- the room of each queue, and for how many refusals there is room
pub record Rooms : Type 0 where
  pub queues : List Space
  pub refused : ℕ

-- no room
abbrev pub no_space : Space
no_space = record { events = 0; charges = 0 }

-- the room of thread t's queue
abbrev pub space_at : Rooms → ℕ → Space
space_at rooms t = slice_index_or rooms.queues t no_space

-- the readings of source i, where it feeds thread t's queue
abbrev pub readings_for : JobParts → (t i : ℕ) → List ℕ
readings_for job t i = if source_thread job.program i == t then readings_of job.readings i else []

-- the readings of all sources that feed it
abbrev pub readings_into : JobParts → (t : ℕ) → ℕ
readings_into job t = sum_below (λ i. length (readings_for job t i)) (length job.program.sources)

-- how many refusals source i can have: one for each reading, and one for each charge, since a cut lets a reading be refused again
abbrev pub refusals_from : JobParts → (i : ℕ) → ℕ
refusals_from job i = length (readings_of job.readings i) + length job.charges

-- and all sources
abbrev pub refusals_room : JobParts → ℕ
refusals_room job = sum_below (refusals_from job) (length job.program.sources)

-- there is room for so many events and their charges
pub record HasSpace (number : ℕ) (space : Space) : Type 0 where
  pub events : number ≤ space.events
  pub charges : number ≤ space.charges

-- each queue has room for all readings of its sources, and there is room for all refusals
pub record IsRoomOf (job : JobParts) (rooms : Rooms) : Type 0 where
  pub queues : length rooms.queues ≡ length job.program.threads
  pub events : (t : ℕ) → t < length job.program.threads → HasSpace (readings_into job t) (space_at rooms t)
  pub refused : refusals_room job ≤ rooms.refused
