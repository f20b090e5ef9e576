-- What a core is made of, before the first charge.
use Rattle.std.specs.Prelude.{◌≡◌, ℕ, ◌<◌, List, [], length, slice_index_or, None}
use Rattle.task_isa.specs.declared.program.Program.{Program}
use Rattle.ink_layout.specs.Shape.{shape_of, words_of}
use Rattle.push_core.specs.Table.{first_row}
use Rattle.push_core.specs.declared.port.Port.{Port}
use Rattle.push_core.specs.declared.pusher.Pusher.{Pusher}
use Rattle.job_parts.specs.Job.{JobParts}
use Rattle.job_parts.specs.declared.start.Start.{Start}
use Rattle.source_laws.specs.Rows.{port_of}
use Rattle.kernel_core.specs.Record.{not_begun}
use Rattle.kernel_core.specs.kept.Recorded.{Recorded}
use Rattle.kernel_core.specs.Board.{sides}
use Rattle.kernel_core.specs.Core.{setup_of, job_of, turns_in}
use Rattle.kernel_core.specs.kept.Cores.{no_pusher, none_recorded}

-- as many words as the program's board has
abbrev pub FitsBoard : Program → Start → Type 0
FitsBoard program start = length start.words ≡ words_of (shape_of program)

-- where the words of source i of a program stand, whatever its readings
abbrev pub port_in : Program → ℕ → Port
port_in program i = port_of (sides (setup_of (job_of program [] [] None))) i

-- source i before its first access
abbrev pub first_pusher : Program → ℕ → Pusher
first_pusher program i = record { port = port_in program i; row = first_row }

-- the machines of the first so many sources
pub record AreFirstPushers (program : Program) (count : ℕ) (pushers : List Pusher) : Type 0 where
  pub length_is : length pushers ≡ count
  pub each : (i : ℕ) → i < count → slice_index_or pushers i no_pusher ≡ first_pusher program i

-- a charge that has not begun, with room for the tick at its start and the turns that the job lists
pub record IsFirstRecord (job : JobParts) (k : ℕ) (r : Recorded) : Type 0 where
  pub charge : r.charge ≡ not_begun (length job.program.sources)
  pub room : turns_in job k < r.spare
  pub whole : turns_in job k < r.capacity

-- the records of the first so many charges
pub record AreFirstRecords (job : JobParts) (count : ℕ) (records : List Recorded) : Type 0 where
  pub length_is : length records ≡ count
  pub each : (k : ℕ) → k < count → IsFirstRecord job k (slice_index_or records k none_recorded)
