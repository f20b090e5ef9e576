-- The value of a core.
use Rattle.std.specs.Prelude.{ℕ, List, slice_index_or, [], Option}
use Rattle.task_isa.specs.declared.program.Program.{Program}
use Rattle.job_parts.specs.Job.{JobParts, item_turns, first_of}
use Rattle.ink_base.specs.declared.actor.Actor.TheVariants as actors
use Rattle.job_parts.specs.declared.charge.Charge.{Charge}
use Rattle.job_parts.specs.declared.item.Item.{Item}
use Rattle.job_parts.specs.declared.start.Start.{Start}
use Rattle.kernel_core.specs.Board.{Setup, Board}

-- the job of these parts
abbrev pub job_of : Program → List (List ℕ) → List Charge → Option Start → JobParts
job_of program readings charges start = record { program = program; readings = readings; charges = charges; start = start }

-- the program and the readings of a job, and the state at which its run begins
abbrev pub setup_of : JobParts → Setup
setup_of job = record { program = job.program; readings = job.readings; first = first_of job }

-- a job, its board, and how many turns the charge at hand has still room for
pub record View : Type 0 where
  pub job : JobParts
  pub board : Board
  pub room : ℕ

-- a charge behind the last
abbrev pub no_charge : Charge
no_charge = record { off = 0; items = [] }

-- an item behind the last
abbrev pub no_item : Item
no_item = record { actor = actors.Kernel; count = 0 }

-- one of the charges of a job
abbrev pub charge_def : JobParts → ℕ → Charge
charge_def job k = slice_index_or job.charges k no_charge

-- the turns that one charge lists
abbrev pub turns_in : JobParts → ℕ → ℕ
turns_in job k = item_turns (charge_def job k).items
