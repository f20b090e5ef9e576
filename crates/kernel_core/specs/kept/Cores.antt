-- What the fields of a core keep.
use Rattle.std.specs.Prelude.{◌≡◌, ℕ, ◌+◌, ◌-◌, ◌*◌, ◌^◌, ◌<◌, ◌≤◌, List, length, map, drop, slice_index, slice_index_or}
use Rattle.fram_words.specs.declared.layout.Layout.{Layout}
use Rattle.ink_layout.specs.Layouts.{IsLayout}
use Rattle.job_parts.specs.Job.{JobParts, charge_turns}
use Rattle.push_core.specs.Table.{first_row, IsPort}
use Rattle.push_core.specs.declared.row.Row.{Row}
use Rattle.push_core.specs.declared.pusher.Pusher.{Pusher}
use Rattle.source_laws.specs.Rows.{port_of}
use Rattle.never_cut.specs.declared.model.Model.{Model}
use Rattle.never_cut.specs.Within.{Lasts}
use Rattle.kernel_core.specs.Record.{ChargeRecord, not_begun}
use Rattle.kernel_core.specs.Board.{Setup, Board, sides}
use Rattle.kernel_core.specs.First.{IsSetup}
use Rattle.kernel_core.specs.Stands.{state}
use Rattle.kernel_core.specs.Core.{setup_of, turns_in}
use Rattle.kernel_core.specs.kept.Holds.{Holds}
use Rattle.kernel_core.specs.kept.Paces.{Settles}
use Rattle.kernel_core.specs.kept.Recorded.{Recorded}

-- the row of a source's machine
abbrev pub row_in : Pusher → Row
row_in p = p.row

-- a source that has lost its place in the table
abbrev pub rebooted : Pusher → Pusher
rebooted p = record p { row = first_row }

-- the charge of a record
abbrev pub charge_in : Recorded → ChargeRecord
charge_in r = r.charge

-- a record without room, behind the last
abbrev pub none_recorded : Recorded
none_recorded = record { charge = not_begun 0; spare = 0; capacity = 0 }

-- the turns that all charges from one on list
abbrev pub turns_from : JobParts → ℕ → ℕ
turns_from job k = charge_turns (drop k job.charges)

-- Clock and counts fit their words to the job's end: each turn that is left adds at most one entry or tick, and each cut below 2 ^ 32 to the clock.
pub record StaysInRange (job : JobParts) (m : Model) (begun room : ℕ) : Type 0 where
  pub clock : m.clock + room + turns_from job begun + (length job.charges - begun) * 2 ^ 32 < 2 ^ 47
  pub counts : Lasts (room + turns_from job begun) m
  pub turns : room + turns_from job begun < 2 ^ 32

-- the counts of a charge can grow by so much
pub record CanCount (room : ℕ) (c : ChargeRecord) : Type 0 where
  pub kernel : c.kernel_steps + room < 2 ^ 32
  pub sources : (i : ℕ) → slice_index c.source_steps i + room < 2 ^ 32
  pub ticks : c.tick_steps + room < 2 ^ 32

-- a machine behind the last source's
abbrev pub no_pusher : Pusher
no_pusher = record { port = record { source = record { 0 = 0 }; queue = record { tail = 0; slots = 0; places = 0 }; ack = 0; src = 0 }; row = first_row }

-- a source's machine has the source's port
pub record IsPusher (s : Setup) (i : ℕ) (p : Pusher) : Type 0 where
  pub port : p.port ≡ port_of (sides s) i
  pub right : IsPort (port_of (sides s) i)

-- what the records of the charges keep, so many having begun
pub record AreRecords (job : JobParts) (begun room : ℕ) (records : List Recorded) : Type 0 where
  pub counts : CanCount room (slice_index_or records (begun - 1) none_recorded).charge
  pub has_room : room ≤ (slice_index_or records (begun - 1) none_recorded).spare
  pub later : (k : ℕ) → begun ≤ k → k < length job.charges → turns_in job k < (slice_index_or records k none_recorded).spare
  pub whole : (k : ℕ) → k < length job.charges → turns_in job k < (slice_index_or records k none_recorded).capacity
  pub unused : (k : ℕ) → begun ≤ k → k < length job.charges → (slice_index_or records k none_recorded).charge ≡ not_begun (length job.program.sources)
  pub steps : (k : ℕ) → k < length job.charges → length (slice_index_or records k none_recorded).charge.source_steps ≡ length job.program.sources

-- the fields belong together: the machines are those of the job, the board holds, and what is left to run fits its words and its room
pub record IsCore (job : JobParts) (layout : Layout) (b : Board) (room : ℕ) (pushers : List Pusher) (records : List Recorded) : Type 0 where
  pub is_setup : IsSetup (setup_of job)
  pub layout_is : IsLayout job.program layout
  pub rows : b.rows ≡ map row_in pushers
  pub machines : (i : ℕ) → i < length job.program.sources → IsPusher (setup_of job) i (slice_index_or pushers i no_pusher)
  pub holds : Holds (setup_of job) (length job.charges) b
  pub settling : Settles (setup_of job) b
  pub range : StaysInRange job (state (setup_of job) b) b.begun room
  pub charges : b.charges ≡ map charge_in records
  pub records_are : AreRecords job b.begun room records
