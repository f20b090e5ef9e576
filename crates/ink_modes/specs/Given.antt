-- What a text gives to a mode.
use Rattle.std.specs.Prelude.{◌≤◌, length, Result, Ok, Err}
use Rattle.ink_base.specs.declared.limits.TheConstants as limits
use Rattle.ink_base.specs.declared.fault.JobFault.{JobFault}
use Rattle.job_parts.specs.Job.{JobParts}
use Rattle.ink_radio.specs.declared.limits.TheConstants as radio_limits
use Rattle.ink_station.specs.declared.limits.TheConstants as station_limits
use Rattle.ink_modes.specs.declared.given.Given.{Given}
use Rattle.ink_modes.specs.declared.given.Given.TheVariants.{Job, Claimed, Scripted, Boards}

-- what holds of the answer about a job, where the mode is given a job and no more
abbrev pub Alone : (Result JobParts JobFault → Type 0) → Result Given JobFault → Type 0
Alone P (Ok (Job job)) = P (Ok job)
Alone P (Ok _) = ⊥
Alone P (Err fault) = P (Err fault)

-- a job
abbrev pub IsAlone : Given → Type 0
IsAlone (Job job) = Unit {0}
IsAlone _ = ⊥

-- a job with a claim, which has no more bytes than a text
abbrev pub HasClaim : Given → Type 0
HasClaim (Claimed job claim) = length claim ≤ limits.TEXT_BYTES
HasClaim _ = ⊥

-- a job with a script, which has no more events than lines
abbrev pub HasScript : Given → Type 0
HasScript (Scripted job script) = length script ≤ radio_limits.SCRIPT_LINES
HasScript _ = ⊥

-- the jobs of no more boards than a station has
abbrev pub HasBoards : Given → Type 0
HasBoards (Boards jobs) = length jobs.items ≤ station_limits.BOARDS
HasBoards _ = ⊥
