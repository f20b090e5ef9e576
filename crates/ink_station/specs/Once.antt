-- A text has one answer: jobs or one fault.
use Rattle.std.specs.Prelude.{ℕ, List, Ok, Err}
use Rattle.ink_base.specs.declared.fault.JobFault.{JobFault}
use Rattle.job_parts.specs.Job.{JobParts}
use Rattle.ink_station.specs.Jobs.{IsStation}

-- no text has both the jobs of a station and a fault
abbrev pub EveryStationIsOne : Type 0
EveryStationIsOne = (text : List ℕ) (jobs : List JobParts) (fault : JobFault) → IsStation text (Ok jobs) → IsStation text (Err fault) → ⊥
