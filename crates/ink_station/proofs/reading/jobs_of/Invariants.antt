use Rattle.std.proofs.Common.{take}
use Rattle.ink_station.specs.Jobs.{HaveJobs}
use Rattle.ink_station.proofs.reading.jobs_of.Given as goal

abbrev pub invariant-loop-part : goal.invariant-loop-part
invariant-loop-part l = HaveJobs l.text (take l.part-index l.parts) l.jobs.items
