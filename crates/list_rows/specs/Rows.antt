-- A job with two sources of its first thread, and what they leave.
use Rattle.std.specs.Prelude.{◌≡◌, [], ◌∷◌, length}
use Rattle.prog_check.specs.Lookup.{source_thread}
use Rattle.never_cut.specs.Entries.{readings_of}
use Rattle.job_parts.specs.Job.{JobParts}
use Rattle.queue_lists.specs.Lists.{Lists}

-- two sources feed the first thread, the one with three readings, the other with one
pub record IsOfTwo (job : JobParts) : Type 0 where
  pub sources : length job.program.sources ≡ 2
  pub first : source_thread job.program 0 ≡ 0
  pub second : source_thread job.program 1 ≡ 0
  pub three : length (readings_of job.readings 0) ≡ 3
  pub one : length (readings_of job.readings 1) ≡ 1

-- the published and refused readings of the first
abbrev pub first_lists : Lists
first_lists = record {
  accepted = record { position = 0; reading = 0; value = 7; charge = 0 } ∷ record { position = 2; reading = 2; value = 6; charge = 1 } ∷ [];
  refused = record { reading = 1; position = 2; charge = 0 } ∷ [];
}

-- and of the second
abbrev pub second_lists : Lists
second_lists = record { accepted = record { position = 1; reading = 0; value = 9; charge = 0 } ∷ []; refused = [] }
