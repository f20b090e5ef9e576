-- The law of going on, from the lemmas on each of its parts.
use Rattle.going_on.proofs.Divides.{every_job_divides}
use Rattle.going_on.proofs.Ends.{ends_as_whole, goes_as_whole}
use Rattle.going_on.proofs.States.{starts_from_whole, continues_whole, stands_as_whole, are_jobs}
use Rattle.going_on.proofs.runs_go_on.Goals as goal

pub returns : goal.returns
returns c = record { divides = every_job_divides; end = ends_as_whole; moments = goes_as_whole; start = starts_from_whole; journals = continues_whole; states = stands_as_whole; jobs = are_jobs }
