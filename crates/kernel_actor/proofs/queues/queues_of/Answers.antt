-- The queues of an accepted program are within the limits of a set.
use Rattle.kernel_actor.proofs.ProgramLays.{program_lay}
use Rattle.kernel_actor.proofs.queues.queues_of.Goals as goal

pub returns-clause-limits : goal.returns-clause-limits
returns-clause-limits c =
    (program_lay c.args.program.now (record { places = c.in_ok-places.places; sources = c.in_ok-sources.sources }) c.program-program.ensures.accepted c.in_ok-places.ensures c.in_ok-sources.ensures).limits_are
