-- The numbers of an origin that a thread's chain may have fit their bits.
use Rattle.std.proofs.Common.{ℕ, arith}
use Rattle.ink_base.specs.declared.event.Origin.{Origin}
use Rattle.ink_base.specs.declared.event.Origin.TheVariants.{Source, Pipe, Timer}
use Rattle.task_isa.specs.declared.program.Program.{Program}
use Rattle.fram_words.specs.Held.{HasOriginBits}
use Rattle.prog_check.specs.Accepted.{IsAccepted}
use Rattle.never_cut.specs.Ranges.{IsOwnOrigin}

pub own_bits : (program : Program) (t : ℕ) → IsAccepted program → (o : Origin) → IsOwnOrigin program t o → HasOriginBits o
own_bits program t a (Source source count) own = let few = a.counts.sources in (omega arith, omega arith)
own_bits program t a (Pipe pipe item) own = let few = a.counts.pipes in (omega arith, own.2)
own_bits program t a (Timer timer deadline) own = let few = a.counts.timers in (omega arith, own.2)
