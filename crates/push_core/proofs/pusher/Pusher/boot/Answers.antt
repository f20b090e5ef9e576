-- The first row has no numbers yet.
use Rattle.std.proofs.Common.{subst, sym, arith}
use Rattle.push_core.specs.declared.row.Row.{Row}
use Rattle.push_core.specs.Table.{IsRowFor}
use Rattle.push_core.proofs.pusher.Pusher.boot.Goals as goal

pub returns-clause-fits : goal.returns-clause-fits
returns-clause-fits c = λ number.
    subst (λ (row : Row). IsRowFor c.args.port number row) (sym c.first.ensures) (record { place = c.requires; accepted = omega arith; next = omega arith; stage = tt })
