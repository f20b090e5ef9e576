-- Each section keeps its limits, and the check the program's; each charge has its line.
use Rattle.power_trace.proofs.Common.{length, sym, ap, ◌∙◌, JobParts}
use Rattle.std.proofs.lemmas.Option.{none-some}
use Rattle.power_trace.proofs.Kept.{sensors_keep}
use Rattle.power_trace.proofs.KeptCharges.{power_keep}
use Rattle.power_trace.proofs.parse.parse_with_lines.Goals as goal

pub new-requires : goal.new-requires
new-requires c =
    let sensors = sensors_keep _ _ _ _ c.in_ok-readings.ensures.given in
    record {
      accepted = rw (← c.accepted.view_is) c.accepted.invariant;
      sources = sensors.lists;
      readings = sensors.each;
      charges = (power_keep _ _ _ _ _ c.in_ok-charges.ensures.given).charges;
      start = λ s is. absurd (none-some s is);
    }

pub returns-clause-lines : goal.returns-clause-lines
returns-clause-lines c = (power_keep _ _ _ _ _ c.in_ok-charges.ensures.given).lines ∙ sym (ap (λ (j : JobParts). length j.charges) c.new.ensures)
