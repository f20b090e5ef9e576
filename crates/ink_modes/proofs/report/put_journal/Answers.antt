use Rattle.ink_modes.proofs.Common.{List, All, sym, ap, ◌∙◌, subst, Entry, NamesPart, entries_of}
use Rattle.ink_modes.proofs.Charges.{names_of}
use Rattle.ink_modes.proofs.report.put_journal.Goals as goal

pub put_entries-requires : goal.put_entries-requires
put_entries-requires c =
    subst (λ (l : List Entry). All (NamesPart c.args.program.now) l) (sym (c.as_slice.ensures ∙ ap entries_of c.charge-item.is))
    (names_of c.args.charges.now c.loop-charge.charge-index c.charge-item.result c.loop-charge-test.true (NamesPart c.args.program.now) c.requires)
