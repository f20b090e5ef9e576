use Rattle.ink_audit.proofs.Common.{sym, ◌∙◌}
use Rattle.std.proofs.lemmas.Bool.Decides.{Decides-eqb}
use Rattle.std.proofs.lemmas.Slice.Eq.{slice_eq-Decides}
use Rattle.ink_audit.proofs.Entries.{no_word}
use Rattle.ink_audit.proofs.entry.entry_in.Goals as goal

pub returns-else-eq : goal.returns-else-eq
returns-else-eq c =
    no_word c.args.program.now c.args.line.now c.in_default.ensures c.in_default-behind.ensures c.in_default-behind-2.ensures c.in_default-behind-3.ensures c.in_default-behind-4.ensures
    c.in_default-behind-5.ensures c.in_default-behind-6.ensures
    (λ same. let is = (slice_eq-Decides Decides-eqb c.args.line.now c.as_slice.result.now c.eq.result c.eq.ensures).1 (same ∙ sym c.as_slice.ensures) in let other = c.if-eq.false in absurd (cc (is, other)))
