use Rattle.std.proofs.Common.{List, All, ap, subst, ◌∙◌}
use Rattle.task_isa.specs.declared.program.ThreadDef.{ThreadDef}
use Rattle.task_isa.specs.declared.program.Program.{Program}
use Rattle.audited_runs.specs.Audited.{IsNamed}
use Rattle.audited_runs.proofs.threads_have_names.Goals as goal

pub returns : goal.returns
returns c =
    let program = c.program.ensures.same ∙ c.accepted.ensures.same in
    subst (λ (ts : List ThreadDef). All IsNamed ts) (c.as_slice.ensures ∙ ap (λ (p : Program). p.threads) program) c.all_named.ensures
