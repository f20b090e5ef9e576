use Rattle.std.proofs.Common.{List, [], None, get_or, sym, ap, ◌∙◌, subst}
use Rattle.std.proofs.lemmas.List.{get_or_default}
use Rattle.ink_base.specs.declared.ids.ThreadId.{ThreadId}
use Rattle.task_isa.specs.declared.program.Program.{Program}
use Rattle.prog_check.specs.Lookup.{no_thread}
use Rattle.push_core.specs.Table.{IsPort}
use Rattle.kernel_core.specs.Core.{job_of}
use Rattle.kernel_core.proofs.Starts.{port_is, right_port}
use Rattle.live_board.proofs.parts.port_at.Goals as goal

pub returns-clause-right : goal.returns-clause-right
returns-clause-right c =
    let sources = c.as_slice.ensures ∙ ap (λ (p : Program). p.sources) c.program.ensures.same in
    let thread = ap (λ (l : List ThreadId). get_or l c.args.number (record { 0 = 0 })) sources ∙ get_or_default c.args.plan.now.accepted.sources c.args.number (record { 0 = 0 }) no_thread c.requires in
    let job = job_of c.args.plan.now.accepted [] [] None in
    subst IsPort
    (sym ((λ k. record {
      source = record { 0 = c.args.number };
      queue = get_or (c.as_slice-2.ensures k) (thread k).0 (record { tail = 0; slots = 0; places = 0 });
      ack = c.address.ensures k;
      src = c.address-2.ensures k;
    }) ∙ port_is job c.args.plan.now.layout c.args.number c.program.ensures.accepted c.program.ensures.layout c.requires))
    (right_port job c.program.ensures.accepted c.args.number c.requires)
