use Rattle.kernel_core.proofs.Common.{List, [], None, get_or, sym, ap, ◌∙◌, subst, Program, get_or_default, ThreadId, IsPort, job_of}
use Rattle.prog_check.specs.Lookup.{no_thread}
use Rattle.kernel_core.proofs.Starts.{port_is, right_port}
use Rattle.kernel_core.proofs.start.port_at.Goals as goal

pub returns-clause-port : goal.returns-clause-port
returns-clause-port c =
    let sources = c.as_slice.ensures ∙ ap (λ (p : Program). p.sources) c.program.ensures.same in
    let thread = ap (λ (l : List ThreadId). get_or l c.args.i (record { 0 = 0 })) sources ∙ get_or_default c.args.plan.now.accepted.sources c.args.i (record { 0 = 0 }) no_thread c.requires in
    (λ k. record {
      source = record { 0 = c.args.i };
      queue = get_or (c.as_slice-2.ensures k) (thread k).0 (record { tail = 0; slots = 0; places = 0 });
      ack = c.address.ensures k;
      src = c.address-2.ensures k;
    })
    ∙ port_is (job_of c.args.plan.now.accepted [] [] None) c.args.plan.now.layout c.args.i c.program.ensures.accepted
    c.program.ensures.layout c.requires

pub returns-clause-right : goal.returns-clause-right
returns-clause-right c =
    subst IsPort (sym (returns-clause-port c)) (right_port (job_of c.args.plan.now.accepted [] [] None) c.program.ensures.accepted c.args.i c.requires)
