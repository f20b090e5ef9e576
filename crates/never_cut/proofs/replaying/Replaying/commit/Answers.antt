use Rattle.never_cut.proofs.Common.{◌≡◌, sym, ◌∙◌, ap, pending, model_of}
use Rattle.never_cut.proofs.Timely.{pending_timely}
use Rattle.never_cut.proofs.replaying.Replaying.commit.Goals as goal

pub serve-requires-clause-timely : goal.serve-requires-clause-timely
serve-requires-clause-timely c =
    let m = model_of c.args.self.now in
    let here : pending c.args.program.now m c.args.thread.0 ≡ pending c.args.program.now m c.from.result = ap (λ t. pending c.args.program.now m t) (sym c.from.ensures) in
    pending_timely c.args.program.now _ m c.args.thread.0 c.in-Some.scan c.in-Some-pending.event c.requires.room c.in-Some.is
    (here ∙ sym c.pending.ensures ∙ c.in-Some-pending.is)
