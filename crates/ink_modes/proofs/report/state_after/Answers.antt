use Rattle.ink_modes.proofs.Common.{◌<◌, List, length, take, sym, ap, ◌∙◌, subst, flat_map, Entry, Model, first_of, after, IsLegal, HasRoom, entries_of}
use Rattle.ink_modes.proofs.Charges.{after-++, one_more, charge_legal, charge_room}
use Rattle.ink_modes.proofs.report.state_after.Goals as goal

pub loop-charge-init : goal.loop-charge-init
loop-charge-init c = c.in_ok-state.ensures.state

pub enter_all-requires-clause-legal : goal.enter_all-requires-clause-legal
enter_all-requires-clause-legal c =
    subst (λ (z : Model × List Entry). IsLegal c.args.job.now.program c.args.job.now.readings z.0 z.1) (λ i. (sym c.loop-charge.invariant i, sym (c.as_slice.ensures ∙ ap entries_of c.charge-item.is) i))
    (charge_legal c.args.charges.now c.loop-charge.charge-index c.charge-item.result c.loop-charge-test.true c.args.job.now c.requires.legal)

pub enter_all-requires-clause-room : goal.enter_all-requires-clause-room
enter_all-requires-clause-room c = λ n lt.
    subst (λ (z : Model × List Entry). HasRoom c.args.job.now.program (after c.args.job.now.program c.args.job.now.readings z.0 (take n z.1)))
    (λ i. (sym c.loop-charge.invariant i, sym (c.as_slice.ensures ∙ ap entries_of c.charge-item.is) i))
    (charge_room c.args.charges.now c.loop-charge.charge-index c.charge-item.result c.loop-charge-test.true c.args.job.now c.requires.legal c.in_ok-state.ensures.job c.requires.few n
    (subst (λ (l : List Entry). n < length l) (c.as_slice.ensures ∙ ap entries_of c.charge-item.is) lt))

pub loop-charge-preserved : goal.loop-charge-preserved
loop-charge-preserved c =
    let job = c.args.job.now in
    let front : List Entry = flat_map entries_of (take c.loop-charge.charge-index c.args.charges.now) in
    c.in_ok-enter_all.ensures ∙ (λ i. after job.program job.readings (c.loop-charge.invariant i) ((c.as_slice.ensures ∙ ap entries_of c.charge-item.is) i))
    ∙ sym (after-++ job.program job.readings (first_of job) front _)
    ∙ ap (after job.program job.readings (first_of job)) (sym (one_more c.args.charges.now c.loop-charge.charge-index c.charge-item.result c.loop-charge-test.true))
