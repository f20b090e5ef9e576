use Rattle.ink_modes.proofs.Common.{ℕ, ◌^◌, ◌<◌, ◌++◌, List, length, take, get_or, sym, ap, ◌∙◌, subst, arith, flat_map, length-flat_map-take, Entry, ChargeRecord, summary_of, HasRoomFor, entries_of}
use Rattle.ink_report.specs.declared.summary.Summary.{Summary}
use Rattle.ink_report.proofs.Counted.{summary_has_room}
use Rattle.ink_modes.proofs.Charges.{one_more}
use Rattle.ink_modes.proofs.report.summary_after.Goals as goal

pub count-requires : goal.count-requires
count-requires c =
    let charges : List ChargeRecord = c.args.charges.now in
    let k : ℕ = c.loop-charge.charge-index in
    let charge : ChargeRecord = c.charge-item.result in
    let few : length (flat_map entries_of charges) < 2 ^ 32 = c.requires.few in
    subst (λ (z : Summary × List Entry). HasRoomFor (length z.1) z.0) (λ i. (sym c.loop-charge.invariant i, sym (c.as_slice.ensures ∙ ap entries_of c.charge-item.is) i))
    (summary_has_room c.args.job.now.program c.args.model.now (flat_map entries_of (take k charges)) (length c.args.job.now.charges) (length (get_or charges k charge).entries)
    (omega (arith, length-flat_map-take entries_of charges k charge c.loop-charge-test.true, few)))

pub loop-charge-preserved : goal.loop-charge-preserved
loop-charge-preserved c =
    let job = c.args.job.now in
    let front : List Entry = flat_map entries_of (take c.loop-charge.charge-index c.args.charges.now) in
    c.count.ensures job.program c.args.model.now front (length job.charges) c.loop-charge.invariant
    ∙ ap (λ (l : List Entry). summary_of job.program c.args.model.now l (length job.charges))
    (ap (λ (l : List Entry). front ++ l) (c.as_slice.ensures ∙ ap entries_of c.charge-item.is)
    ∙ sym (one_more c.args.charges.now c.loop-charge.charge-index c.charge-item.result c.loop-charge-test.true))
