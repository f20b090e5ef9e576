use Rattle.ink_modes.proofs.Common.{◌≡◌, ◌^◌, ◌<◌, List, ◌++◌, length, All, sym, ap, ◌∙◌, subst, flat_map, Program, Model, first_of, IsLegal, ChargeRecord, NamesPart, NamesThread, summary_of, journal_in, state_in, entries_of}
use Rattle.ink_base.specs.declared.output.Output.{Output}
use Rattle.ink_report.specs.Report.{head, entries_part}
use Rattle.ink_modes.proofs.Tellable.{state_of, tellable}
use Rattle.ink_modes.proofs.report.report.Goals as goal

pub state_after-requires-clause-legal : goal.state_after-requires-clause-legal
state_after-requires-clause-legal c =
    let job = c.args.run.now.job in
    subst (λ (l : List ChargeRecord). IsLegal job.program job.readings (first_of job) (flat_map entries_of l)) (sym c.as_slice-charges.ensures) c.requires.legal

pub state_after-requires-clause-few : goal.state_after-requires-clause-few
state_after-requires-clause-few c = subst (λ (l : List ChargeRecord). length (flat_map entries_of l) < 2 ^ 32) (sym c.as_slice-charges.ensures) c.requires.few

pub summary_after-requires-clause-fits : goal.summary_after-requires-clause-fits
summary_after-requires-clause-fits c =
    (tellable c.args.run.now c.as_slice-charges.result.now c.in_ok-model.model c.accepted-program.ensures.job c.requires c.as_slice-charges.ensures c.in_ok-model.ensures.state).state

pub summary_after-requires-clause-few : goal.summary_after-requires-clause-few
summary_after-requires-clause-few c = subst (λ (l : List ChargeRecord). length (flat_map entries_of l) < 2 ^ 32) (sym c.as_slice-charges.ensures) c.requires.few

pub put_head-requires : goal.put_head-requires
put_head-requires c =
    let told = tellable c.args.run.now c.as_slice-charges.result.now c.in_ok-model.model c.accepted-program.ensures.job c.requires c.as_slice-charges.ensures c.in_ok-model.ensures.state in
    subst (λ (z : Program × List Output). All (NamesThread z.0) z.1) (λ i. (sym c.accepted-program.ensures.same i, sym c.as_slice.ensures i)) told.state.outputs

pub put_journal-requires : goal.put_journal-requires
put_journal-requires c =
    let told = tellable c.args.run.now c.as_slice-charges.result.now c.in_ok-model.model c.accepted-program.ensures.job c.requires c.as_slice-charges.ensures c.in_ok-model.ensures.state in
    subst (λ (p : Program). All (NamesPart p) (flat_map entries_of c.as_slice-charges.result.now)) (sym (c.program.ensures.same ∙ c.accepted-program.ensures.same)) told.entries

pub returns : goal.returns
returns c =
    let r = c.args.run.now in
    let charges = c.as_slice-charges.ensures in
    let accepted = c.accepted-program.ensures.same in
    let state : c.in_ok-model.model ≡ state_in r = c.in_ok-model.ensures.state ∙ ap (state_of r) charges in
    let summary : c.in_ok-summary.summary ≡ summary_of r.job.program (state_in r) (journal_in r) (length r.job.charges) =
    c.in_ok-summary.ensures ∙ (λ i. summary_of r.job.program (state i) (flat_map entries_of (charges i)) (length r.job.charges)) in
    let outputs = c.as_slice.ensures ∙ ap (λ (m : Model). m.outputs) state in
    let headed = c.in_ok-put_head.ensures ∙ (λ i. c.new-out.ensures.items i ++ head (accepted i) (outputs i) (summary i) c.args.flags) in
    c.in_ok-put_journal.ensures ∙ (λ i. headed i ++ entries_part ((c.program.ensures.same ∙ accepted) i) (flat_map entries_of (charges i)) c.args.flags)
