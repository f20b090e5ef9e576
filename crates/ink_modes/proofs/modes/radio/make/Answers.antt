use Rattle.ink_modes.proofs.Common.{List, All, refl, ap, ◌∙◌, sym, subst, Program, IsRunOf, JobParts, NamesThread, state_in}
use Rattle.ink_base.specs.declared.output.Output.{Output}
use Rattle.ink_radio.specs.declared.event.RadioEvent.{RadioEvent}
use Rattle.ink_radio.specs.declared.record.RadioRecord.{RadioRecord}
use Rattle.ink_radio.specs.Keeps.{EveryPrefixKeeps}
use Rattle.ink_radio.specs.Radio.{played, record_of}
use Rattle.ink_modes.specs.declared.given.Given.{Given}
use Rattle.ink_modes.specs.declared.finish.Record.TheVariants.{Radio}
use Rattle.ink_modes.specs.modes.Radio.{Makes}
use Rattle.ink_modes.proofs.Saved.{all_saved}
use Rattle.ink_modes.proofs.Tellable.{tellable}
use Rattle.ink_modes.proofs.modes.radio.make.Goals as goal

pub radio_text-requires : goal.radio_text-requires
radio_text-requires c =
    let r = c.in_ok-run.run' in
    let ran : IsRunOf r.job r = subst (λ (j : JobParts). IsRunOf j r) (sym c.in_ok-run.ensures.job_is) c.in_ok-run.ensures in
    let named : All (NamesThread r.job.program) (state_in r).outputs = (tellable r r.charges (state_in r) c.accepted.ensures.job ran refl refl).state.outputs in
    let saved = all_saved (NamesThread r.job.program) (state_in r).outputs c.as_slice.result.now named c.in_ok-told.ensures.keeps in
    subst (λ (z : Program × List Output). All (NamesThread z.0) z.1)
    (λ i. (sym (c.program.ensures.same ∙ c.accepted.ensures.same) i, ap (λ (t : RadioRecord). t.saved) (sym c.in_ok-told.ensures.told) i)) saved

pub returns-clause-record : goal.returns-clause-record
returns-clause-record c =
    let r = c.in_ok-run.run' in
    subst (λ (g : Given). Makes g (Radio r c.in_ok-told.told)) (sym c.into_scripted-job.ensures.is) (record {
      run = c.in_ok-run.ensures;
      played = c.in_ok-told.ensures.told ∙ ap (λ (s : List RadioEvent). record_of (played (state_in r).outputs s)) c.as_slice.ensures;
      keeps = subst (λ (s : List RadioEvent). EveryPrefixKeeps (state_in r).outputs s) c.as_slice.ensures c.in_ok-told.ensures.keeps;
    })
