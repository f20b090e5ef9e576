use Rattle.std.specs.Prelude.{IfOk, Result, ◌≤◌}
use Rattle.ink_modes.proofs.Common.{◌≡◌, ◌<◌, Ok, Err, List, length, All, ap, ◌∙◌, sym, subst, Model, ChargeRecord, state_in}
use Rattle.ink_base.specs.declared.output.Output.{Output}
use Rattle.ink_base.specs.declared.limits.TheConstants as limits
use Rattle.ink_radio.specs.declared.limits.TheConstants as radio_limits
use Rattle.ink_radio.specs.Keeps.{EveryPrefixKeeps}
use Rattle.ink_modes.proofs.Outputs.{run_outputs}
use Rattle.ink_modes.proofs.Tellable.{state_of}
use Rattle.ink_modes.proofs.modes.radio.told_of.Goals as goal

-- what holds anyway holds where there is a result
anyway : {A B : Type 0} (r : Result A B) (P : Type 0) → P → IfOk r (λ x. P)
anyway (Ok x) P p = p
anyway (Err e) P p = tt

pub radio-requires-clause-outputs : goal.radio-requires-clause-outputs
radio-requires-clause-outputs c =
    let r = c.args.run.now in
    let outputs : c.as_slice-2.result.now ≡ (state_in r).outputs =
    c.as_slice-2.ensures ∙ (ap (λ (m : Model). m.outputs) c.in_ok-state.ensures.state ∙ ap (λ (l : List ChargeRecord). (state_of r l).outputs) c.as_slice.ensures) in
    subst (λ (l : List Output). length l ≤ radio_limits.OUTPUTS) (sym outputs) (run_outputs r c.in_ok-state.ensures.job c.requires.run).0

pub radio-requires-clause-threads : goal.radio-requires-clause-threads
radio-requires-clause-threads c =
    let r = c.args.run.now in
    let outputs : c.as_slice-2.result.now ≡ (state_in r).outputs =
    c.as_slice-2.ensures ∙ (ap (λ (m : Model). m.outputs) c.in_ok-state.ensures.state ∙ ap (λ (l : List ChargeRecord). (state_of r l).outputs) c.as_slice.ensures) in
    subst (λ (l : List Output). All (λ (o : Output). o.thread.0 < limits.THREADS) l) (sym outputs) (run_outputs r c.in_ok-state.ensures.job c.requires.run).1

pub returns-clause-keeps : goal.returns-clause-keeps
returns-clause-keeps c =
    let r = c.args.run.now in
    let outputs : c.as_slice-2.result.now ≡ (state_in r).outputs =
    c.as_slice-2.ensures ∙ (ap (λ (m : Model). m.outputs) c.in_ok-state.ensures.state ∙ ap (λ (l : List ChargeRecord). (state_of r l).outputs) c.as_slice.ensures) in
    anyway c.radio.result (EveryPrefixKeeps (state_in r).outputs c.args.script.now)
    (subst (λ (l : List Output). EveryPrefixKeeps l c.args.script.now) outputs c.radio.ensures.kept)
