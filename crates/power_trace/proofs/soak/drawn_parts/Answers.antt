-- The draws of the second source begin behind those of the first, and those of the charges behind both.
use Rattle.power_trace.proofs.Common.{◌≡◌, ◌+◌, ◌*◌, [], ◌∷◌, ◌++◌, List, refl, ◌∙◌, arith}
use Rattle.power_trace.specs.Soak.{drawn_charges}
use Rattle.power_trace.proofs.Drawn.{state_more, draws_behind, charges_more}
use Rattle.power_trace.proofs.soak.drawn_parts.Goals as goal

pub loop-i-init : goal.loop-i-init
unfolding drawn_charges
loop-i-init c = record {
  state = state_more c.args.number _ _ 500 500 1000 c.in_ok-first.ensures.state c.in_ok-second.ensures.state refl;
  charges = c.new-charges.ensures;
}

pub loop-i-preserved : goal.loop-i-preserved
loop-i-preserved c =
    let before = c.loop-i.invariant.state in
    let i = c.loop-i._i in
    record {
      state = state_more c.args.number _ _ (1000 + 5 * i) 5 (1000 + 5 * (i + 1)) before c.in_ok-drawn_charge.ensures.state (omega arith);
      charges = c.in_ok-push-3.ensures.ok ∙ charges_more c.args.number _ i _ _ before c.in_ok-drawn_charge.ensures.charge c.loop-i.invariant.charges;
    }

pushed : {X : Type 0} (a b : X) (xs ys zs : List X) → xs ≡ [] → ys ≡ xs ++ a ∷ [] → zs ≡ ys ++ b ∷ [] → zs ≡ a ∷ b ∷ []
pushed a b xs ys zs none one two = rw (two, one, none) refl

pub returns-clause-readings : goal.returns-clause-readings
returns-clause-readings c =
    let first = c.in_ok-first.ensures.readings in
    let second = draws_behind c.args.number _ 500 500 _ c.in_ok-first.ensures.state c.in_ok-second.ensures.readings in
    let both = pushed c.in_ok-first.first c.in_ok-second.second _ _ _ c.new-readings.ensures c.in_ok-push.ensures.ok c.in_ok-push-2.ensures.ok in
    rw (← first, ← second) both
