-- What a base has saved is of what was put out.
use Rattle.ink_modes.proofs.Common.{◌≡◌, List, ◌++◌, length, take, sym, subst, arith, All, length-append}
use Rattle.std.proofs.lemmas.List.{get_or_append_left, take_all}
use Rattle.std.proofs.lemmas.List.Elements.{All-take}
use Rattle.ink_base.specs.declared.output.Output.{Output}
use Rattle.ink_radio.specs.declared.event.RadioEvent.{RadioEvent}
use Rattle.ink_radio.specs.Keeps.{EveryPrefixKeeps}
use Rattle.ink_radio.specs.Radio.{played}

-- what holds of each of a list holds of each of its beginning
all_front : (P : Output → Type 0) (xs ys : List Output) → All P (xs ++ ys) → All P xs
all_front P xs ys all k d lt = subst P (get_or_append_left xs ys d k lt) (all k d (omega (arith, length-append xs ys)))

pub all_saved : (P : Output → Type 0) (outputs : List Output) (script : List RadioEvent) → All P outputs → EveryPrefixKeeps outputs script → All P (played outputs script).saved
all_saved P outputs script all keeps =
    let whole : take (length script) script ≡ script = take_all (length script) script (omega arith) in
    let k = subst (λ (s : List RadioEvent). Rattle.ink_radio.specs.Keeps.Keeps outputs (played outputs s)) whole (keeps (length script)) in
    let base = played outputs script in
    all_front P base.saved base.fresh
    (all_front P (base.saved ++ base.fresh) k.prefix.0 (subst (All P) (sym k.prefix.1) (All-take P base.grown outputs all)))
