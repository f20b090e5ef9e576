-- What every script keeps.
use Rattle.std.specs.Prelude.{◌≡◌, ℕ, ◌≤◌, List, ◌++◌, length, take}
use Rattle.ink_base.specs.declared.output.Output.{Output}
use Rattle.ink_radio.specs.declared.event.RadioEvent.{RadioEvent}
use Rattle.ink_radio.specs.declared.state.RadioState.{RadioState}
use Rattle.ink_radio.specs.Radio.{played}

-- the first list is how the second begins
abbrev pub IsPrefix : List Output → List Output → Type 0
IsPrefix xs ys = (rest : List Output) × (xs ++ rest ≡ ys)

-- the base has the first of the grown outputs, in order and each once, and the node counts none as saved that isn't
pub record Keeps (outputs : List Output) (s : RadioState) : Type 0 where
  pub prefix : IsPrefix (s.saved ++ s.fresh) (take s.grown outputs)
  pub acked : s.acked ≤ length s.saved

-- so it is after every prefix of a script
abbrev pub EveryPrefixKeeps : List Output → List RadioEvent → Type 0
EveryPrefixKeeps outputs script = (n : ℕ) → Keeps outputs (played outputs (take n script))
