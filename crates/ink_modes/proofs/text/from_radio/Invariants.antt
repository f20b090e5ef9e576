use Rattle.std.specs.Prelude.{◌≡◌, length}
use Rattle.ink_base.specs.Suffix.{IsSuffix}
use Rattle.ink_base.specs.TokenLines.{token_lines}
use Rattle.ink_modes.specs.modes.Radio.{from_radio}
use Rattle.ink_modes.proofs.text.from_radio.Given as goal

-- no line before the rest begins with the header
abbrev pub invariant-lines : goal.invariant-lines
invariant-lines l = record {
  same : from_radio (token_lines l.text l.tokens) ≡ from_radio (token_lines l.text l.rest);
  suffix : IsSuffix l.rest l.tokens;
}

abbrev pub decreases-lines : goal.decreases-lines
decreases-lines l = length l.rest
