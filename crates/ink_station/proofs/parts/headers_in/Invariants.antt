use Rattle.std.proofs.Common.{◌≡◌, length}
use Rattle.ink_base.specs.TokenLines.{token_lines}
use Rattle.ink_station.specs.Parts.{headers_in}
use Rattle.ink_station.proofs.Headers.{with_found}
use Rattle.ink_station.proofs.parts.headers_in.Given as goal

abbrev pub invariant-loop-rest : goal.invariant-loop-rest
invariant-loop-rest l = with_found l.headers.items (token_lines l.text l.rest) ≡ headers_in 0 (token_lines l.text l.tokens)

abbrev pub decreases-loop-rest : goal.decreases-loop-rest
decreases-loop-rest l = length l.rest
