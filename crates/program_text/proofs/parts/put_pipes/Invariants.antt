use Rattle.program_text.proofs.Common.{◌≡◌, ◌++◌, take, All, PipeDef, pipe_text, IsNamed}
use Rattle.std.specs.Prelude.{flat_map}
use Rattle.program_text.proofs.parts.put_pipes.Given as goal

abbrev pub invariant-loop-pipe : goal.invariant-loop-pipe
invariant-loop-pipe l = (l.out.items ≡ l.fn.out.items ++ flat_map (pipe_text l.program) (take l.pipe-index l.pipes)) × All (λ (x : PipeDef). IsNamed x.name) (take l.pipe-index l.pipes)
