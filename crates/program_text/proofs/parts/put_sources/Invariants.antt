use Rattle.program_text.proofs.Common.{◌≡◌, ◌++◌, take, source_text}
use Rattle.std.specs.Prelude.{flat_map}
use Rattle.program_text.proofs.parts.put_sources.Given as goal

abbrev pub invariant-loop-source : goal.invariant-loop-source
invariant-loop-source l = l.out.items ≡ l.fn.out.items ++ flat_map (source_text l.program) (take l.source-index l.sources)
