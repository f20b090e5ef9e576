use Rattle.program_text.proofs.Common.{◌≡◌, ◌++◌, take, All, ThreadDef, thread_text, IsNamed}
use Rattle.std.specs.Prelude.{flat_map}
use Rattle.program_text.proofs.parts.put_threads.Given as goal

abbrev pub invariant-loop-thread : goal.invariant-loop-thread
invariant-loop-thread l = (l.out.items ≡ l.fn.out.items ++ flat_map thread_text (take l.thread-index l.threads)) × All (λ (x : ThreadDef). IsNamed x.name) (take l.thread-index l.threads)
