use Rattle.ink_base.proofs.Loop.{Reads}
use Rattle.ink_base.proofs.split.words.Given as goal

abbrev pub invariant-loop-i : goal.invariant-loop-i
invariant-loop-i l = Reads l.text l.tokens.items l.place l.line l.i
