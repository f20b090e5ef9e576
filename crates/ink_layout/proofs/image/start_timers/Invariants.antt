-- The words of the timers before.
use Rattle.ink_layout.proofs.Common.{Holds, timed_word, with_blocks}
use Rattle.ink_layout.proofs.image.start_timers.Given as goal

abbrev pub invariant-loop-j : goal.invariant-loop-j
invariant-loop-j l = Holds l.program l.fram (with_blocks l.program (timed_word l.program l.j))
