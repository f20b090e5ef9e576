use Rattle.never_cut.proofs.Common.{◌≡◌, drop, with_sends}
use Rattle.never_cut.proofs.parts.put_sends.Given as goal

abbrev pub invariant-loop-sent : goal.invariant-loop-sent
invariant-loop-sent l = with_sends (drop l.sent-index l.sends) l.pipes ≡ with_sends l.sends l.initial.pipes
