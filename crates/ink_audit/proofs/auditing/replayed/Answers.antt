use Rattle.ink_audit.proofs.Common.{ℕ, List, Program, sym, ◌∙◌, subst}
use Rattle.never_cut.specs.Start.{CanStart}
use Rattle.ink_audit.proofs.Starts.{start_starts}
use Rattle.ink_audit.proofs.auditing.replayed.Goals as goal

pub replay_from-requires-clause-start : goal.replay_from-requires-clause-start
replay_from-requires-clause-start c =
    subst (λ (z : Program × List (List ℕ)). CanStart z.0 z.1 c.in-Some.start.model) (λ k. (sym c.accepted-in-Some.ensures.same k, sym c.readings-in-Some.ensures.same k))
    (start_starts c.args.job.now.program c.args.job.now.readings c.in-Some.start c.start.ensures.job.accepted (c.start.ensures.job.start c.in-Some.start (sym c.start.ensures.same ∙ c.in-Some.is)))
