use Rattle.std.proofs.Common.{[], ◌∷◌, ◌++◌, sym, ap, ◌∙◌, append_assoc}
use Rattle.ink_station.specs.kept.Cores.{IsPrepared}
use Rattle.ink_station.proofs.Pairs.{grown}
use Rattle.ink_station.proofs.running.prepared.Goals as goal

pub loop-job-preserved : goal.loop-job-preserved
loop-job-preserved c =
    let e = c.in_ok-prepare.ensures in (
      grown IsPrepared c.loop-job.yielded c.loop-job.cores.items c.push.new.self.items c.in-Some.job c.in_ok-prepare.field-0 c.in_ok-push.ensures.items c.loop-job.invariant.0
          (record { limits = e.limits; job_is = e.job; image = e.image; board = e.board }),
      c.loop-job.invariant.1 ∙ (ap (λ l. c.loop-job.yielded ++ l) c.in-Some.ensures.steps.0 ∙ sym (append_assoc c.loop-job.yielded (c.in-Some.job ∷ []) c.next.new.self.rest.items)),
    )
