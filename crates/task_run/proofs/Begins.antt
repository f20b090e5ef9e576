-- A scan's pick tells what a task's first registers have to.
use Rattle.task_run.proofs.Common.{◌≡◌, ℕ, [], refl, ap, Option, Some, None, TaskId, Memory, Program, Pick, Model, Saved, saved, StandsThread, Readings, IsPicked, Background, no_pages, WriteFirst, Resume, begin, first_phase, execution_of, running_task, Knows, KnowsAt, EveryPickBegins}
use Rattle.task_run.specs.kept.Served.{Begins as Starts}
use Rattle.task_run.proofs.Accesses.{Holding, unwritten, serving_at}
use Rattle.task_run.proofs.Traps.{unsent, chain_words}
use Rattle.task_run.proofs.Resumes.{late-idle}

module _ (program : Program) (readings : Readings) (words : Memory) (m : Model) (pick : Pick) (stamp : ℕ) (g : Background program readings words m)
    (p : IsPicked program words m pick) (is : stamp ≡ m.commits) where
  abbrev x : Saved
  x = saved program m pick.thread.0

  abbrev stands : StandsThread words program m pick.thread.0
  stands = g.private.threads pick.thread.0 p.known

  held : Holding program words m (begin pick stamp) x [] stands.stamp stands.origin stands.value
  held = record {
    picked = p;
    stamp = is;
    buffered = unwritten program m words pick.thread.0 pick.commit_word stands p.commit_word;
    fresh = refl;
    logged = stands.log;
    sent = unsent program m words g.private;
    size = g.sound.shape.states pick.thread.0 p.known;
    pages = no_pages program pick.thread.0;
  }

  by_running : (running : Option TaskId) → pick.running ≡ running → KnowsAt program words m (record (begin pick stamp) { phase = first_phase running }) (first_phase running)
  by_running None idle =
      serving_at program m words (begin pick stamp) (begin pick stamp).execution WriteFirst x [] stands.stamp stands.origin stands.value held
      (record { idle = idle; early = late-idle program words m pick p idle; is = refl; unsent = refl; before = Starts })
  by_running (Some task) runs =
      let event = chain_words program words m pick task stands p runs in
      serving_at program m words (begin pick stamp) (begin pick stamp).execution Resume x [] stands.stamp stands.origin stands.value held
      (task, runs, refl, refl, refl, ap (λ r. execution_of (running_task r)) runs, event.0, event.1)

  pub begins : Knows program words m (begin pick stamp)
  begins = by_running pick.running refl

pub every_pick : EveryPickBegins
every_pick = begins
