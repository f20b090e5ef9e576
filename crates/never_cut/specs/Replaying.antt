-- The state that a replay works on stands for a state of the never-cut kernel.
use Rattle.never_cut.specs.declared.model.Model.{Model}
use Rattle.never_cut.specs.declared.replaying.Replaying.{Replaying}

-- the state, with its lists as they stand in a replay
abbrev pub model_of : Replaying → Model
model_of r =
    record {
      threads = r.threads.items;
      pipes = r.pipes.items;
      timers = r.timers.items;
      sources = r.sources.items;
      clock = r.clock;
      outputs = r.outputs.list.items;
      commits = r.commits;
      scan = r.scan;
    }
