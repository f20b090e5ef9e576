-- How the evaluator's registers and lists stand for a configuration.
use Rattle.std.specs.Prelude.{◌≡◌, ℕ, ◌-◌, List, slice_index}
use Rattle.task_isa.specs.declared.act.Act.{Act}
use Rattle.task_isa.specs.declared.flow.Flow.{Flow}
use Rattle.task_isa.specs.declared.flow.Flow.TheVariants as flows
use Rattle.task_isa.specs.declared.run.Run.{Run}
use Rattle.task_isa.specs.Acts.{Given}
use Rattle.task_isa.specs.Meaning.{Config, Room, Stepped, GoesOn, IsOver, HasTrapped, execute, sent_to}

-- the registers, the position and the effects of a run
abbrev pub config_of : Run → Config
config_of r =
    record {
      cpu = record { at = r.at; registers = r.registers };
      effects = record { state = r.state; sends = r.sends; outs = r.outs; timers = r.timers };
    }

-- a flow, with the configuration that the run has after it
abbrev pub stepped_of : Flow → Config → Stepped
stepped_of flows.GoesOn c = GoesOn c
stepped_of (flows.IsOver outcome) c = IsOver outcome
stepped_of (flows.HasTrapped code) c = HasTrapped code

-- the room that the run keeps is what the start had, less what was sent
pub record KeepsRoom (rooms : List ℕ) (r : Run) : Type 0 where
  pub left : (q : ℕ) → slice_index r.room q ≡ slice_index rooms q - sent_to q r.sends

-- a run that is over is as it was
abbrev pub StaysWhenOver : Flow → Run → Run → Type 0
StaysWhenOver (flows.IsOver outcome) old new = new ≡ old
StaysWhenOver _ old new = Unit {0}

-- a run makes the step of an act
pub record Makes (act : Act) (given : Given) (room : Room) (old new : Run) (flow : Flow) : Type 0 where
  pub stepped : execute act given room (config_of old) ≡ stepped_of flow (config_of new)
  pub stays : StaysWhenOver flow old new
  pub room_kept : KeepsRoom room.pipes new
