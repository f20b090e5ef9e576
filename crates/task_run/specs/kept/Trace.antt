-- The configurations that the run of a task comes to, an instruction at a time.
use Rattle.std.specs.Prelude.{ℕ, zero, suc, List}
use Rattle.task_isa.specs.declared.instr.Instr.{Instr}
use Rattle.task_isa.specs.Acts.{Given, act_of}
use Rattle.task_isa.specs.Meaning.{Config, Room, Stepped, GoesOn, IsOver, HasTrapped, execute, instr_at}

-- one more instruction, unless the run is over
abbrev pub one_more : List Instr → Given → Room → Stepped → Stepped
one_more code given room (GoesOn c) = execute (act_of (instr_at code c.cpu.at) given c.cpu) given room c
one_more code given room (IsOver outcome) = IsOver outcome
one_more code given room (HasTrapped trap) = HasTrapped trap

-- what a run has come to after so many instructions
abbrev pub config_after : List Instr → Given → Room → ℕ → Config → Stepped
config_after code given room zero c = GoesOn c
config_after code given room (suc n) c = one_more code given room (config_after code given room n c)
