-- Which code can be run: it can be counted, and its ids are those that a program's declarations can have.
use Rattle.std.specs.Prelude.{ℕ, ◌<◌, ◌^◌, List, length}
use Rattle.task_isa.specs.declared.act.Act.{Act}
use Rattle.task_isa.specs.declared.act.Act.TheVariants.{Sends, Arms, Stops, Continues}
use Rattle.task_isa.specs.declared.instr.Instr.{Instr}
use Rattle.task_isa.specs.declared.instr.Instr.TheVariants.{Send, Arm, Stop, Next}
use Rattle.task_isa.specs.Meaning.{instr_at}

-- the id that an instruction names fits its type
abbrev pub HasFittingId : Instr → Type 0
HasFittingId (Send i a b) = i < 256
HasFittingId (Arm i a b) = i < 256
HasFittingId (Stop i) = i < 256
HasFittingId (Next i) = i < 2 ^ 16
HasFittingId _ = Unit {0}

-- the same of what an instruction does
abbrev pub NamesFittingId : Act → Type 0
NamesFittingId (Sends pipe register value) = pipe < 256
NamesFittingId (Arms timer delay period) = timer < 256
NamesFittingId (Stops timer) = timer < 256
NamesFittingId (Continues task) = task < 2 ^ 16
NamesFittingId _ = Unit {0}

-- the offset of each instruction fits its register, and so does each id that one names
pub record IsRunnable (code : List Instr) : Type 0 where
  pub counted : length code < 2 ^ 32
  pub fitting : (n : ℕ) → n < length code → HasFittingId (instr_at code n)
