-- What one instruction does, read off the registers and the event.
use Rattle.std.specs.Prelude.{ℕ, ◌+◌, ◌-◌, ◌*◌, ◌/◌, ◌%◌, ◌^◌, ◌==◌, nat_lt, Bool, if◌then◌else◌, List, slice_index, bit_and, bit_or, bit_xor}
use Rattle.ink_base.specs.declared.event.Event.{Event}
use Rattle.ink_base.specs.declared.event.Origin as events
use Rattle.ink_base.specs.declared.event.Origin.TheVariants as origins
use Rattle.task_isa.specs.declared.instr.Instr.{Instr}
use Rattle.task_isa.specs.declared.instr.Instr.TheVariants.{Li, Mov, Add, Sub, Mul, And, Or, Xor, Shl, Shr, Divu, Remu, Ltu, Eq, Jmp, Jz, Jnz, Ev, Kind, Num, Now, Ld, St, Out, Send, Arm, Stop, Next, Done}
use Rattle.task_isa.specs.declared.outcome.TrapCode.TheVariants.{Divisor}
use Rattle.task_isa.specs.declared.act.Act.{Act}
use Rattle.task_isa.specs.declared.act.Act.TheVariants.{Sets, Goes, Loads, Saves, Puts, Sends, Arms, Stops, Continues, Ends, Traps}

-- what the instructions read beside the registers: the event that is served, and the scan's time
pub record Given : Type 0 where
  pub event : Event
  pub time : ℕ

-- the offset of the next instruction, and the sixteen registers
pub record Cpu : Type 0 where
  pub at : ℕ
  pub registers : List ℕ

-- what an event comes from, as a task sees it
abbrev pub kind_of : events.Origin → ℕ
kind_of (origins.Source source count) = 1
kind_of (origins.Pipe pipe item) = 2
kind_of (origins.Timer timer deadline) = 3

-- which source, pipe or timer it is
abbrev pub number_of : events.Origin → ℕ
number_of (origins.Source source count) = source.0
number_of (origins.Pipe pipe item) = pipe.0
number_of (origins.Timer timer deadline) = timer.0

-- what a register holds
abbrev pub reg : Cpu → ℕ → ℕ
reg cpu a = slice_index cpu.registers a

-- a test's answer as a word
abbrev pub bit_of : Bool → ℕ
bit_of b = if b then 1 else 0

-- a division by zero traps
abbrev pub divided : ℕ → Act → Act
divided divisor act = if divisor == 0 then Traps Divisor else act

-- what each instruction does; a value that is sent, a delay and a period have 32 bits, as registers have
unfoldable pub act_of : Instr → Given → Cpu → Act
act_of (Li a i) given cpu = Sets a i
act_of (Mov a b) given cpu = Sets a (reg cpu b)
act_of (Add a b c) given cpu = Sets a ((reg cpu b + reg cpu c) % 2 ^ 32)
act_of (Sub a b c) given cpu = Sets a ((reg cpu b + 2 ^ 32 - reg cpu c) % 2 ^ 32)
act_of (Mul a b c) given cpu = Sets a (reg cpu b * reg cpu c % 2 ^ 32)
act_of (And a b c) given cpu = Sets a (bit_and (reg cpu b) (reg cpu c))
act_of (Or a b c) given cpu = Sets a (bit_or (reg cpu b) (reg cpu c))
act_of (Xor a b c) given cpu = Sets a (bit_xor (reg cpu b) (reg cpu c))
act_of (Shl a b c) given cpu = Sets a (reg cpu b * 2 ^ (reg cpu c % 32) % 2 ^ 32)
act_of (Shr a b c) given cpu = Sets a (reg cpu b / 2 ^ (reg cpu c % 32))
act_of (Divu a b c) given cpu = divided (reg cpu c) (Sets a (reg cpu b / reg cpu c))
act_of (Remu a b c) given cpu = divided (reg cpu c) (Sets a (reg cpu b % reg cpu c))
act_of (Ltu a b c) given cpu = Sets a (bit_of (nat_lt (reg cpu b) (reg cpu c)))
act_of (Eq a b c) given cpu = Sets a (bit_of (reg cpu b == reg cpu c))
act_of (Jmp i) given cpu = Goes i
act_of (Jz a i) given cpu = Goes (if reg cpu a == 0 then i else cpu.at + 1)
act_of (Jnz a i) given cpu = Goes (if reg cpu a == 0 then cpu.at + 1 else i)
act_of (Ev a) given cpu = Sets a given.event.value
act_of (Kind a) given cpu = Sets a (kind_of given.event.origin)
act_of (Num a) given cpu = Sets a (number_of given.event.origin)
act_of (Now a) given cpu = Sets a (given.time % 2 ^ 32)
act_of (Ld a b) given cpu = Loads a (reg cpu b)
act_of (St a b) given cpu = Saves (reg cpu b) (reg cpu a)
act_of (Out a) given cpu = Puts (reg cpu a)
act_of (Send i a b) given cpu = Sends i a (reg cpu b % 2 ^ 32)
act_of (Arm i a b) given cpu = Arms i (reg cpu a % 2 ^ 32) (reg cpu b % 2 ^ 32)
act_of (Stop i) given cpu = Stops i
act_of (Next i) given cpu = Continues i
act_of Done given cpu = Ends
