-- What one instruction of a task does: it names pipes, timers and tasks of its thread, and its numbers have 32 bits.
use Rattle.never_cut.proofs.Common.{◌≡◌, ℕ, ◌+◌, ◌<◌, ◌≤◌, ◌-◌, ◌*◌, ◌==◌, ◌/◌, ◌%◌, ◌^◌, Bool, true, false, cond, length, arith, nat_lt, All, slice_index, ForSome, div-le_self, mod-le, Event, Origin, Act, Sets, Saves, Puts, Sends, Arms, Stops, Continues, Traps, Instr, Li, Mov, Add, Sub, Mul, And, Or, Xor, Shl, Shr, Divu, Remu, Ltu, Eq, Ev, Kind, Num, Now, St, Out, Send, Arm, Stop, Next, Outcome, Divisor, Program, Task, Sent, TimerSet, Given, Cpu, reg, divided, bit_of, kind_of, number_of, Effects, Room, sent_to, pipe_def, timer_def, task_def, IsRightInstr}
use Rattle.task_isa.specs.Acts.{act_of}
use Rattle.std.specs.Int.Bits.{and_lt}
use Rattle.std.proofs.lemmas.Nat.{mod_below, or_lt, xor_lt}
use Rattle.ink_base.specs.declared.event.Origin.TheVariants as origins
use Rattle.task_isa.specs.declared.outcome.Outcome.TheVariants as outcomes
use Rattle.task_isa.specs.Code.{IsInstr}
use Rattle.never_cut.proofs.Values.{HaveBits}

-- an item within its bits, for a pipe that the thread writes
pub record IsRightItem (program : Program) (t : ℕ) (s : Sent) : Type 0 where
  pub known : s.pipe.0 < length program.pipes
  pub own : (pipe_def program s.pipe.0).writer.0 ≡ t
  pub value : s.value < 2 ^ 32

-- a setting within its bits, of a timer of the thread
pub record IsRightSetting (program : Program) (t : ℕ) (s : TimerSet) : Type 0 where
  pub known : s.timer.0 < length program.timers
  pub own : (timer_def program s.timer.0).thread.0 ≡ t
  pub due : ForSome s.due (λ due. due < 2 ^ 48)
  pub period : s.period < 2 ^ 32

-- the chain goes on with a task of the thread
abbrev pub IsRightOutcome : Program → ℕ → Outcome → Type 0
IsRightOutcome program t (outcomes.Next task) = (task.0 < length program.tasks) × ((task_def program task.0).thread.0 ≡ t)
IsRightOutcome program t _ = Unit {0}

-- the effects of a task of thread t fit the room that there was
pub record IsFitting (program : Program) (t size : ℕ) (room : Room) (e : Effects) : Type 0 where
  pub state : length e.state ≡ size
  pub values : HaveBits e.state
  pub outs : length e.outs ≤ room.log
  pub words : HaveBits e.outs
  pub sent : (q : ℕ) → sent_to q e.sends ≤ slice_index room.pipes q
  pub sends : All (IsRightItem program t) e.sends
  pub timers : All (IsRightSetting program t) e.timers

-- the event's value and the number of its source, pipe or timer have 32 bits
abbrev pub HasEventBits : Event → Type 0
HasEventBits e = (e.value < 2 ^ 32) × (number_of e.origin < 2 ^ 32)

-- what one instruction does names pipes, timers and tasks of the thread, and its numbers have 32 bits
abbrev pub IsRightAct : Program → ℕ → Act → Type 0
IsRightAct program t (Sets a v) = v < 2 ^ 32
IsRightAct program t (Saves n v) = v < 2 ^ 32
IsRightAct program t (Puts v) = v < 2 ^ 32
IsRightAct program t (Sends q a v) = IsRightItem program t (record { pipe = record { 0 = q }; value = v })
IsRightAct program t (Arms j delay period) = (j < length program.timers) × ((timer_def program j).thread.0 ≡ t) × (delay < 2 ^ 32) × (period < 2 ^ 32)
IsRightAct program t (Stops j) = (j < length program.timers) × ((timer_def program j).thread.0 ≡ t)
IsRightAct program t (Continues x) = IsRightOutcome program t (outcomes.Next (record { 0 = x }))
IsRightAct program t _ = Unit {0}

pub divided_right : (program : Program) (t n v a : ℕ) → v < 2 ^ 32 → IsRightAct program t (divided n (Sets a v))
divided_right program t n v a small = by_test (n == 0)
  where
    by_test : (b : Bool) → IsRightAct program t (cond b (Traps Divisor) (Sets a v))
    by_test true = tt
    by_test false = small

pub bit_small : (b : Bool) → bit_of b < 2 ^ 32
bit_small true = omega arith
bit_small false = omega arith

pub kind_small : (o : Origin) → kind_of o < 2 ^ 32
kind_small (origins.Source source count) = omega arith
kind_small (origins.Pipe pipe item) = omega arith
kind_small (origins.Timer timer deadline) = omega arith

-- a number that was divided
pub quotient_small : (a b : ℕ) → a < 2 ^ 32 → a / b < 2 ^ 32
quotient_small a b small = let le : a / b ≤ a = div-le_self a b in omega arith

pub act_right : (program : Program) (task : Task) (i : Instr) (given : Given) (cpu : Cpu) → IsRightInstr program task i → IsInstr i → HasEventBits given.event → HaveBits cpu.registers →
    IsRightAct program task.thread.0 (act_of i given cpu)
unfolding act_of
act_right program task (Li a i) given cpu right fits event bits = fits.i_fits
act_right program task (Mov a b) given cpu right fits event bits = bits b
act_right program task (Add a b c) given cpu right fits event bits = mod_below (reg cpu b + reg cpu c) (2 ^ 32) (omega arith)
act_right program task (Sub a b c) given cpu right fits event bits = mod_below (reg cpu b + 2 ^ 32 - reg cpu c) (2 ^ 32) (omega arith)
act_right program task (Mul a b c) given cpu right fits event bits = mod_below (reg cpu b * reg cpu c) (2 ^ 32) (omega arith)
act_right program task (And a b c) given cpu right fits event bits = and_lt 32 (reg cpu b) (reg cpu c) (bits b) (bits c)
act_right program task (Or a b c) given cpu right fits event bits = or_lt 32 (reg cpu b) (reg cpu c) (bits b) (bits c)
act_right program task (Xor a b c) given cpu right fits event bits = xor_lt 32 (reg cpu b) (reg cpu c) (bits b) (bits c)
act_right program task (Shl a b c) given cpu right fits event bits = mod_below (reg cpu b * 2 ^ (reg cpu c % 32)) (2 ^ 32) (omega arith)
act_right program task (Shr a b c) given cpu right fits event bits = quotient_small (reg cpu b) (2 ^ (reg cpu c % 32)) (bits b)
act_right program task (Divu a b c) given cpu right fits event bits = divided_right program task.thread.0 (reg cpu c) (reg cpu b / reg cpu c) a (quotient_small (reg cpu b) (reg cpu c) (bits b))
act_right program task (Remu a b c) given cpu right fits event bits =
    divided_right program task.thread.0 (reg cpu c) (reg cpu b % reg cpu c) a (let le : reg cpu b % reg cpu c ≤ reg cpu b = mod-le (reg cpu b) (reg cpu c) in let small = bits b in omega arith)
act_right program task (Ltu a b c) given cpu right fits event bits = bit_small (nat_lt (reg cpu b) (reg cpu c))
act_right program task (Eq a b c) given cpu right fits event bits = bit_small (reg cpu b == reg cpu c)
act_right program task (Ev a) given cpu right fits event bits = event.0
act_right program task (Kind a) given cpu right fits event bits = kind_small given.event.origin
act_right program task (Num a) given cpu right fits event bits = event.1
act_right program task (Now a) given cpu right fits event bits = mod_below given.time (2 ^ 32) (omega arith)
act_right program task (St a b) given cpu right fits event bits = bits a
act_right program task (Out a) given cpu right fits event bits = bits a
act_right program task (Send i a b) given cpu right fits event bits = record { known = right.0; own = right.1; value = mod_below (reg cpu b) (2 ^ 32) (omega arith) }
act_right program task (Arm i a b) given cpu right fits event bits = (right.0, right.1, mod_below (reg cpu a) (2 ^ 32) (omega arith), mod_below (reg cpu b) (2 ^ 32) (omega arith))
act_right program task (Stop i) given cpu right fits event bits = right
act_right program task (Next i) given cpu right fits event bits = right
act_right program task _ given cpu right fits event bits = tt
