-- The code of a task: what its instructions take, where they may go, and whether they can trap.
use Rattle.std.specs.Prelude.{ℕ, zero, suc, ◌+◌, ◌==◌, ◌&&◌, ◌||◌, max, not, nat_lt, nat_le, Bool, true, false, List, [], ◌∷◌, length, Option, Some, None}
use Rattle.std.specs.List.{list_any}
use Rattle.task_isa.specs.declared.instr.Instr.{Instr}
use Rattle.task_isa.specs.declared.instr.Instr.TheVariants.{Jmp, Jz, Jnz, Divu, Remu, Ld, St, Out, Send, Arm, Stop, Next, Done}
use Rattle.task_isa.specs.declared.program.Task.{Task}
use Rattle.prog_check.specs.Accepted.{ends_code}
use Rattle.prog_check.specs.Lookup.{instr_at}

-- how many accesses an instruction takes at most, its fetch included
abbrev pub weight : Instr → ℕ
weight (Send i a b) = 6
weight (Out a) = 4
weight (Arm i a b) = 3
weight (Ld a b) = 2
weight (St a b) = 2
weight (Stop i) = 2
weight _ = 1

-- the offset that an instruction may jump to
abbrev pub target_of : Instr → Option ℕ
target_of (Jmp i) = Some i
target_of (Jz a i) = Some i
target_of (Jnz a i) = Some i
target_of _ = None

-- this is the offset
abbrev pub is_target : Option ℕ → ℕ → Bool
is_target None next = false
is_target (Some i) next = i == next

-- the task may go on at an offset behind the instruction at another one: at the next, or where the jump goes
abbrev pub may_follow : Task → (at next : ℕ) → Bool
may_follow task at next = (not (ends_code (instr_at task at)) && (next == at + 1)) || is_target (target_of (instr_at task at)) next

-- the task is over behind an instruction
abbrev pub ends_task : Instr → Bool
ends_task (Next i) = true
ends_task Done = true
ends_task _ = false

-- an instruction at an offset jumps to a later one, if it jumps
abbrev pub jumps_up : (at : ℕ) → Option ℕ → Bool
jumps_up at None = true
jumps_up at (Some i) = nat_lt at i

-- what holds of each number below a count
unfoldable pub all_below : (ℕ → Bool) → ℕ → Bool
all_below test zero = true
all_below test (suc n) = all_below test n && test n

-- so does each instruction of the code
abbrev pub goes_up : Task → Bool
goes_up task = all_below (λ (at : ℕ). jumps_up at (target_of (instr_at task at))) (length task.code)

-- code is forward where its jumps go up and the limit allows as many instructions as there are
abbrev pub is_forward : Task → Bool
is_forward task = nat_le (length task.code) task.limit && goes_up task

-- what the heaviest instruction takes
abbrev pub greatest_weight : List Instr → ℕ
greatest_weight [] = 0
greatest_weight (instr ∷ code) = max (weight instr) (greatest_weight code)

-- an instruction that may trap
abbrev pub may_trap : Instr → Bool
may_trap (Divu a b c) = true
may_trap (Remu a b c) = true
may_trap (Ld a b) = true
may_trap (St a b) = true
may_trap (Out a) = true
may_trap _ = false

-- a task that may: at its limit, or by one of its instructions
abbrev pub can_trap : Task → Bool
can_trap task = not (is_forward task) || list_any may_trap task.code
