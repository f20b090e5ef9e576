-- The canonical text of a program, as bytes: its parts in the order of their numbers, one space between words, numbers without leading zeros.
use Rattle.std.specs.Prelude.{ℕ, zero, suc, Bool, true, false, List, [], ◌++◌, length, Option, Some, None, flat_map, ◌==◌, codes, decimal}
use Rattle.std.specs.List.{list_any}
use Rattle.ink_base.specs.declared.ids.ThreadId.{ThreadId}
use Rattle.task_isa.specs.Lookup.{thread_def, pipe_def, timer_def, task_def, instr_at}
use Rattle.task_isa.specs.declared.instr.Instr.{Instr}
use Rattle.task_isa.specs.declared.instr.Instr.TheVariants.{Li, Mov, Add, Sub, Mul, And, Or, Xor, Shl, Shr, Divu, Remu, Ltu, Eq, Jmp, Jz, Jnz, Ev, Kind, Num, Now, Ld, St, Out, Send, Arm, Stop, Next, Done}
use Rattle.task_isa.specs.declared.program.ThreadDef.{ThreadDef}
use Rattle.task_isa.specs.declared.program.PipeDef.{PipeDef}
use Rattle.task_isa.specs.declared.program.TimerDef.{TimerDef}
use Rattle.task_isa.specs.declared.program.Task.{Task}
use Rattle.task_isa.specs.declared.program.Program.{Program}

-- the name of a thread by its number
abbrev pub thread_name : Program → ThreadId → List ℕ
thread_name program t = (thread_def program t.0).name

-- expires D, where it is there
abbrev pub expires_text : Option ℕ → List ℕ
expires_text None = []
expires_text (Some ticks) = codes " expires " ++ decimal ticks

-- queue N state S log L
abbrev pub sizes_text : ThreadDef → List ℕ
sizes_text t = codes " queue " ++ decimal t.queue ++ codes " state " ++ decimal t.state ++ codes " log " ++ decimal t.log

-- thread NAME priority P, its sizes, and perhaps expires D
abbrev pub thread_text : ThreadDef → List ℕ
thread_text t = codes "thread " ++ t.name ++ codes " priority " ++ decimal t.priority ++ sizes_text t ++ expires_text t.expires ++ codes "\n"

-- source THREAD
abbrev pub source_text : Program → ThreadId → List ℕ
source_text program t = codes "source " ++ thread_name program t ++ codes "\n"

-- from THREAD to THREAD
abbrev pub ends_text : Program → PipeDef → List ℕ
ends_text program p = codes " from " ++ thread_name program p.writer ++ codes " to " ++ thread_name program p.reader

-- pipe NAME C, and its ends
abbrev pub pipe_text : Program → PipeDef → List ℕ
pipe_text program p = codes "pipe " ++ p.name ++ codes " " ++ decimal p.places ++ ends_text program p ++ codes "\n"

-- off, or due D period P
abbrev pub start_text : Option ℕ → ℕ → List ℕ
start_text None period = codes " off"
start_text (Some due) period = codes " due " ++ decimal due ++ codes " period " ++ decimal period

-- timer NAME thread THREAD, and how it starts
abbrev pub timer_text : Program → TimerDef → List ℕ
timer_text program t = codes "timer " ++ t.name ++ codes " thread " ++ thread_name program t.thread ++ start_text t.due t.period ++ codes "\n"

-- a register, behind a space
abbrev pub register_text : ℕ → List ℕ
register_text r = codes " r" ++ decimal r

-- a number into a register
abbrev pub li_text : ℕ → ℕ → List ℕ
li_text a i = codes "li" ++ register_text a ++ codes " " ++ decimal i

-- a word and one register
abbrev pub one_text : List ℕ → ℕ → List ℕ
one_text word a = word ++ register_text a

-- a word and two registers
abbrev pub two_text : List ℕ → ℕ → ℕ → List ℕ
two_text word a b = word ++ register_text a ++ register_text b

-- a word and three registers
abbrev pub three_text : List ℕ → ℕ → ℕ → ℕ → List ℕ
three_text word a b c = word ++ register_text a ++ register_text b ++ register_text c

-- a jump; the label of offset i is Li
abbrev pub jump_text : List ℕ → ℕ → ℕ → List ℕ
jump_text word a i = word ++ register_text a ++ codes " L" ++ decimal i

-- an instruction on a pipe or timer of this name
abbrev pub device_text : List ℕ → List ℕ → ℕ → ℕ → List ℕ
device_text word name a b = word ++ name ++ register_text a ++ register_text b

-- an instruction: its word and its operands
unfoldable pub instr_text : Program → Instr → List ℕ
instr_text program (Li a i) = li_text a i
instr_text program (Mov a b) = two_text (codes "mov") a b
instr_text program (Add a b c) = three_text (codes "add") a b c
instr_text program (Sub a b c) = three_text (codes "sub") a b c
instr_text program (Mul a b c) = three_text (codes "mul") a b c
instr_text program (And a b c) = three_text (codes "and") a b c
instr_text program (Or a b c) = three_text (codes "or") a b c
instr_text program (Xor a b c) = three_text (codes "xor") a b c
instr_text program (Shl a b c) = three_text (codes "shl") a b c
instr_text program (Shr a b c) = three_text (codes "shr") a b c
instr_text program (Divu a b c) = three_text (codes "divu") a b c
instr_text program (Remu a b c) = three_text (codes "remu") a b c
instr_text program (Ltu a b c) = three_text (codes "ltu") a b c
instr_text program (Eq a b c) = three_text (codes "eq") a b c
instr_text program (Jmp i) = codes "jmp L" ++ decimal i
instr_text program (Jz a i) = jump_text (codes "jz") a i
instr_text program (Jnz a i) = jump_text (codes "jnz") a i
instr_text program (Ev a) = one_text (codes "ev") a
instr_text program (Kind a) = one_text (codes "kind") a
instr_text program (Num a) = one_text (codes "num") a
instr_text program (Now a) = one_text (codes "now") a
instr_text program (Ld a b) = two_text (codes "ld") a b
instr_text program (St a b) = two_text (codes "st") a b
instr_text program (Out a) = one_text (codes "out") a
instr_text program (Send i a b) = device_text (codes "send ") (pipe_def program i).name a b
instr_text program (Arm i a b) = device_text (codes "arm ") (timer_def program i).name a b
instr_text program (Stop i) = codes "stop " ++ (timer_def program i).name
instr_text program (Next i) = codes "next " ++ (task_def program i).name
instr_text program Done = codes "done"

-- an instruction that jumps to this offset
abbrev pub jumps_to : ℕ → Instr → Bool
jumps_to o (Jmp i) = i == o
jumps_to o (Jz a i) = i == o
jumps_to o (Jnz a i) = i == o
jumps_to o _ = false

-- a jump of the code goes to this offset
abbrev pub is_target : List Instr → ℕ → Bool
is_target code o = list_any (jumps_to o) code

-- the line of the label Lo, where it is needed
abbrev pub label_text : Bool → ℕ → List ℕ
label_text true o = codes "L" ++ decimal o ++ codes ":\n"
label_text false o = []

-- the lines of the instruction at an offset
abbrev pub line_text : Program → Task → ℕ → List ℕ
line_text program task o = label_text (is_target task.code o) o ++ instr_text program (instr_at task o) ++ codes "\n"

-- the text of each number below a count, in order
abbrev pub each_below : ℕ → (ℕ → List ℕ) → List ℕ
each_below zero text = []
each_below (suc n) text = each_below n text ++ text n

-- task NAME thread THREAD limit M
abbrev pub task_line : Program → Task → List ℕ
task_line program t = codes "task " ++ t.name ++ codes " thread " ++ thread_name program t.thread ++ codes " limit " ++ decimal t.limit ++ codes "\n"

-- the line of a task, the lines of its code, and end
abbrev pub task_text : Program → Task → List ℕ
task_text program t = task_line program t ++ each_below (length t.code) (line_text program t) ++ codes "end\n"

-- the text of a program
abbrev pub print_of : Program → List ℕ
print_of program =
    codes "[program]\n" ++ flat_map thread_text program.threads ++ flat_map (source_text program) program.sources ++ flat_map (pipe_text program) program.pipes
    ++ flat_map (timer_text program) program.timers ++ flat_map (task_text program) program.tasks
