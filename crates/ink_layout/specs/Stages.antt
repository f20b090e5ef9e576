-- The first image while it is made.
use Rattle.std.specs.Prelude.{ℕ, ◌+◌, ◌*◌, ◌==◌, ◌&&◌, ◌||◌, nat_lt, if◌then◌else◌, Bool}
use Rattle.task_isa.specs.declared.program.Program.{Program}
use Rattle.task_isa.specs.Code.{word_of_instr}
use Rattle.prog_check.specs.Lookup.{task_def, instr_at}
use Rattle.push_core.specs.Slots.{empty_word}
use Rattle.fram_words.specs.Places.{Place, Code, Page, Slot}

-- row by row, a place m of row y comes before place n of row x
abbrev pub comes_before : ℕ → ℕ → ℕ → ℕ → Bool
comes_before x n y m = nat_lt y x || (y == x && nat_lt m n)

-- the code up to an instruction of a task
abbrev pub code_until : Program → ℕ → ℕ → Place → ℕ
code_until program x n (Code y m) = if comes_before x n y m then word_of_instr (instr_at (task_def program y) m) else 0
code_until program x n _ = 0

-- all code, and the slots up to one of a queue
abbrev pub slots_until : Program → ℕ → ℕ → Place → ℕ
slots_until program t n (Code x m) = word_of_instr (instr_at (task_def program x) m)
slots_until program t n (Slot u m) = if comes_before t n u m then empty_word m else 0
slots_until program t n _ = 0

-- all code and slots, and these words in both copies of the pages
abbrev pub with_blocks : Program → (ℕ → ℕ → ℕ) → Place → ℕ
with_blocks program block (Code x m) = word_of_instr (instr_at (task_def program x) m)
with_blocks program block (Slot u m) = empty_word m
with_blocks program block (Page t p b k) = block t (8 * p + k)
with_blocks program block _ = 0

-- a word of a thread's block is written
abbrev pub put_word : (ℕ → ℕ → ℕ) → ℕ → ℕ → ℕ → ℕ → ℕ → ℕ
put_word block t w value u v = if u == t && v == w then value else block u v
