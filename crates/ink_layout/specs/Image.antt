-- The first image of a board: its words before the first charge.
use Rattle.std.specs.Prelude.{◌≡◌, ℕ, ◌+◌, ◌-◌, ◌*◌, ◌/◌, ◌%◌, ◌==◌, ◌&&◌, nat_lt, nat_le, if◌then◌else◌, Bool, List, length}
use Rattle.task_isa.specs.declared.program.Program.{Program}
use Rattle.task_isa.specs.declared.program.TimerDef.{TimerDef}
use Rattle.task_isa.specs.Code.{word_of_instr}
use Rattle.prog_check.specs.Lookup.{timer_def, task_def, instr_at}
use Rattle.push_core.specs.Slots.{empty_word}
use Rattle.fram_words.specs.Places.{Place, Code, Page, Slot}
use Rattle.fram_words.specs.Header as header
use Rattle.fram_words.specs.Held.{due_word}
use Rattle.fram_words.specs.Shape.{memory_of}
use Rattle.ink_layout.specs.Shape.{shape_of, words_of, IsOnBoard}

-- a timer is one of the first so many, and of the thread
abbrev pub is_timer_of : Program → ℕ → ℕ → ℕ → Bool
is_timer_of program count t j = nat_lt j count && ((timer_def program j).thread.0 == t)

-- a timer's word, or its period
abbrev pub timer_word : TimerDef → Bool → ℕ
timer_word timer is_due = if is_due then due_word timer.due else timer.period

-- a word of a thread's block, with the first so many timers: a timer has two words in the block of its thread, and all others are zero
abbrev pub timed_word : Program → ℕ → ℕ → ℕ → ℕ
timed_word program count t w =
    if nat_le (header.due 0) w && is_timer_of program count t ((w - header.due 0) / 2) then timer_word (timer_def program ((w - header.due 0) / 2)) (w % 2 == 0) else 0

-- the code, the empty slots, and the timers' starting words in both copies of each page; all else is zero
abbrev pub first_memory : Program → Place → ℕ
first_memory program (Code x n) = word_of_instr (instr_at (task_def program x) n)
first_memory program (Page t p b k) = timed_word program (length program.timers) t (8 * p + k)
first_memory program (Slot t n) = empty_word n
first_memory program _ = 0

-- these are the words of the program's board, with this memory
pub record Holds (program : Program) (words : List ℕ) (memory : Place → ℕ) : Type 0 where
  pub count : length words ≡ words_of (shape_of program)
  pub each : (p : Place) → IsOnBoard program p → memory_of (shape_of program) words p ≡ memory p

-- the words of a board that was never charged
abbrev pub IsFirstImage : Program → List ℕ → Type 0
IsFirstImage program words = Holds program words (first_memory program)
