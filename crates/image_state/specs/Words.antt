-- The words of a board as a memory.
use Rattle.std.specs.Prelude.{ℕ, List}
use Rattle.task_isa.specs.declared.program.Program.{Program}
use Rattle.fram_words.specs.Places.{Memory}
use Rattle.fram_words.specs.Shape.{memory_of}
use Rattle.ink_layout.specs.Shape.{shape_of}

-- the words of the program's board, by place
abbrev pub by_place : Program → (words : List ℕ) → Memory
by_place program words = memory_of (shape_of program) words
