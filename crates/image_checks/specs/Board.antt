-- The words of a board by what they hold.
use Rattle.std.specs.Prelude.{ℕ, List}
use Rattle.task_isa.specs.declared.program.Program.{Program}
use Rattle.fram_words.specs.Places.{Memory}
use Rattle.fram_words.specs.Shape.{memory_of}
use Rattle.ink_layout.specs.Shape.{shape_of}

-- the words of the program's board in the order of their addresses, as a memory
abbrev pub board : Program → List ℕ → Memory
board program words = memory_of (shape_of program) words
