-- Marks of the offsets that need a label.
use Rattle.std.specs.Prelude.{◌≡◌, ℕ, ◌<◌, Bool, true, false, List, length, slice_index_or, slice_set}
use Rattle.task_isa.specs.declared.instr.Instr.{Instr}
use Rattle.task_isa.specs.declared.instr.Instr.TheVariants.{Jmp, Jz, Jnz}
use Rattle.program_text.specs.Print.{is_target}

-- so many marks, which tell where the jumps of the code go
pub record AreMarks (marks : List Bool) (count : ℕ) (code : List Instr) : Type 0 where
  pub size : length marks ≡ count
  pub right : (o : ℕ) → o < count → slice_index_or marks o false ≡ is_target code o

-- the marks after one more instruction
abbrev pub with_mark : List Bool → Instr → List Bool
with_mark marks (Jmp i) = slice_set marks i true
with_mark marks (Jz a i) = slice_set marks i true
with_mark marks (Jnz a i) = slice_set marks i true
with_mark marks _ = marks
