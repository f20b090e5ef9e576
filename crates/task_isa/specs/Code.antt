-- The words of instructions.
use Rattle.std.specs.Prelude.{ℕ, ◌+◌, ◌*◌, ◌/◌, ◌%◌, ◌^◌, ◌<◌, ◌==◌, if◌then◌else◌, List, [], ◌∷◌, slice_index_or, Option, Some, None}
use Rattle.task_isa.specs.declared.instr.Instr.{Instr}
use Rattle.task_isa.specs.declared.instr.Instr.TheVariants.{Li, Mov, Add, Sub, Mul, And, Or, Xor, Shl, Shr, Divu, Remu, Ltu, Eq, Jmp, Jz, Jnz, Ev, Kind, Num, Now, Ld, St, Out, Send, Arm, Stop, Next, Done}

-- the opcode in bits 0 to 7, the registers A, B and C in 8 to 11, 12 to 15 and 16 to 19, zeros in 20 to 31, the number I in 32 to 63
abbrev pub word_with : (op a b c i : ℕ) → ℕ
word_with op a b c i = op + a * 2 ^ 8 + b * 2 ^ 12 + c * 2 ^ 16 + i * 2 ^ 32

-- the word of an instruction: its opcode and its operands, and zeros for what it doesn't have
abbrev pub word_of_instr : Instr → ℕ
word_of_instr (Li a i) = word_with 1 a 0 0 i
word_of_instr (Mov a b) = word_with 2 a b 0 0
word_of_instr (Add a b c) = word_with 3 a b c 0
word_of_instr (Sub a b c) = word_with 4 a b c 0
word_of_instr (Mul a b c) = word_with 5 a b c 0
word_of_instr (And a b c) = word_with 6 a b c 0
word_of_instr (Or a b c) = word_with 7 a b c 0
word_of_instr (Xor a b c) = word_with 8 a b c 0
word_of_instr (Shl a b c) = word_with 9 a b c 0
word_of_instr (Shr a b c) = word_with 10 a b c 0
word_of_instr (Divu a b c) = word_with 11 a b c 0
word_of_instr (Remu a b c) = word_with 12 a b c 0
word_of_instr (Ltu a b c) = word_with 13 a b c 0
word_of_instr (Eq a b c) = word_with 14 a b c 0
word_of_instr (Jmp i) = word_with 15 0 0 0 i
word_of_instr (Jz a i) = word_with 16 a 0 0 i
word_of_instr (Jnz a i) = word_with 17 a 0 0 i
word_of_instr (Ev a) = word_with 18 a 0 0 0
word_of_instr (Kind a) = word_with 19 a 0 0 0
word_of_instr (Num a) = word_with 20 a 0 0 0
word_of_instr (Now a) = word_with 21 a 0 0 0
word_of_instr (Ld a b) = word_with 22 a b 0 0
word_of_instr (St a b) = word_with 23 a b 0 0
word_of_instr (Out a) = word_with 24 a 0 0 0
word_of_instr (Send i a b) = word_with 25 a b 0 i
word_of_instr (Arm i a b) = word_with 26 a b 0 i
word_of_instr (Stop i) = word_with 27 0 0 0 i
word_of_instr (Next i) = word_with 28 0 0 0 i
word_of_instr Done = word_with 29 0 0 0 0

-- registers below 16 and a number of 32 bits
pub record FitsWord (a b c i : ℕ) : Type 0 where
  pub a_fits : a < 16
  pub b_fits : b < 16
  pub c_fits : c < 16
  pub i_fits : i < 2 ^ 32

-- the operands of an instruction, with zeros for what it doesn't have, fit their bits
abbrev pub IsInstr : Instr → Type 0
IsInstr (Li a i) = FitsWord a 0 0 i
IsInstr (Mov a b) = FitsWord a b 0 0
IsInstr (Add a b c) = FitsWord a b c 0
IsInstr (Sub a b c) = FitsWord a b c 0
IsInstr (Mul a b c) = FitsWord a b c 0
IsInstr (And a b c) = FitsWord a b c 0
IsInstr (Or a b c) = FitsWord a b c 0
IsInstr (Xor a b c) = FitsWord a b c 0
IsInstr (Shl a b c) = FitsWord a b c 0
IsInstr (Shr a b c) = FitsWord a b c 0
IsInstr (Divu a b c) = FitsWord a b c 0
IsInstr (Remu a b c) = FitsWord a b c 0
IsInstr (Ltu a b c) = FitsWord a b c 0
IsInstr (Eq a b c) = FitsWord a b c 0
IsInstr (Jmp i) = FitsWord 0 0 0 i
IsInstr (Jz a i) = FitsWord a 0 0 i
IsInstr (Jnz a i) = FitsWord a 0 0 i
IsInstr (Ev a) = FitsWord a 0 0 0
IsInstr (Kind a) = FitsWord a 0 0 0
IsInstr (Num a) = FitsWord a 0 0 0
IsInstr (Now a) = FitsWord a 0 0 0
IsInstr (Ld a b) = FitsWord a b 0 0
IsInstr (St a b) = FitsWord a b 0 0
IsInstr (Out a) = FitsWord a 0 0 0
IsInstr (Send i a b) = FitsWord a b 0 i
IsInstr (Arm i a b) = FitsWord a b 0 i
IsInstr (Stop i) = FitsWord 0 0 0 i
IsInstr (Next i) = FitsWord 0 0 0 i
IsInstr Done = FitsWord 0 0 0 0

-- the instructions with these operands, in the order of their opcodes, of which 0 is none
abbrev pub forms : (a b c i : ℕ) → List (Option Instr)
forms a b c i =
    None ∷ Some (Li a i) ∷ Some (Mov a b) ∷ Some (Add a b c) ∷ Some (Sub a b c) ∷ Some (Mul a b c) ∷ Some (And a b c) ∷ Some (Or a b c) ∷ Some (Xor a b c) ∷ Some (Shl a b c) ∷ Some (Shr a b c) ∷ Some (Divu a b c) ∷ Some (Remu a b c) ∷ Some (Ltu a b c) ∷ Some (Eq a b c) ∷ Some (Jmp i) ∷ Some (Jz a i) ∷ Some (Jnz a i) ∷ Some (Ev a) ∷ Some (Kind a) ∷ Some (Num a) ∷ Some (Now a) ∷ Some (Ld a b) ∷ Some (St a b) ∷ Some (Out a) ∷ Some (Send i a b) ∷ Some (Arm i a b) ∷ Some (Stop i) ∷ Some (Next i) ∷ Some Done ∷ []

-- the instruction of an opcode with these operands
unfoldable pub form_of : (op a b c i : ℕ) → Option Instr
form_of op a b c i = slice_index_or (forms a b c i) op None

-- the instruction that the opcode and the operands of a word make
abbrev pub form_in : ℕ → Option Instr
form_in word = form_of (word % 2 ^ 8) (word / 2 ^ 8 % 2 ^ 4) (word / 2 ^ 12 % 2 ^ 4) (word / 2 ^ 16 % 2 ^ 4) (word / 2 ^ 32)

-- the instruction, where it has this word
abbrev pub with_word : ℕ → Option Instr → Option Instr
with_word word None = None
with_word word (Some instr) = if word_of_instr instr == word then Some instr else None

-- the instruction that has a word, if one does
unfoldable pub decoded : ℕ → Option Instr
decoded word = with_word word (form_in word)
