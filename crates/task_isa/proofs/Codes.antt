-- Each word is that of one instruction at most, and decoding finds it.
use Rattle.task_isa.proofs.Common.{◌≡◌, ◌≢◌, ℕ, ◌/◌, ◌%◌, ◌^◌, ◌<◌, ◌≤◌, arith, refl, ap, ◌∙◌, subst, inl, inr, Option, Some, None, IfSome, IfNone, ◌==◌, eqb-true, eq-eqb, cases_Bool, get_or_past, Instr, Li, Mov, Add, Sub, Mul, And, Or, Xor, Shl, Shr, Divu, Remu, Ltu, Eq, Jmp, Jz, Jnz, Ev, Kind, Num, Now, Ld, St, Out, Send, Arm, Stop, Next, Done, word_with, word_of_instr, FitsWord, IsInstr, forms, form_in, with_word}
use Rattle.task_isa.specs.Code.{form_of, decoded}

-- the fields of a word
form_in-word_with : (op a b c i : ℕ) → op < 256 → FitsWord a b c i → form_in (word_with op a b c i) ≡ form_of op a b c i
form_in-word_with op a b c i few fits =
    let w : ℕ = word_with op a b c i in
    let op_is : w % 2 ^ 8 ≡ op = omega arith in
    let a_is : w / 2 ^ 8 % 2 ^ 4 ≡ a = omega arith in
    let b_is : w / 2 ^ 12 % 2 ^ 4 ≡ b = omega arith in
    let c_is : w / 2 ^ 16 % 2 ^ 4 ≡ c = omega arith in
    let i_is : w / 2 ^ 32 ≡ i = omega arith in
    cc

-- an instruction that is the form of its word is decoded
decoded-form : (op a b c i : ℕ) (instr : Instr) → op < 256 → FitsWord a b c i → form_of op a b c i ≡ Some instr → word_of_instr instr ≡ word_with op a b c i →
    decoded (word_with op a b c i) ≡ Some instr
unfolding decoded
decoded-form op a b c i instr few fits form word =
    ap (with_word (word_with op a b c i)) (form_in-word_with op a b c i few fits ∙ form) ∙ rw (eq-eqb _ _ word)

pub decoded-word : (instr : Instr) → IsInstr instr → decoded (word_of_instr instr) ≡ Some instr
unfolding form_of
decoded-word (Li a i) fits = decoded-form 1 a 0 0 i (Li a i) (omega arith) fits refl refl
decoded-word (Mov a b) fits = decoded-form 2 a b 0 0 (Mov a b) (omega arith) fits refl refl
decoded-word (Add a b c) fits = decoded-form 3 a b c 0 (Add a b c) (omega arith) fits refl refl
decoded-word (Sub a b c) fits = decoded-form 4 a b c 0 (Sub a b c) (omega arith) fits refl refl
decoded-word (Mul a b c) fits = decoded-form 5 a b c 0 (Mul a b c) (omega arith) fits refl refl
decoded-word (And a b c) fits = decoded-form 6 a b c 0 (And a b c) (omega arith) fits refl refl
decoded-word (Or a b c) fits = decoded-form 7 a b c 0 (Or a b c) (omega arith) fits refl refl
decoded-word (Xor a b c) fits = decoded-form 8 a b c 0 (Xor a b c) (omega arith) fits refl refl
decoded-word (Shl a b c) fits = decoded-form 9 a b c 0 (Shl a b c) (omega arith) fits refl refl
decoded-word (Shr a b c) fits = decoded-form 10 a b c 0 (Shr a b c) (omega arith) fits refl refl
decoded-word (Divu a b c) fits = decoded-form 11 a b c 0 (Divu a b c) (omega arith) fits refl refl
decoded-word (Remu a b c) fits = decoded-form 12 a b c 0 (Remu a b c) (omega arith) fits refl refl
decoded-word (Ltu a b c) fits = decoded-form 13 a b c 0 (Ltu a b c) (omega arith) fits refl refl
decoded-word (Eq a b c) fits = decoded-form 14 a b c 0 (Eq a b c) (omega arith) fits refl refl
decoded-word (Jmp i) fits = decoded-form 15 0 0 0 i (Jmp i) (omega arith) fits refl refl
decoded-word (Jz a i) fits = decoded-form 16 a 0 0 i (Jz a i) (omega arith) fits refl refl
decoded-word (Jnz a i) fits = decoded-form 17 a 0 0 i (Jnz a i) (omega arith) fits refl refl
decoded-word (Ev a) fits = decoded-form 18 a 0 0 0 (Ev a) (omega arith) fits refl refl
decoded-word (Kind a) fits = decoded-form 19 a 0 0 0 (Kind a) (omega arith) fits refl refl
decoded-word (Num a) fits = decoded-form 20 a 0 0 0 (Num a) (omega arith) fits refl refl
decoded-word (Now a) fits = decoded-form 21 a 0 0 0 (Now a) (omega arith) fits refl refl
decoded-word (Ld a b) fits = decoded-form 22 a b 0 0 (Ld a b) (omega arith) fits refl refl
decoded-word (St a b) fits = decoded-form 23 a b 0 0 (St a b) (omega arith) fits refl refl
decoded-word (Out a) fits = decoded-form 24 a 0 0 0 (Out a) (omega arith) fits refl refl
decoded-word (Send i a b) fits = decoded-form 25 a b 0 i (Send i a b) (omega arith) fits refl refl
decoded-word (Arm i a b) fits = decoded-form 26 a b 0 i (Arm i a b) (omega arith) fits refl refl
decoded-word (Stop i) fits = decoded-form 27 0 0 0 i (Stop i) (omega arith) fits refl refl
decoded-word (Next i) fits = decoded-form 28 0 0 0 i (Next i) (omega arith) fits refl refl
decoded-word Done fits = decoded-form 29 0 0 0 0 Done (omega arith) fits refl refl

with_word-some : (word : ℕ) (form : Option Instr) (instr : Instr) → with_word word form ≡ Some instr → word_of_instr instr ≡ word
with_word-some word None instr e = cc
with_word-some word (Some form) instr e =
    elim (cases_Bool (word_of_instr form == word)) [
      | inl is ↦
          let found = rw is at e in
          let same : form ≡ instr = cc in
          subst (λ (x : Instr). word_of_instr x ≡ word) same (eqb-true _ _ is)
      | inr is ↦ let none = rw is at e in cc
    ]

found_some : (word : ℕ) (o : Option Instr) → decoded word ≡ o → IfSome o (λ instr. word_of_instr instr ≡ word)
unfolding decoded
found_some word None e = tt
found_some word (Some instr) e = with_word-some word (form_in word) instr e

found_none : (word : ℕ) (o : Option Instr) → decoded word ≡ o → IfNone o ((instr : Instr) → IsInstr instr → word_of_instr instr ≢ word)
found_none word None e = λ instr fits same.
    let is : decoded word ≡ Some instr = subst (λ w. decoded w ≡ Some instr) same (decoded-word instr fits) in cc
found_none word (Some instr) e = tt

-- what is decoded has the word, and where nothing is, no instruction has it
pub decoded-some : (word : ℕ) → IfSome (decoded word) (λ instr. word_of_instr instr ≡ word)
decoded-some word = found_some word (decoded word) refl

pub decoded-none : (word : ℕ) → IfNone (decoded word) ((instr : Instr) → IsInstr instr → word_of_instr instr ≢ word)
decoded-none word = found_none word (decoded word) refl

-- no opcode is above 29
pub form_of_above : (op a b c i : ℕ) → 30 ≤ op → form_of op a b c i ≡ None
unfolding form_of
form_of_above op a b c i above = get_or_past (forms a b c i) op None above
