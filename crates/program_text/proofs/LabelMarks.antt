-- The marks of the offsets to which jumps go.
use Rattle.program_text.proofs.Common.{◌≡◌, ℕ, ◌<◌, Bool, true, false, ◌||◌, eqb, List, [], ◌∷◌, ◌++◌, length, get_or, refl, sym, ap, ◌∙◌, inl, inr, arith, eqb-true, get_or-set_same, get_or-set_other, length-set, set, replicate, cases_Bool, eqb-false, get_or-replicate, length-replicate, list_any-append, Instr, Jmp, Jz, Jnz, jumps_to, is_target, AreMarks, with_mark}
use Rattle.std.proofs.Math.Bool.{or-false}

pub AreMarks-none : (count : ℕ) → AreMarks (replicate count false) count []
AreMarks-none count = record {
  size = length-replicate count false;
  right = λ o lt. get_or-replicate count o false false lt;
}

both : (x : Bool) → (x || true) ≡ true
both true = refl
both false = refl

-- a mark after one more is set
set_is : (marks : List Bool) (i o : ℕ) (x : Bool) → o < length marks → get_or marks o false ≡ x → get_or (set marks i true) o false ≡ (x || eqb i o)
set_is marks i o x lt was =
    elim (cases_Bool (eqb i o)) [
      | inl same ↦
          let e : i ≡ o = eqb-true i o same in
          rw same (ap (λ (n : ℕ). get_or (set marks i true) n false) (sym e) ∙ get_or-set_same marks i true false (omega arith) ∙ sym (both x))
      | inr other ↦ rw other (get_or-set_other marks i o true false (λ e. eqb-false i o other (sym e)) ∙ was ∙ sym (or-false x))
    ]

more : (code : List Instr) (instr : Instr) (o : ℕ) → is_target (code ++ instr ∷ []) o ≡ (is_target code o || jumps_to o instr)
more code instr o = list_any-append (jumps_to o) code (instr ∷ []) ∙ ap (λ (b : Bool). is_target code o || b) (or-false (jumps_to o instr))

set_marks : (marks : List Bool) (count i : ℕ) (code : List Instr) (instr : Instr) → ((o : ℕ) → jumps_to o instr ≡ eqb i o) → AreMarks marks count code → AreMarks (set marks i true) count (code ++ instr ∷ [])
set_marks marks count i code instr jumps are = record {
  size = length-set marks i true ∙ are.size;
  right = λ o lt. set_is marks i o (is_target code o) (omega (arith, are.size)) (are.right o lt) ∙ ap (λ (b : Bool). is_target code o || b) (sym (jumps o)) ∙ sym (more code instr o);
}

same_marks : (marks : List Bool) (count : ℕ) (code : List Instr) (instr : Instr) → ((o : ℕ) → jumps_to o instr ≡ false) → AreMarks marks count code → AreMarks marks count (code ++ instr ∷ [])
same_marks marks count code instr stays are = record {
  size = are.size;
  right = λ o lt. are.right o lt ∙ sym (more code instr o ∙ ap (λ (b : Bool). is_target code o || b) (stays o) ∙ or-false (is_target code o));
}

pub AreMarks-more : (marks : List Bool) (count : ℕ) (code : List Instr) (instr : Instr) → AreMarks marks count code → AreMarks (with_mark marks instr) count (code ++ instr ∷ [])
AreMarks-more marks count code (Jmp i) are = set_marks marks count i code (Jmp i) (λ o. refl) are
AreMarks-more marks count code (Jz a i) are = set_marks marks count i code (Jz a i) (λ o. refl) are
AreMarks-more marks count code (Jnz a i) are = set_marks marks count i code (Jnz a i) (λ o. refl) are
AreMarks-more marks count code instr are = same_marks marks count code instr (λ o. refl) are
