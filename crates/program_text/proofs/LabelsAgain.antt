-- The labels of the canonical text are found at their offsets.
use Rattle.program_text.proofs.Common.{◌≡◌, ℕ, zero, suc, ◌<◌, ◌≤◌, true, false, cond, List, [], ◌∷◌, drop, Some, None, Option, refl, sym, ap, ◌∙◌, inl, inr, arith, bytes_eq, cases_Bool, cases_eq, decimal_injective, Word, Instr, offset_of, with_label, is_target, differ}
use Rattle.task_lines.proofs.LabelMap.{lookup_last, option_or_none}
use Rattle.program_text.proofs.Spelled.{label_name}
use Rattle.program_text.proofs.NamesAgain.{same}
use Rattle.ink_base.specs.declared.limits.TheConstants as limits

-- a label is found where it was put, and another one as before
offset_same : (labels : List (Word × ℕ)) (k : Word) (v : ℕ) → offset_of labels k ≡ None → offset_of (with_label labels k v) k ≡ Some v
offset_same labels k v free = lookup_last labels k k v ∙ rw (free, same k) refl

offset_other : (labels : List (Word × ℕ)) (q k : Word) (v : ℕ) → bytes_eq q k ≡ false → offset_of (with_label labels k v) q ≡ offset_of labels q
offset_other labels q k v ne = lookup_last labels k q v ∙ rw ne (option_or_none (offset_of labels q))

pub labels_differ : (o n : ℕ) → o < limits.INSTRUCTIONS → n < limits.INSTRUCTIONS → (o ≡ n → ⊥) → bytes_eq (label_name o) (label_name n) ≡ false
labels_differ o n lt small ne =
    differ (label_name o) (label_name n) (λ e. ne (decimal_injective o n (omega arith) (omega arith) (ap (λ (w : Word). drop 1 w) e)))

-- the labels of the first n offsets
abbrev pub labels_below : List Instr → ℕ → List (Word × ℕ)
labels_below code zero = []
labels_below code (suc n) = cond (is_target code n) (with_label (labels_below code n) (label_name n) n) (labels_below code n)

-- no label of a later offset is among them
pub label_none : (code : List Instr) (n o : ℕ) → n ≤ o → o < limits.INSTRUCTIONS → offset_of (labels_below code n) (label_name o) ≡ None
label_none code zero o le lt = refl
label_none code (suc n) o le lt = elim (cases_Bool (is_target code n)) [
  | inl needed ↦ rw needed (offset_other (labels_below code n) (label_name o) (label_name n) n (labels_differ o n lt (omega arith) (λ e. absurd (omega arith))) ∙ label_none code n o (omega arith) lt)
  | inr not ↦ rw not (label_none code n o (omega arith) lt)
]

at_last : (code : List Instr) (n : ℕ) → n < limits.INSTRUCTIONS → is_target code n ≡ true → offset_of (labels_below code (suc n)) (label_name n) ≡ Some n
at_last code n small needed = rw needed (offset_same (labels_below code n) (label_name n) n (label_none code n n (omega arith) small))

-- the label of an offset to which a jump goes is found
pub label_found : (code : List Instr) (n o : ℕ) → o < n → n < 4097 → is_target code o ≡ true → offset_of (labels_below code n) (label_name o) ≡ Some o
label_found code zero o lt small needed = absurd (omega arith)
label_found code (suc n) o lt small needed = elim (cases_eq o n) [
  | inl last ↦ rw last (at_last code n (omega arith) (ap (is_target code) (sym last) ∙ needed))
  | inr other ↦
      let less : o < n = omega (arith, other) in
      elim (cases_Bool (is_target code n)) [
        | inl marked ↦ rw marked (offset_other (labels_below code n) (label_name o) (label_name n) n (labels_differ o n (omega arith) (omega arith) other) ∙ label_found code n o less (omega arith) needed)
        | inr plain ↦ rw plain (label_found code n o less (omega arith) needed)
      ]
]
