-- A store changes the place that it names, and no other.
use Rattle.std.proofs.Common.{◌≡◌, ◌≢◌, ℕ, true, arith, refl, inl, inr}
use Rattle.std.proofs.lemmas.Bool.{eqb-true, and_parts, cases_Bool}
use Rattle.fram_words.specs.Places.{Place, Code, Commit, Page, Log, Ring, Tail, Slot, Ack, Clock, Src, same_place, Memory, store}

pub same_place-true : (p q : Place) → same_place p q ≡ true → p ≡ q
same_place-true (Code x n) (Code y k) e = grind (arith, eqb-true, and_parts)
same_place-true (Commit t) (Commit u) e = grind (arith, eqb-true, and_parts)
same_place-true (Page t p b n) (Page u q c k) e = grind (arith, eqb-true, and_parts)
same_place-true (Log t n) (Log u k) e = grind (arith, eqb-true, and_parts)
same_place-true (Ring q n) (Ring r k) e = grind (arith, eqb-true, and_parts)
same_place-true (Tail t) (Tail u) e = grind (arith, eqb-true, and_parts)
same_place-true (Slot t n) (Slot u k) e = grind (arith, eqb-true, and_parts)
same_place-true (Ack i) (Ack j) e = grind (arith, eqb-true, and_parts)
same_place-true Clock Clock e = refl
same_place-true (Src i) (Src j) e = grind (arith, eqb-true, and_parts)
same_place-true _ _ e = cc

pub same_place-refl : (p : Place) → same_place p p ≡ true
same_place-refl Clock = refl
same_place-refl _ = grind arith

pub store-same : (m : Memory) (p : Place) (v : ℕ) → store m p v p ≡ v
store-same m p v = rw (same_place-refl p)

pub store-other : (m : Memory) (p q : Place) (v : ℕ) → p ≢ q → store m p v q ≡ m q
store-other m p q v ne =
    elim (cases_Bool (same_place p q)) [ inl e ↦ absurd (ne (same_place-true p q e)) | inr e ↦ rw e ]
