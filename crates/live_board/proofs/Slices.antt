-- One element more of a slice has changed.
use Rattle.std.proofs.Common.{◌≡◌, inl, inr, ℕ, zero, suc, ◌+◌, ◌<◌, ◌≤◌, List, [], ◌∷◌, length, get_or, set, length-set, get_or-set_same, get_or-set_other, sym, ap, ◌∙◌, subst, arith, refl}
use Rattle.std.specs.Prelude.{slice_index_or}
use Rattle.irq_source.proofs.Basics.{cases_less}
use Rattle.live_board.specs.kept.Slices.{AreChanged}

-- none has changed yet
pub changed_none : {A : Type 0} (R : A → A → Type 0) (l : List A) → AreChanged R 0 l l
changed_none R l = record { size = refl; changed = λ k d known lt. absurd (omega arith); others = λ k d le. refl }

-- inside of a list no default matters
pub same_inside : {A : Type 0} (l : List A) (i : ℕ) (d e : A) → i < length l → slice_index_or l i d ≡ slice_index_or l i e
same_inside [] i d e lt = absurd (omega arith)
same_inside (x ∷ l) zero d e lt = refl
same_inside (x ∷ l) (suc i) d e lt = same_inside l i d e (omega arith)

pub changed_more : {A : Type 0} (R : A → A → Type 0) (i : ℕ) (old mid : List A) (x e : A) → i < length old → AreChanged R i old mid → R (slice_index_or mid i e) x → AreChanged R (i + 1) old (set mid i x)
changed_more R i old mid x e lt was is = record {
  size = length-set mid i x ∙ was.size;
  changed = λ k d known less. elim (cases_less k i less) [
    | inl before ↦ subst (R (slice_index_or old k d)) (sym (get_or-set_other mid i k x d (λ same. absurd (omega (arith, same, before))))) (was.changed k d known before)
    | inr here ↦
        subst (λ j. R (slice_index_or old j d) (slice_index_or (set mid i x) j d)) (sym here)
        (subst (R (slice_index_or old i d)) (sym (get_or-set_same mid i x d (let size = was.size in omega (arith, size, lt))))
        (subst (λ y. R y x) (was.others i e (omega arith) ∙ same_inside old i e d lt) is))
  ];
  others = λ k d le. get_or-set_other mid i k x d (λ same. absurd (omega (arith, same, le))) ∙ was.others k d (omega (arith, le));
}

-- changes one after another
pub changed_then : {A : Type 0} (R Q P : A → A → Type 0) (n : ℕ) (old mid new : List A) → ((x y z : A) → R x y → Q y z → P x z) → length old ≡ n → AreChanged R n old mid → AreChanged Q n mid new → AreChanged P n old new
changed_then R Q P n old mid new both all first second = record {
  size = second.size ∙ first.size;
  changed = λ k d known lt. both (slice_index_or old k d) (slice_index_or mid k d) (slice_index_or new k d) (first.changed k d known lt) (second.changed k d (let size = first.size in omega (arith, size, known)) lt);
  others = λ k d le. second.others k d le ∙ first.others k d le;
}
