-- The lists only grow.
use Rattle.irq_source.proofs.Common.{◌≡◌, ◌⊎◌, inl, inr, ℕ, ◌+◌, ◌≤◌, List, ◌++◌, refl, sym, ap, ◌∙◌, subst, arith, append-nil, some, get_elem?, snoc_cases, Point, accepts, declines}
use Rattle.push_core.specs.declared.point.Point.TheVariants as points
use Rattle.irq_source.specs.declared.lists.Published.{Published}
use Rattle.irq_source.specs.declared.lists.Declined.{Declined}
use Rattle.irq_source.specs.Rows.{Place, Grows}
use Rattle.irq_source.proofs.Basics.{at_longer}

-- each published reading that is added names the charge
accepts_dated : (charge p k value : ℕ) (accepted : List Published) (point : Point) (n : ℕ) (x : Published) → get_elem? (accepted ++ accepts charge p k value point) n ≡ some x → (get_elem? accepted n ≡ some x) ⊎ (x.charge ≡ charge)
accepts_dated charge p k value accepted points.Pushed n x at = elim (snoc_cases accepted _ n x at) [ inl before ↦ inl before.1 | inr last ↦ inr (sym (ap (λ (z : Published). z.charge) last.1)) ]
accepts_dated charge p k value accepted points.Nothing n x at = inl (ap (λ (xs : List Published). get_elem? xs n) (sym (append-nil accepted)) ∙ at)
accepts_dated charge p k value accepted points.Refused n x at = inl (ap (λ (xs : List Published). get_elem? xs n) (sym (append-nil accepted)) ∙ at)
accepts_dated charge p k value accepted points.Skipped n x at = inl (ap (λ (xs : List Published). get_elem? xs n) (sym (append-nil accepted)) ∙ at)

-- so does each refused one, and its position lies a turn above one that was not known to be released
declines_dated : (places gone charge p k : ℕ) (refused : List Declined) (point : Point) → (point ≡ points.Refused → gone + places ≤ p) → (n : ℕ) (d : Declined) → get_elem? (refused ++ declines charge p k point) n ≡ some d
    → (get_elem? refused n ≡ some d) ⊎ ((d.charge ≡ charge) × (gone + places ≤ d.position))
declines_dated places gone charge p k refused points.Refused turn n d at = elim (snoc_cases refused _ n d at) [ inl before ↦ inl before.1 | inr last ↦ inr (subst (λ (z : Declined). (z.charge ≡ charge) × (gone + places ≤ z.position)) last.1 (refl, turn refl)) ]
declines_dated places gone charge p k refused points.Nothing turn n d at = inl (ap (λ (ds : List Declined). get_elem? ds n) (sym (append-nil refused)) ∙ at)
declines_dated places gone charge p k refused points.Pushed turn n d at = inl (ap (λ (ds : List Declined). get_elem? ds n) (sym (append-nil refused)) ∙ at)
declines_dated places gone charge p k refused points.Skipped turn n d at = inl (ap (λ (ds : List Declined). get_elem? ds n) (sym (append-nil refused)) ∙ at)

-- one access
pub grows_one : (places gone charge p k value : ℕ) (old new : Place) (point : Point) → (point ≡ points.Refused → gone + places ≤ p) → new.accepted ≡ old.accepted ++ accepts charge p k value point → new.refused ≡ old.refused ++ declines charge p k point
    → Grows places gone charge old new
grows_one places gone charge p k value old new point turn accepted refused = record {
  accepted_kept = λ n x at. ap (λ (xs : List Published). get_elem? xs n) accepted ∙ at_longer old.accepted _ n x at;
  refused_kept = λ n d at. ap (λ (ds : List Declined). get_elem? ds n) refused ∙ at_longer old.refused _ n d at;
  accepted = λ n x at. accepts_dated charge p k value old.accepted point n x (ap (λ (xs : List Published). get_elem? xs n) (sym accepted) ∙ at);
  refused = λ n d at. declines_dated places gone charge p k old.refused point turn n d (ap (λ (ds : List Declined). get_elem? ds n) (sym refused) ∙ at);
}

-- none
pub grows_none : (places gone charge : ℕ) (p : Place) → Grows places gone charge p p
grows_none places gone charge p = record { accepted_kept = λ n x at. at; refused_kept = λ n d at. at; accepted = λ n x at. inl at; refused = λ n d at. inl at }

-- one after the other
pub grows_then : (places gone gone' charge : ℕ) (a b c : Place) → gone ≤ gone' → Grows places gone charge a b → Grows places gone' charge b c → Grows places gone charge a c
grows_then places gone gone' charge a b c le first second = record {
  accepted_kept = λ n x at. second.accepted_kept n x (first.accepted_kept n x at);
  refused_kept = λ n d at. second.refused_kept n d (first.refused_kept n d at);
  accepted = λ n x at. elim (second.accepted n x at) [ inl before ↦ first.accepted n x before | inr new ↦ inr new ];
  refused = λ n d at. elim (second.refused n d at) [ inl before ↦ first.refused n d before | inr new ↦ inr (new.0, omega (arith, new.1, le)) ];
}
