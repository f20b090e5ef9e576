-- Values with no float.
use Rattle.ink_report.proofs.Common.{◌≡◌, false, List, [], ◌∷◌, Option, Some, None, map, refl, Data, items_of, has_float, items_have_float, Summary, source_data, thread_data, summary_data}
use Rattle.ink_report.specs.declared.charge_bounds.ChargeBounds.{ChargeBounds}

items_have_no_float : {X : Type 0} (part : X → Data) → ((x : X) → has_float (part x) ≡ false) → (xs : List X) → items_have_float (items_of (map part xs)) ≡ false
items_have_no_float part none [] = refl
items_have_no_float part none (x ∷ xs) = rw (none x) (items_have_no_float part none xs)

pub summary_has_no_float : (bounds : Option ChargeBounds) (s : Summary) → has_float (summary_data bounds s) ≡ false
summary_has_no_float None s = rw (items_have_no_float source_data (λ x. refl) s.sources, items_have_no_float thread_data (λ x. refl) s.threads) refl
summary_has_no_float (Some b) s = rw (items_have_no_float source_data (λ x. refl) s.sources, items_have_no_float thread_data (λ x. refl) s.threads) refl
