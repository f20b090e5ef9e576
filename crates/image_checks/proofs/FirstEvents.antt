-- The first event that a queue holds, and whether it is finished.
use Rattle.std.proofs.Common.{◌≡◌, ℕ, ◌↔◌, IsTrue, Bool, true, List, [], ◌∷◌, slice_get, Option, refl, sym, ap, ◌∙◌, subst}
use Rattle.ink_base.specs.declared.event.Event.{Event}
use Rattle.ink_base.specs.declared.event.Origin.{Origin}
use Rattle.ink_base.specs.declared.event.Origin.TheVariants as origins
use Rattle.push_core.specs.Queue.{Queue, IsFinishing, event_at}
use Rattle.image_checks.specs.kept.Sources.{HasOrigin}

-- a test of its origin tells whether an event of the source with this count is finishing
pub finishing : (i count : ℕ) (q : Queue) (found : Option Event) {r : Bool} → found ≡ slice_get q.held 0 → q.finished ≡ true →
    (IsTrue r ↔ HasOrigin (origins.Source (record { 0 = i }) count) found) → (IsTrue r ↔ IsFinishing i count q)
finishing i count q found {r} at finished test = of_first q.held refl (subst (λ x. IsTrue r ↔ HasOrigin (origins.Source (record { 0 = i }) count) x) at test)
  where
    of_first : (events : List Event) → q.held ≡ events → (IsTrue r ↔ HasOrigin (origins.Source (record { 0 = i }) count) (slice_get events 0)) → (IsTrue r ↔ IsFinishing i count q)
    of_first [] held t = (
      λ yes. absurd (t.0 yes),
      λ is. absurd (let clash : [] ≡ record { origin = origins.Source (record { 0 = i }) count; value = is.value } ∷ is.first.0 = sym held ∙ is.first.1 in cc),
    )
    of_first (e ∷ rest) held t = (
      λ yes. record {
        value = e.value;
        first = (rest, held ∙ ap (λ (o : Origin). record { origin = o; value = e.value } ∷ rest) (t.0 yes));
        finished = finished;
      },
      λ is. t.1 (ap (λ (events : List Event). (event_at events 0).origin) (sym held ∙ is.first.1)),
    )
