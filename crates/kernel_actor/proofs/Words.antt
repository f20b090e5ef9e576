-- The word that a look found is told by its answer.
use Rattle.std.proofs.Common.{◌≡◌, ◌⊎◌, inl, inr, ℕ, ◌%◌, ◌==◌, cond, Bool, true, false, refl, sym, ap, ◌∙◌, subst, arith, eqb-true}
use Rattle.std.specs.Prelude.{slice_index, if◌then◌else◌}
use Rattle.push_core.specs.Slots.{slot_in, empty_word}
use Rattle.event_queue.specs.Answers.{IsLook, ShowsEvent, ShowsEmpty}
use Rattle.event_queue.specs.Calls.{released_of}
use Rattle.event_queue.specs.Events.{Entry, full, source_id}
use Rattle.event_queue.specs.Looks.{seen_in, seen_by, served_event}
use Rattle.event_queue.specs.Views.{calls_of, places_of}
use Rattle.event_queue.specs.declared.kernel_calls.Seen.TheVariants as seen
use Rattle.event_queue.specs.declared.view.View.{View}
use Rattle.event_queue.proofs.Words.{slot_in-full}
use Rattle.push_core.proofs.Slots.{slot_in-empty}
use Rattle.kernel_actor.specs.Looks.{word_seen, CanTell}

-- the answer can be told, and its word is the one that was found
pub record TellsWord (p w : ℕ) : Type 0 where
  pub can_tell : CanTell p (seen_in p w)
  pub same : word_seen p (seen_in p w) ≡ w

pub tells_word : (v : View) (t p w : ℕ) → IsLook v t p w → TellsWord p w
tells_word v t p w look = by_shown look.shown
  where
    by_shown : ((q : ℕ) × (e : Entry) × ShowsEvent v.lay t (p % places_of v.lay t) (released_of t (calls_of v)) w q e)
        ⊎ ((q : ℕ) × ShowsEmpty v.lay t (p % places_of v.lay t) (released_of t (calls_of v)) (slice_index v.told.published t) w q) → TellsWord p w
    by_shown (inl (q, e, s)) = by_position (q == p) refl
      where
        read : seen_in p w ≡ (if q == p then seen.Full (served_event (source_id e.source) e.count e.value) else seen.Later w)
        read = ap (seen_by p w) (ap slot_in s.word ∙ slot_in-full q e s.fits)

        by_position : (b : Bool) → (q == p) ≡ b → TellsWord p w
        by_position true same =
            let is : seen_in p w ≡ seen.Full (served_event (source_id e.source) e.count e.value) = read ∙ ap (λ (b : Bool). cond b (seen.Full (served_event (source_id e.source) e.count e.value)) (seen.Later w)) same in
            let at : q ≡ p = eqb-true q p same in
            record {
              can_tell = subst (CanTell p) (sym is) (
                record { position_fits = omega (arith, s.fits.position_fits, at); source_fits = s.fits.source_fits; count_fits = s.fits.count_fits },
                s.fits.value_fits,
              );
              same = ap (word_seen p) is ∙ ap (λ (n : ℕ). full n e) (sym at) ∙ sym s.word;
            }
        by_position false other =
            let is : seen_in p w ≡ seen.Later w = read ∙ ap (λ (b : Bool). cond b (seen.Full (served_event (source_id e.source) e.count e.value)) (seen.Later w)) other in
            record { can_tell = subst (CanTell p) (sym is) tt; same = ap (word_seen p) is }
    by_shown (inr (q, s)) = by_position (q == p) refl
      where
        read : seen_in p w ≡ (if q == p then seen.Empty else seen.Later w)
        read = ap (seen_by p w) (ap slot_in s.word ∙ slot_in-empty q (omega (arith, s.range)))

        by_position : (b : Bool) → (q == p) ≡ b → TellsWord p w
        by_position true same =
            let is : seen_in p w ≡ seen.Empty = read ∙ ap (λ (b : Bool). cond b seen.Empty (seen.Later w)) same in
            let at : q ≡ p = eqb-true q p same in
            record { can_tell = subst (CanTell p) (sym is) (omega (arith, s.range, at)); same = ap (word_seen p) is ∙ ap empty_word (sym at) ∙ sym s.word }
        by_position false other =
            let is : seen_in p w ≡ seen.Later w = read ∙ ap (λ (b : Bool). cond b seen.Empty (seen.Later w)) other in
            record { can_tell = subst (CanTell p) (sym is) tt; same = ap (word_seen p) is }
