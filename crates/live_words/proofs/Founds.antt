-- The events that the kernel's looks have found are those of the queues' entries.
use Rattle.std.proofs.Common.{◌≡◌, inl, inr, ℕ, ◌<◌, cond, Bool, true, false, List, [], ◌∷◌, map, length, refl, sym, ap, ◌∙◌, subst, arith, eq-eqb, Option, Some, None}
use Rattle.std.proofs.lemmas.Bool.{cases_Bool}
use mathlib.Core.Option.{some}
use lib.ListN.{get_elem?}
use Rattle.ink_base.specs.declared.event.Event.{Event}
use Rattle.push_core.specs.Slots.{slot_in}
use Rattle.push_core.specs.declared.slot.Slot.{Slot}
use Rattle.push_core.specs.declared.slot.Slot.TheVariants.{Empty, Full}
use Rattle.priority_sched.specs.Scan.{event_at}
use Rattle.event_queue.specs.declared.view.Call.{Call}
use Rattle.event_queue.specs.declared.view.Call.TheVariants as made
use Rattle.event_queue.specs.declared.view.Lay.{Lay}
use Rattle.event_queue.specs.Events.{Entry, full, holds_event, FitsEntry}
use Rattle.event_queue.specs.Places as set
use Rattle.event_queue.specs.Rule.{IsLay, Kept, Calls, Every, LookKept}
use Rattle.event_queue.proofs.Counts.{entry_fits}
use Rattle.event_queue.proofs.Words.{slot_in-full}
use Rattle.kernel_actor.specs.Accounts.{IsFoundAt, AreFound}
use Rattle.live_account.specs.Matches.{event_of}
use Rattle.live_words.proofs.Lists.{at_map}

-- the word of an entry is read as its event
pub read_entry : (p w : ℕ) (e : Entry) → FitsEntry p e → w ≡ full p e → event_at p (slot_in w) ≡ Some (event_of e)
read_entry p w e fits is =
    ap (λ (x : ℕ). event_at p (slot_in x)) is ∙ (ap (event_at p) (slot_in-full p e fits) ∙ ap (λ (b : Bool). cond b (Some (event_of e)) None) (eq-eqb p p refl))

none_at : (p : ℕ) (o : Option Slot) → holds_event p o ≡ false → event_at p o ≡ None
none_at p None is = refl
none_at p (Some (Empty q)) is = refl
none_at p (Some (Full q i c x)) is = ap (λ (b : Bool). cond b (Some (event_of (record { source = i.0; count = c; reading = 0; value = x }))) None) is

module _ (lay : Lay) (word : set.Place → ℕ) (entries : ℕ → List Entry) (h : Calls) (limits : IsLay lay) (kept : Kept lay word entries h)
    (events : ℕ → List Event) (same : (t : ℕ) → t < length lay.queues → events t ≡ map event_of (entries t)) where
  -- an entry stands among the events as its event
  pub event_there : (t p : ℕ) (e : Entry) → get_elem? (entries t) p ≡ some e → get_elem? (events t) p ≡ some (event_of e)
  event_there t p e at =
      let is = (kept.events t).events p e at in
      let lt : t < length lay.queues = omega (arith, is.queue, limits.queues e.source is.source) in
      ap (λ (l : List Event). get_elem? l p) (same t lt) ∙ at_map event_of (entries t) p e at

  found_at : (t p w : ℕ) → (holds_event p (slot_in w) ≡ true → (e : Entry) × (get_elem? (entries t) p ≡ some e) × (w ≡ full p e)) → IsFoundAt events t p (event_at p (slot_in w))
  found_at t p w look =
      elim (cases_Bool (holds_event p (slot_in w))) [
        | inl there ↦
            let e = look there in
            subst (IsFoundAt events t p) (sym (read_entry p w e.0 (entry_fits t p e.0 limits kept e.1) e.2)) (event_there t p e.0 e.1)
        | inr none ↦ subst (IsFoundAt events t p) (sym (none_at p (slot_in w) none)) tt
      ]

  pub are_found : (released : ℕ → ℕ) (calls : List Call) → Every (LookKept entries released) calls → AreFound events calls
  are_found released [] looks = tt
  are_found released (made.Look t p w ∷ calls) looks = (found_at t p w looks.0.0, are_found released calls looks.1)
  are_found released (call ∷ calls) looks = are_found released calls looks.1
