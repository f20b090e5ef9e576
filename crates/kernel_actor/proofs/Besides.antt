-- The account goes along with what the kernel imagines.
use Rattle.std.proofs.Common.{◌≡◌, ℕ, suc, ◌+◌, ◌^◌, ◌<◌, ◌≤◌, ◌==◌, ◌&&◌, cond, Bool, true, false, List, [], ◌∷◌, ◌++◌, map, length, get_or, refl, sym, ap, ◌∙◌, subst, arith, eqb-true, eq-eqb, Option, Some, None}
use Rattle.std.proofs.lemmas.Option.{same_Some}
use Rattle.ink_base.specs.declared.event.Event.{Event}
use Rattle.ink_base.specs.declared.event.Origin.{Origin}
use Rattle.ink_base.specs.declared.event.Origin.TheVariants as origins
use Rattle.ink_base.specs.declared.limits.TheConstants as limits
use Rattle.task_isa.specs.declared.program.Program.{Program}
use Rattle.prog_check.specs.Lookup.{source_thread}
use Rattle.push_core.specs.Queue as queues
use Rattle.push_core.specs.Queue.{event_word, event_slot, published}
use Rattle.push_core.specs.Slots.{slot_in}
use Rattle.push_core.proofs.Events.{queued_fits, slot_in-event_word}
use Rattle.ink_layout.specs.Points.{entry_of_point}
use Rattle.ink_layout.specs.declared.kernel_point.KernelPoint.{KernelPoint}
use Rattle.never_cut.specs.declared.model.Model.{Model}
use Rattle.never_cut.specs.declared.thread_model.ThreadModel.{ThreadModel}
use Rattle.never_cut.specs.State.{thread_of, no_thread}
use Rattle.never_cut.specs.Pending.{first_of}
use Rattle.never_cut.specs.Sound.{IsQueued}
use Rattle.never_cut.specs.Journal.{moved, MayNote}
use Rattle.never_cut.specs.kept.Actors.{Follows, without_held}
use Rattle.priority_sched.specs.Scan.{event_at}
use Rattle.kernel_account.specs.Account.{open_account, account_after, IsAccount}
use Rattle.kernel_account.specs.Follows.{kernels_part, IsBeside, AreSeen, entry_at, AccountMay, account_moved}
use Rattle.kernel_account.specs.declared.entry.KernelEntry.{KernelEntry}
use Rattle.kernel_account.proofs.Besides.{every_entry_follows}
use Rattle.kernel_account.proofs.Growing.{every_charge_grows}
use Rattle.kernel_core.specs.declared.kernel.Kernel.{Kernel}
use Rattle.event_queue.specs.declared.view.Call.{Call}
use Rattle.event_queue.specs.declared.view.Call.TheVariants as made
use Rattle.event_queue.specs.Calls.{released_of, seen_of}
use Rattle.event_queue.specs.Events.{holds_event}
use Rattle.kernel_actor.specs.Accounts.{IsFoundAt, AreFound, noted}
use Rattle.kernel_actor.specs.Held.{IsHeld}
use Rattle.kernel_actor.specs.kept.Imagines.{Imagines}
use Rattle.kernel_actor.specs.kept.Standing.{Accounts}

-- threads that differ in held events alone
same_threads : (xs ys : List ThreadModel) → length ys ≡ length xs → ((t : ℕ) → without_held (get_or ys t no_thread) ≡ without_held (get_or xs t no_thread)) → map without_held ys ≡ map without_held xs
same_threads [] [] count h = refl
same_threads [] (y ∷ ys) count h = absurd (omega arith)
same_threads (x ∷ xs) [] count h = absurd (omega arith)
same_threads (x ∷ xs) (y ∷ ys) count h = λ j. h 0 j ∷ same_threads xs ys (omega arith) (λ t. h (suc t)) j

-- what the others do leaves the account beside the state
pub beside_follows : (program : Program) (events : ℕ → List Event) (account m next : Model) → Follows m next → IsBeside program events account m → IsBeside program events account next
beside_follows program events account m next f b =
    let threads = same_threads m.threads next.threads f.count f.threads in
    let part : kernels_part m ≡ kernels_part next =
    λ j. record {
      threads = sym threads j;
      pipes = sym f.pipes j;
      timers = sym f.timers j;
      sources = [];
      clock = 0;
      outputs = sym f.outputs j;
      commits = sym f.commits j;
      scan = sym f.scan j;
    } in
    record {
      same = b.same ∙ part;
      held = λ t lt. b.held t lt ∙ ap (λ (x : ThreadModel). Rattle.std.specs.Prelude.drop x.released (events t)) (sym (f.threads t));
      clock = omega (arith, b.clock, f.clock);
    }

-- the event that was seen next was found at its position
seen_found : (events : ℕ → List Event) (calls : List Call) (t w : ℕ) → AreFound events calls → seen_of t calls ≡ Some w → IsFoundAt events t (released_of t calls) (event_at (released_of t calls) (slot_in w))
seen_found events [] t w found seen = absurd (let clash : None ≡ Some w = seen in cc)
seen_found events (made.Look u p x ∷ calls) t w found seen = by_test (λ is. seen_found events calls t w found.1 is) (u == t) (p == released_of t calls) (holds_event p (slot_in x)) refl refl seen
  where
    by_test : (seen_of t calls ≡ Some w → IsFoundAt events t (released_of t calls) (event_at (released_of t calls) (slot_in w))) → (a b c : Bool) → (u == t) ≡ a → (p == released_of t calls) ≡ b →
        cond (a && b && c) (Some x) (seen_of t calls) ≡ Some w → IsFoundAt events t (released_of t calls) (event_at (released_of t calls) (slot_in w))
    by_test before true true true same next is =
        subst (λ (z : ℕ × ℕ × ℕ). IsFoundAt events z.0 z.1 (event_at z.1 (slot_in z.2))) (λ j. (eqb-true u t same j, eqb-true p (released_of t calls) next j, same_Some x w is j)) found.0
    by_test before true true false same next is = before is
    by_test before true false c same next is = before is
    by_test before false b c same next is = before is
seen_found events (made.Release u p ∷ calls) t w found seen = by_test (λ is. seen_found events calls t w found is) (u == t) seen
  where
    by_test : (seen_of t calls ≡ Some w → IsFoundAt events t (released_of t calls) (event_at (released_of t calls) (slot_in w))) → (b : Bool) → cond b None (seen_of t calls) ≡ Some w →
        IsFoundAt events t (cond b (released_of t calls + 1) (released_of t calls)) (event_at (cond b (released_of t calls + 1) (released_of t calls)) (slot_in w))
    by_test before true is = absurd (let clash : None ≡ Some w = is in cc)
    by_test before false is = before is
seen_found events (_ ∷ calls) t w found seen = seen_found events calls t w found seen

-- the word of an event of a queue is read as that event
word_event : (program : Program) (t r : ℕ) (e : Event) → IsQueued program t e → length program.sources ≤ limits.SOURCES → r < 2 ^ 21 → event_at r (slot_in (event_word r e)) ≡ Some e
word_event program t r e queued few small =
    ap (event_at r) (slot_in-event_word r e (queued_fits (length program.sources) (source_thread program) t r e few small queued)) ∙ by_origin e.origin e.value queued
  where
    by_origin : (o : Origin) (value : ℕ) → IsQueued program t (record { origin = o; value = value }) → event_at r (Some (event_slot r (record { origin = o; value = value }))) ≡ Some (record { origin = o; value = value })
    by_origin (origins.Source source count) value h = ap (λ (b : Bool). cond b (Some (record { origin = origins.Source source count; value = value })) None) (eq-eqb r r refl)
    by_origin (origins.Pipe pipe item) value h = absurd h
    by_origin (origins.Timer timer deadline) value h = absurd h

-- what the imagined queues hold stands in the events at its position
pub are_seen : {program : Program} {fram : List ℕ} {calls : List Call} {kernel : Kernel} {left : ℕ} {m : Model} (h : Imagines program fram calls kernel left m) (events : ℕ → List Event) → AreFound events calls → AreSeen program events m
are_seen {program} {calls = calls} {m = m} h events found t lt e first = by_seen (seen_of t calls) refl (h.held t lt)
  where
    by_seen : (o : Option ℕ) → seen_of t calls ≡ o → IsHeld o (released_of t calls) (thread_of m t).held →
        lib.ListN.get_elem? (events t) (thread_of m t).released ≡ mathlib.Core.Option.some e
    by_seen None seen none = absurd (let clash : None ≡ Some e = sym (ap first_of none) ∙ first in cc)
    by_seen (Some w) seen (x, one, word) =
        let same : x ≡ e = same_Some x e (sym (ap first_of one) ∙ first) in
        let some_held : 0 < length (thread_of m t).held = subst (λ (l : List Event). 0 < length l) (sym one) (omega arith) in
        let queued = subst (λ (l : List Event). IsQueued program t (queues.event_at l 0)) one ((h.background.sound.threads t lt).queued 0 some_held) in
        let small = h.background.shared.small t lt in
        let at = h.released t lt in
        let read : event_at (released_of t calls) (slot_in w) ≡ Some x =
        ap (λ z. event_at (released_of t calls) (slot_in z)) word ∙ word_event program t (released_of t calls) x queued h.background.accepted.counts.sources (omega arith) in
        ap (lib.ListN.get_elem? (events t)) at ∙ subst (IsFoundAt events t (released_of t calls)) (read ∙ ap Some same) (seen_found events calls t w found seen)

-- the account keeps beside what the kernel makes of the imagined state
pub accounts_step : {program : Program} {fram : List ℕ} {calls : List Call} {kernel : Kernel} {left : ℕ} {m : Model} (h : Imagines program fram calls kernel left m) (done : List (List KernelEntry)) (entries : List KernelEntry) (point : KernelPoint) →
    Accounts program calls (done ++ entries ∷ []) m → MayNote program h.readings m (entry_of_point point) →
    Accounts program calls (done ++ noted entries (entry_at m point) ∷ []) (moved program h.readings m (entry_of_point point))
accounts_step {program} {calls = calls} {m = m} h done entries point accounts may events found =
    let old = accounts events found in
    let step = every_entry_follows program h.readings events (account_after program (open_account program events) (done ++ entries ∷ [])) m point h.background.sound (are_seen h events found) old.1 may in
    by_entry (entry_at m point) step.0 step.1
  where
    next : Model
    next = moved program h.readings m (entry_of_point point)

    by_entry : (o : Option KernelEntry) → AccountMay program (account_after program (open_account program events) (done ++ entries ∷ [])) o →
        IsBeside program events (account_moved program (account_after program (open_account program events) (done ++ entries ∷ [])) o) (moved program h.readings m (entry_of_point point)) →
        IsAccount program (open_account program events) (done ++ noted entries o ∷ [])
        × IsBeside program events (account_after program (open_account program events) (done ++ noted entries o ∷ [])) (moved program h.readings m (entry_of_point point))
    by_entry None legal beside = ((accounts events found).0, beside)
    by_entry (Some e) legal beside =
        let grows = every_charge_grows program (open_account program events) done entries e (accounts events found).0 legal in
        (grows.legal, subst (λ (z : Model). IsBeside program events z (moved program h.readings m (entry_of_point point))) (sym grows.after) beside)
