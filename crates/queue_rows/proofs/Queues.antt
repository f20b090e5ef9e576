-- A board with one queue.
use Rattle.queue_rows.proofs.Common.{◌≡◌, ℕ, zero, suc, ◌+◌, ◌<◌, ◌≤◌, List, [], ◌∷◌, ◌++◌, map, length, length-append, get_or, take, drop, slice_index, refl, sym, ap, ◌∙◌, subst, arith, All, QueueSet, SourceSeat, KernelSeat, released_of, places_of, queue_of, lay_of, view, kernel_view, ring_of, IsOfShape, AreNewSources, IsNewKernel, firsts, IsOneQueue, IsNew, IsAt}
use Rattle.ink_base.specs.declared.limits.TheConstants as limits
use mathlib.Core.Option.{some}
use lib.ListN.{get_elem?}
use Rattle.std.proofs.lemmas.List.{length-map, map-append}
use Rattle.ink_base.specs.declared.ids.ThreadId.{ThreadId}
use Rattle.event_queue.specs.declared.view.Shape.{Shape}
use Rattle.event_queue.specs.declared.view.Lay.{Lay}
use Rattle.event_queue.specs.Rule.{IsLay}
use Rattle.event_queue.proofs.Basics.{at_get, same_element}
use Rattle.atomic_table.proofs.Lists.{at_last}

zeros : (n i : ℕ) → slice_index (map (λ (x : ThreadId). x.0) (firsts n)) i ≡ 0
zeros zero i = refl
zeros (suc n) i = ap (λ (xs : List ℕ). slice_index xs i) (map-append (λ (x : ThreadId). x.0) (firsts n) (record { 0 = 0 } ∷ [])) ∙ at_end (map (λ (x : ThreadId). x.0) (firsts n)) i (zeros n i)
  where
    at_end : (xs : List ℕ) (i : ℕ) → slice_index xs i ≡ 0 → slice_index (xs ++ 0 ∷ []) i ≡ 0
    at_end [] zero h = refl
    at_end [] (suc i) h = refl
    at_end (x ∷ xs) zero h = h
    at_end (x ∷ xs) (suc i) h = at_end xs i h

length-firsts : (n : ℕ) → length (firsts n) ≡ n
length-firsts zero = refl
length-firsts (suc n) = omega (arith, length-firsts n, length-append (firsts n) (record { 0 = 0 } ∷ []))

pub one_queue_is : (queues : List ℕ) (threads : List ThreadId) (places n : ℕ) → queues ≡ places ∷ [] → threads ≡ firsts n → IsOneQueue (record { queues = queues; sources = map (λ (t : ThreadId). t.0) threads }) places n
one_queue_is queues threads places n a b = record {
  queues = a;
  number = length-map threads (λ (t : ThreadId). t.0) ∙ ap length b ∙ length-firsts n;
  same = λ i. ap (λ (xs : List ThreadId). slice_index (map (λ (t : ThreadId). t.0) xs) i) b ∙ zeros n i;
}

module _ {lay : Lay} {places n : ℕ} (one : IsOneQueue lay places n) where
  pub one_limits : 0 < places → places ≤ limits.QUEUE_PLACES → n ≤ limits.SOURCES → IsLay lay
  one_limits low high few = record {
    threads = omega (arith, ap length one.queues);
    sources = omega (arith, one.number);
    some = λ t lt. let here : t ≡ 0 = omega (arith, ap length one.queues) in omega (arith, ap (places_of lay) here, ap (λ (xs : List ℕ). slice_index xs 0) one.queues);
    no_more = λ t. subst (λ (xs : List ℕ). slice_index xs t ≤ limits.QUEUE_PLACES) (sym one.queues) (at_most t);
    queues = λ i lt. omega (arith, one.same i, ap length one.queues);
  }
    where
      at_most : (t : ℕ) → slice_index (places ∷ []) t ≤ limits.QUEUE_PLACES
      at_most zero = high
      at_most (suc t) = omega arith

  ring_is : (s : SourceSeat) → (view s).lay ≡ lay → ring_of s ≡ places
  ring_is s same = ap (λ (z : Lay). places_of z (queue_of z s.source.0)) same ∙ ap (places_of lay) (one.same s.source.0) ∙ ap (λ (xs : List ℕ). slice_index xs 0) one.queues

pub opened_sources : (set : QueueSet) (shape : Shape) (places n : ℕ) (seats : List SourceSeat) → IsOfShape set shape → IsOneQueue (lay_of shape) places n → AreNewSources set seats → All (IsNew set places) seats
opened_sources set shape places n seats same one new k d lt =
    let s : SourceSeat = get_or seats k d in
    let h = new k s (at_get seats k d lt) in
    (h.of, ring_is one s (h.of.1 ∙ ap lay_of same), h.calls, ap (λ (z : Lay). queue_of z s.source.0) (h.of.1 ∙ ap lay_of same) ∙ one.same s.source.0)

pub opened_kernel : (set : QueueSet) (shape : Shape) (places n : ℕ) (k : KernelSeat) → IsOfShape set shape → IsOneQueue (lay_of shape) places n → IsNewKernel set k → IsAt set 0 k
opened_kernel set shape places n k same one h =
    let some : 0 < length (kernel_view k).lay.queues = omega (arith, ap (λ (z : Lay). length z.queues) (h.of.1 ∙ ap lay_of same), ap length one.queues) in
    (h.of, some, ap (released_of 0) h.calls)

-- what is written through a whole slice is all that the list has
written_back : {A : Type 0} (n : ℕ) (new old : List A) → n ≡ length new → length new ≡ length old → take n (new ++ drop (length new) old) ≡ new
written_back n [] [] e same = ap (λ (k : ℕ). take k []) e
written_back n [] (y ∷ ys) e same = absurd (omega arith)
written_back n (x ∷ xs) [] e same = absurd (omega arith)
written_back n (x ∷ xs) (y ∷ ys) e same = ap (λ (k : ℕ). take k (x ∷ (xs ++ drop (length xs) ys))) e ∙ ap (λ (zs : List _). x ∷ zs) (written_back (length xs) xs ys refl (omega arith))

pub all_back : {A : Type 0} (P : A → Type 0) (n : ℕ) (new old : List A) → n ≡ length new → length new ≡ length old → All P new → All P (take n (new ++ drop (length new) old))
all_back P n new old e same all = subst (All P) (sym (written_back n new old e same)) all

-- the last of the seats
pub new_last : (set : QueueSet) (places : ℕ) (seats rest : List SourceSeat) (s : SourceSeat) → All (IsNew set places) seats → seats ≡ rest ++ s ∷ [] → IsNew set places s
new_last set places seats rest s all is =
    let longer : length seats ≡ length rest + 1 = ap length is ∙ length-append rest (s ∷ []) in
    let here : get_elem? seats (length rest) ≡ some s = ap (λ (xs : List SourceSeat). get_elem? xs (length rest)) is ∙ at_last rest s (length rest) refl in
    let lt : length rest < length seats = omega (arith, longer) in
    subst (IsNew set places) (same_element seats (length rest) _ s (at_get seats (length rest) s lt) here) (all (length rest) s lt)
