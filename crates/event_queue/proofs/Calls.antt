-- What a call needs that is one step on one word.
use Rattle.event_queue.proofs.Common.{◌≡◌, ℕ, ◌-◌, ◌<◌, ◌≤◌, cond, Bool, true, List, [], ◌∷◌, length, set, slice_index, refl, sym, ap, ◌∙◌, subst, arith, le_refl, nat_tests, some, get_elem?, State, Act, keeps, Valid, stepped, homes_after, carried_after, Call, AddClock, Role, Kernel, Clock, Source, Lay, Told, View, Becomes, with_source, with_kernel, with_clock, Entry, Place, Tail, Slot, address, has_place, word_at, released_of, sum_of, places_of, sole, Tells, Made, calls_by, Kept, Queues}
use Rattle.ink_base.specs.declared.limits.TheConstants as limits
use Rattle.event_queue.proofs.Basics.{put_here, set_same}
use Rattle.event_queue.proofs.Places.{Becomes-store, address_below}
use Rattle.event_queue.proofs.Roles.{once_step}
use Rattle.event_queue.proofs.Seats.{views_step, source_same, kernel_same, clock_same}
use Rattle.event_queue.proofs.Shows.{ToldKept}

abbrev St : Type 0
St = State ℕ View

pub has_tail : (lay : Lay) (t : ℕ) → t < length lay.queues → has_place lay (Tail t) ≡ true
has_tail lay t lt = grind (arith, nat_tests)

pub has_slot : (lay : Lay) (t n : ℕ) → t < length lay.queues → n < places_of lay t → has_place lay (Slot t n) ≡ true
has_slot lay t n lt less = grind (arith, nat_tests)

-- the word that stands at a place
pub word_there : (lay : Lay) (words : List ℕ) (place : Place) → has_place lay place ≡ true → word_at lay words place ≡ slice_index words (address lay place)
word_there lay words place has = ap (λ (b : Bool). cond b (slice_index words (address lay place)) 0) has

-- what a step gives
abbrev pub Goes : Lay → St → ℕ → ℕ → ℕ → View → (ℕ → Call) → Type 0
Goes key s a id n v call = (w : View) × (act : Act ℕ) × Valid s.homes [] act × Queues key (stepped s a n id [] w act) × Made call (v, []) (slice_index s.words a) (w, carried_after [] act)

module _ {key : Lay} {s : St} (q : Queues key s) (id : ℕ) where
  -- a source's call
  pub source_queues : (i : ℕ) (told : Told) (call : Call) → get_elem? s.views id ≡ some (sole key (Source i) (q.calls.source i) told) → (words : List ℕ) → length words ≡ length s.words
      → (entries : ℕ → List Entry) → ((t : ℕ) → length (q.entries t) ≤ length (entries t)) → Kept key (word_at key words) entries (with_source q.calls i (call ∷ q.calls.source i))
      → Queues key (record { words = words; homes = s.homes; views = set s.views id (sole key (Source i) (call ∷ q.calls.source i) told) })
  source_queues i told call at words wide entries grown kept =
      let k = q.views id _ at in
      record {
        entries = entries;
        calls = with_source q.calls i (call ∷ q.calls.source i);
        seats = q.seats;
        limits = q.limits;
        wide = wide ∙ q.wide;
        roles = λ r is. once_step s.views id _ _ r at refl (q.roles r is);
        kept = kept;
        views = views_step s.views _ (λ j other. record { same = source_same q.seats q.calls i id (call ∷ q.calls.source i) k.parts.0.0 j other; grown = grown; more = λ t. le_refl (released_of t q.calls.kernel); later = le_refl (sum_of q.calls.clock) }) q.views
            record {
              lay_is = refl;
              parts = ((k.parts.0.0, sym (put_here q.calls.source i (call ∷ q.calls.source i))), tt);
              to_make = tt;
              apart = tt;
              told = record { published = λ t. omega (arith, k.told.published t, grown t); released = k.told.released; clock = k.told.clock };
            };
      }

  pub kernel_queues : (told : Told) (call : Call) → get_elem? s.views id ≡ some (sole key Kernel q.calls.kernel told) → (words : List ℕ) → length words ≡ length s.words
      → ((t : ℕ) → released_of t q.calls.kernel ≤ released_of t (call ∷ q.calls.kernel)) → Kept key (word_at key words) q.entries (with_kernel q.calls (call ∷ q.calls.kernel))
      → Queues key (record { words = words; homes = s.homes; views = set s.views id (sole key Kernel (call ∷ q.calls.kernel) told) })
  kernel_queues told call at words wide more kept =
      let k = q.views id _ at in
      record {
        entries = q.entries;
        calls = with_kernel q.calls (call ∷ q.calls.kernel);
        seats = q.seats;
        limits = q.limits;
        wide = wide ∙ q.wide;
        roles = λ r is. once_step s.views id _ _ r at refl (q.roles r is);
        kept = kept;
        views = views_step s.views _ (λ j other. record { same = kernel_same q.seats q.calls id (call ∷ q.calls.kernel) k.parts.0.0 j other; grown = λ t. le_refl (length (q.entries t)); more = more; later = le_refl (sum_of q.calls.clock) }) q.views
            record {
              lay_is = refl;
              parts = ((k.parts.0.0, refl), tt);
              to_make = tt;
              apart = tt;
              told = record { published = k.told.published; released = λ t. omega (arith, k.told.released t, more t); clock = k.told.clock };
            };
      }

  pub clock_queues : (told : Told) (by : ℕ) → get_elem? s.views id ≡ some (sole key Clock q.calls.clock told) → (words : List ℕ) → length words ≡ length s.words
      → Kept key (word_at key words) q.entries (with_clock q.calls (AddClock by ∷ q.calls.clock))
      → Queues key (record { words = words; homes = s.homes; views = set s.views id (sole key Clock (AddClock by ∷ q.calls.clock) told) })
  clock_queues told by at words wide kept =
      let k = q.views id _ at in
      let now : List Call = AddClock by ∷ q.calls.clock in
      record {
        entries = q.entries;
        calls = with_clock q.calls now;
        seats = q.seats;
        limits = q.limits;
        wide = wide ∙ q.wide;
        roles = λ r is. once_step s.views id _ _ r at refl (q.roles r is);
        kept = kept;
        views = views_step s.views _ (λ j other. record { same = clock_same q.seats q.calls id now k.parts.0.0 j other; grown = λ t. le_refl (length (q.entries t)); more = λ t. le_refl (released_of t q.calls.kernel); later = omega arith }) q.views
            record {
              lay_is = refl;
              parts = ((k.parts.0.0, refl), tt);
              to_make = tt;
              apart = tt;
              told = record { published = k.told.published; released = k.told.released; clock = omega (arith, k.told.clock) };
            };
      }

  -- a source's load: what stands there is written again
  pub source_load : (i : ℕ) (told : Told) (place : Place) (call : ℕ → Call) → get_elem? s.views id ≡ some (sole key (Source i) (q.calls.source i) told) → has_place key place ≡ true
      → Tells (sole key (Source i) (q.calls.source i) told) (call (word_at key s.words place))
      → Kept key (word_at key s.words) q.entries (with_source q.calls i (call (word_at key s.words place) ∷ q.calls.source i))
      → Goes key s (address key place) id (slice_index s.words (address key place)) (sole key (Source i) (q.calls.source i) told) call
  source_load i told place call at has tells kept =
      let a : ℕ = address key place in
      let there = word_there key s.words place has in
      let lt : a < length s.words = omega (arith, address_below key place has, q.wide) in
      subst (λ (z : ℕ × List ℕ). (w : View) × (act : Act ℕ) × Valid s.homes [] act × Queues key (record { words = z.1; homes = homes_after s.homes [] act; views = set s.views id w }) × Made call (sole key (Source i) (q.calls.source i) told, []) z.0 (w, carried_after [] act))
      (λ j. (there j, sym (set_same s.words a lt) j))
      (sole key (Source i) (call (word_at key s.words place) ∷ q.calls.source i) told, keeps, tt, source_queues i told (call (word_at key s.words place)) at s.words refl q.entries (λ t. le_refl (length (q.entries t))) kept, (refl, tells))

  -- the facts that a seat was told
  pub told_kept : (r : Role) (calls : List Call) (told : Told) (t : ℕ) → get_elem? s.views id ≡ some (sole key r calls told) → ToldKept q.limits q.kept told t
  told_kept r calls told t at = let k = q.views id _ at in record { published = k.told.published t; released = k.told.released t }

  -- the kernel's load
  pub kernel_load : (told : Told) (place : Place) (call : ℕ → Call) → get_elem? s.views id ≡ some (sole key Kernel q.calls.kernel told) → has_place key place ≡ true
      → Tells (sole key Kernel q.calls.kernel told) (call (word_at key s.words place))
      → ((t : ℕ) → released_of t q.calls.kernel ≤ released_of t (call (word_at key s.words place) ∷ q.calls.kernel))
      → Kept key (word_at key s.words) q.entries (with_kernel q.calls (call (word_at key s.words place) ∷ q.calls.kernel))
      → Goes key s (address key place) id (slice_index s.words (address key place)) (sole key Kernel q.calls.kernel told) call
  kernel_load told place call at has tells more kept =
      let a : ℕ = address key place in
      let there = word_there key s.words place has in
      let lt : a < length s.words = omega (arith, address_below key place has, q.wide) in
      subst (λ (z : ℕ × List ℕ). (w : View) × (act : Act ℕ) × Valid s.homes [] act × Queues key (record { words = z.1; homes = homes_after s.homes [] act; views = set s.views id w }) × Made call (sole key Kernel q.calls.kernel told, []) z.0 (w, carried_after [] act))
      (λ j. (there j, sym (set_same s.words a lt) j))
      (sole key Kernel (call (word_at key s.words place) ∷ q.calls.kernel) told, keeps, tt, kernel_queues told (call (word_at key s.words place)) at s.words refl more kept, (refl, tells))

  -- a write to a place
  pub stored : (place : Place) (value : ℕ) → has_place key place ≡ true → Becomes place value (word_at key s.words) (word_at key (set s.words (address key place) value))
  stored place value has = Becomes-store key s.words place value has (omega (arith, address_below key place has, q.wide))

  -- what is shown of the set's lay and of the calls that the rule knows is so of the seat's own
  pub with_key : {lay : Lay} {r : Role} {calls : List Call} {told : Told} (P : Lay → List Call → Type 0) → get_elem? s.views id ≡ some (sole lay r calls told)
      → (get_elem? s.views id ≡ some (sole key r (calls_by q.calls r) told) → P key (calls_by q.calls r)) → P lay calls
  with_key {lay} {r} {calls} {told} P at go =
      let k = q.views id _ at in
      subst (λ (z : Lay × List Call). get_elem? s.views id ≡ some (sole z.0 r z.1 told) → P z.0 z.1) (sym (λ j. (k.lay_is j, k.parts.0.1 j))) go at
