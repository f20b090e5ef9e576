-- What actors know of each other when a charge begins.
use Rattle.std.proofs.Common.{◌≡◌, inl, inr, true, [], ◌∷◌, ◌++◌, ℕ, ◌+◌, ◌<◌, ◌≤◌, max, List, length, refl, sym, ap, ◌∙◌, subst, arith}
use Rattle.std.specs.Prelude.{slice_index, slice_index_or}
use Rattle.event_queue.proofs.Joins.{greater_left, greater_right, tabulated_at, raised_at}
use Rattle.event_queue.specs.declared.seat.Note.{Note}
use Rattle.event_queue.specs.declared.seat.SourceSeat.{SourceSeat}
use Rattle.event_queue.specs.declared.seat.KernelSeat.{KernelSeat}
use Rattle.event_queue.specs.declared.set.QueueSet.{QueueSet}
use Rattle.event_queue.specs.declared.view.Call.{Call}
use Rattle.event_queue.specs.declared.view.Told.{Told}
use Rattle.event_queue.specs.declared.view.Lay.{Lay}
use Rattle.event_queue.specs.declared.view.View.{View}
use Rattle.event_queue.specs.Calls.{mine_of, next_of, published_of, released_of, released_by_of, sum_of}
use Rattle.event_queue.specs.Seats.{view, kernel_view, told_of, lay_in, IsSeatOf, IsKernelSeatOf, IsSameSeat, IsSameKernelSeat, HearsAsSource, HearsAsKernel, Noted}
use Rattle.event_queue.specs.Views.{calls_of, queue_of, places_of, known_of, source_told, kernel_told, clock_told, greater, tabulated}
use Rattle.irq_source.specs.Acting.{Acting, IsSame, knows, rebooted}
use Rattle.irq_source.specs.Rows.{Place}
use Rattle.kernel_actor.specs.Acting as kernel
use Rattle.kernel_actor.specs.Rows as kernel_rows
use Rattle.live_board.specs.kept.Sources.{IsStill}
use Rattle.live_board.specs.kept.Kernels.{calls}
use Rattle.live_board.specs.kept.Kernels.{HasBegun as HasKernelBegun}
use Rattle.live_board.specs.kept.Slices.{AreChanged}
use Rattle.kernel_actor.specs.Books.{Book, charges_in}
use Rattle.live_board.specs.kept.Begins.{IsOfSet, IsCut, IsMet, IsKernelMet, KnowsOf, KnowsOfAll, HearsOf, SourceBegins}
use Rattle.live_board.proofs.Slices.{same_inside}
use Rattle.irq_source.proofs.Basics.{cases_less}
use Rattle.live_board.specs.kept.Begins as begins

-- what a source knows, by its view's parts
abbrev out_by : Told → Lay → ℕ → List Call → ℕ
out_by told lay i calls = max (slice_index told.published (queue_of lay i)) (published_of (places_of lay (queue_of lay i)) calls)

abbrev gone_by : Told → Lay → ℕ → List Call → ℕ
gone_by told lay i calls = max (slice_index told.released (queue_of lay i)) (released_by_of (places_of lay (queue_of lay i)) calls)

-- a cut source
pub is_cut : (set : QueueSet) (old new : Acting) → IsSeatOf set old.seat → IsSame old new → new.seat ≡ old.seat → new.begun ≡ old.begun + 1 → new.place ≡ rebooted old.place → IsCut set old new
is_cut set old new seat same is begun place = record {
  still = record {
    same = same;
    source = ap (λ (s : SourceSeat). s.source) is;
    src = ap (λ (p : Place). p.src) place;
    accepted = ap (λ (p : Place). p.accepted) place;
    refused = ap (λ (p : Place). p.refused) place;
    mine = ap (λ (s : SourceSeat). mine_of (calls_of (view s))) is;
    next = ap (λ (s : SourceSeat). next_of (calls_of (view s))) is;
    out = let e = ap (λ (s : SourceSeat). out_by (view s).told (view s).lay s.source.0 (calls_of (view s))) is in omega (arith, e);
    gone = let e = ap (λ (s : SourceSeat). gone_by (view s).told (view s).lay s.source.0 (calls_of (view s))) is in omega (arith, e);
  };
  seat = subst (IsSeatOf set) (sym is) seat;
  queue = ap (λ (s : SourceSeat). queue_of (view s).lay s.source.0) is;
  begun = begun;
  row = ap (λ (p : Place). p.row) place;
}

-- a source that told what it knows
pub met_noting : (set : QueueSet) (old new : Acting) → IsSeatOf set old.seat → IsSame old new → new.begun ≡ old.begun → IsSameSeat old.seat new.seat → calls_of (view new.seat) ≡ calls_of (view old.seat) → new.place ≡ old.place → IsMet set old new
met_noting set old new seat same begun is made place = record {
  still = record {
    same = same;
    source = is.source;
    src = ap (λ (p : Place). p.src) place;
    accepted = ap (λ (p : Place). p.accepted) place;
    refused = ap (λ (p : Place). p.refused) place;
    mine = ap mine_of made;
    next = ap next_of made;
    out = let e : (knows new).out ≡ (knows old).out = λ j. out_by (is.place.told j) (is.place.lay j) (is.source j).0 (made j) in omega (arith, e);
    gone = let e : (knows new).gone ≡ (knows old).gone = λ j. gone_by (is.place.told j) (is.place.lay j) (is.source j).0 (made j) in omega (arith, e);
  };
  seat = (is.place.table ∙ seat.0, is.place.lay ∙ seat.1);
  queue = λ j. queue_of (is.place.lay j) (is.source j).0;
  begun = begun;
  row = ap (λ (p : Place). p.row) place;
}

-- a source that heard a note
pub met_hearing : (set : QueueSet) (n : Note) (old new : Acting) → IsSeatOf set old.seat → IsSame old new → new.begun ≡ old.begun → HearsAsSource n old.seat new.seat → new.place ≡ old.place → IsMet set old new
met_hearing set n old new seat same begun is place = record {
  still = record {
    same = same;
    source = is.source;
    src = ap (λ (p : Place). p.src) place;
    accepted = ap (λ (p : Place). p.accepted) place;
    refused = ap (λ (p : Place). p.refused) place;
    mine = ap mine_of is.place.calls;
    next = ap next_of is.place.calls;
    out =
        let e : (knows new).out ≡ max (slice_index (greater (view old.seat).told.published (told_of n).published) (begins.queue old)) (published_of (places_of (view old.seat).lay (begins.queue old)) (calls_of (view old.seat))) =
        λ j. out_by (is.place.told j) (is.place.lay j) (is.source j).0 (is.place.calls j) in
        let more = greater_left (view old.seat).told.published (told_of n).published (begins.queue old) in omega (arith, e, more);
    gone =
        let e : (knows new).gone ≡ max (slice_index (greater (view old.seat).told.released (told_of n).released) (begins.queue old)) (released_by_of (places_of (view old.seat).lay (begins.queue old)) (calls_of (view old.seat))) =
        λ j. gone_by (is.place.told j) (is.place.lay j) (is.source j).0 (is.place.calls j) in
        let more = greater_left (view old.seat).told.released (told_of n).released (begins.queue old) in omega (arith, e, more);
  };
  seat = (is.place.table ∙ seat.0, is.place.lay ∙ seat.1);
  queue = λ j. queue_of (is.place.lay j) (is.source j).0;
  begun = begun;
  row = ap (λ (p : Place). p.row) place;
}

-- of the kernel's note a source hears what the kernel has seen and released of its queue
pub hears_kernel : (set : QueueSet) (k : kernel.Acting) (n : Note) (old new : Acting) → IsKernelSeatOf set k.seat → IsOfSet set old → Noted set (kernel_told (kernel_view k.seat)) n →
    IsSame old new → new.begun ≡ old.begun → HearsAsSource n old.seat new.seat → new.place ≡ old.place → HearsOf set k old new
hears_kernel set k n old new of can note same begun is place = record {
  met = met_hearing set n old new can.seat same begun is place;
  published =
      let e : (knows new).out ≡ max (slice_index (greater (view old.seat).told.published (told_of n).published) (begins.queue old)) (published_of (places_of (view old.seat).lay (begins.queue old)) (calls_of (view old.seat))) =
      λ j. out_by (is.place.told j) (is.place.lay j) (is.source j).0 (is.place.calls j) in
      let told = ap (λ (t : Told). slice_index t.published (begins.queue old)) note.told in
      let a = greater_right (view old.seat).told.published (told_of n).published (begins.queue old) in
      let b = greater_left (tabulated (λ t. known_of t (calls k)) (length (kernel_view k.seat).lay.queues)) (kernel_view k.seat).told.published (begins.queue old) in
      let here = tabulated_at (λ t. known_of t (calls k)) (length (kernel_view k.seat).lay.queues) (begins.queue old) known in omega (arith, e, told, a, b, here);
  released =
      let e : (knows new).gone ≡ max (slice_index (greater (view old.seat).told.released (told_of n).released) (begins.queue old)) (released_by_of (places_of (view old.seat).lay (begins.queue old)) (calls_of (view old.seat))) =
      λ j. gone_by (is.place.told j) (is.place.lay j) (is.source j).0 (is.place.calls j) in
      let told = ap (λ (t : Told). slice_index t.released (begins.queue old)) note.told in
      let a = greater_right (view old.seat).told.released (told_of n).released (begins.queue old) in
      let b = greater_left (tabulated (λ t. released_of t (calls k)) (length (kernel_view k.seat).lay.queues)) (kernel_view k.seat).told.released (begins.queue old) in
      let here = tabulated_at (λ t. released_of t (calls k)) (length (kernel_view k.seat).lay.queues) (begins.queue old) known in omega (arith, e, told, a, b, here);
}
  where
    known : begins.queue old < length (kernel_view k.seat).lay.queues
    known = subst (λ (l : Lay). (begins.queue old) < length l.queues) (sym of.1) can.queue

-- the kernel that heard a note
pub kernel_hearing : (set : QueueSet) (n : Note) (old new : kernel.Acting) → IsKernelSeatOf set old.seat → kernel.IsBeside old new → new.kernel ≡ old.kernel → new.book ≡ old.book → HearsAsKernel n old.seat new.seat → IsKernelMet set old new
kernel_hearing set n old new of beside registers book is = record {
  beside = beside;
  kernel = registers;
  book = book;
  calls = is.place.calls;
  seat = (is.place.table ∙ of.0, is.place.lay ∙ of.1);
  published = λ t. let e = ap (λ (x : Told). slice_index x.published t) is.place.told in let more = greater_left (kernel_view old.seat).told.published (told_of n).published t in omega (arith, e, more);
  clock = let e = ap (λ (x : Told). x.clock) is.place.told in omega (arith, e);
}

-- of a source's note it hears what the source knows to be published
pub hears_source : (set : QueueSet) (n : Note) (a : Acting) (old new : kernel.Acting) → Noted set (source_told (view a.seat) a.seat.source.0) n → HearsAsKernel n old.seat new.seat → KnowsOf new a
hears_source set n a old new note is =
    let q = begins.queue a in
    let e = ap (λ (x : Told). slice_index x.published q) is.place.told in
    let told = ap (λ (t : Told). slice_index t.published q) note.told in
    let more = greater_right (kernel_view old.seat).told.published (told_of n).published q in
    let here = raised_at q (knows a).out (view a.seat).told.published in omega (arith, e, told, more, here)

-- and of the clock's, the ticks
pub hears_clock : (set : QueueSet) (n : Note) (v : View) (old new : kernel.Acting) → Noted set (clock_told v) n → HearsAsKernel n old.seat new.seat → sum_of (calls_of v) ≤ (kernel_view new.seat).told.clock
hears_clock set n v old new note is =
    let e = ap (λ (x : Told). x.clock) is.place.told in
    let told = ap (λ (t : Told). t.clock) note.told in omega (arith, e, told)

-- a kernel that heard, and then heard more
pub kernel_met_then : (set : QueueSet) (a b c : kernel.Acting) → IsKernelMet set a b → IsKernelMet set b c → IsKernelMet set a c
kernel_met_then set a b c first second = record {
  beside = record { program = second.beside.program ∙ first.beside.program; words = second.beside.words ∙ first.beside.words; left = second.beside.left ∙ first.beside.left };
  kernel = second.kernel ∙ first.kernel;
  book = second.book ∙ first.book;
  calls = second.calls ∙ first.calls;
  seat = second.seat;
  published = λ t. let x = first.published t in let y = second.published t in omega (arith, x, y);
  clock = let x = first.clock in let y = second.clock in omega (arith, x, y);
}

-- a kernel that told what it knows
pub kernel_noting : (set : QueueSet) (old new : kernel.Acting) → IsKernelSeatOf set old.seat → kernel.IsSame old new → kernel.place_of new ≡ kernel.place_of old → (new.left ≡ old.left) × (new.book ≡ old.book) → IsKernelMet set old new
kernel_noting set old new of same place room = record {
  beside = record { program = same.program; words = ap (λ (p : kernel_rows.Place). p.words) place; left = room.0 };
  kernel = ap (λ (p : kernel_rows.Place). p.kernel) place;
  book = room.1;
  calls = ap (λ (p : kernel_rows.Place). p.calls) place;
  seat = (same.seat.place.table ∙ of.0, same.seat.place.lay ∙ of.1);
  published = λ t. let e = ap (λ (x : Told). slice_index x.published t) same.seat.place.told in omega (arith, e);
  clock = let e = ap (λ (x : Told). x.clock) same.seat.place.told in omega (arith, e);
}

-- what a kernel knows of sources stays where it hears more
pub knows_still : (set : QueueSet) (old new : kernel.Acting) (n : ℕ) (sources : List Acting) → IsKernelMet set old new → KnowsOfAll old n sources → KnowsOfAll new n sources
knows_still set old new n sources met knew i a known lt = let before = knew i a known lt in let more = met.published (begins.queue (slice_index_or sources i a)) in omega (arith, before, more)

-- and one source more
pub knows_more : (set : QueueSet) (old new : kernel.Acting) (n : ℕ) (e : Acting) (sources : List Acting) → IsKernelMet set old new → KnowsOfAll old n sources → KnowsOf new (slice_index_or sources n e) → KnowsOfAll new (n + 1) sources
knows_more set old new n e sources met knew one i a known lt =
    elim (cases_less i n lt) [
      | inl before ↦ knows_still set old new n sources met knew i a known before
      | inr here ↦ subst (λ j. KnowsOf new (slice_index_or sources j a)) (sym here) (subst (KnowsOf new) (same_inside sources n e a (omega (arith, known, here))) one)
    ]

-- what stands still twice stands still
still_then : (a b c : Acting) → IsStill a b → IsStill b c → IsStill a c
still_then a b c first second = record {
  same = record { port = second.same.port ∙ first.same.port; readings = second.same.readings ∙ first.same.readings; charges = second.same.charges ∙ first.same.charges };
  source = second.source ∙ first.source;
  src = second.src ∙ first.src;
  accepted = second.accepted ∙ first.accepted;
  refused = second.refused ∙ first.refused;
  mine = second.mine ∙ first.mine;
  next = second.next ∙ first.next;
  out = let x = first.out in let y = second.out in omega (arith, x, y);
  gone = let x = first.gone in let y = second.gone in omega (arith, x, y);
}

-- a source that was cut, told what it knows and heard of the kernel
source_begins : (set : QueueSet) (k later : kernel.Acting) → calls later ≡ calls k → (old cut met new : Acting) → IsCut set old cut → IsMet set cut met → HearsOf set later met new → SourceBegins set k old new
source_begins set k later same old cut met new a b c =
    let where_it_was : begins.queue met ≡ begins.queue old = b.queue ∙ a.queue in record {
      begun = record {
        still = still_then old cut new a.still (still_then cut met new b.still c.met.still);
        begun = c.met.begun ∙ (b.begun ∙ a.begun);
        row = c.met.row ∙ (b.row ∙ a.row);
        published = subst (λ (z : ℕ × List Call). known_of z.0 z.1 ≤ (knows new).out) (λ j. (where_it_was j, same j)) c.published;
        released = subst (λ (z : ℕ × List Call). released_of z.0 z.1 ≤ (knows new).gone) (λ j. (where_it_was j, same j)) c.released;
      };
      seat = c.met.seat;
      queue = c.met.queue ∙ where_it_was;
    }

-- so all of them
pub sources_begin : (set : QueueSet) (k later : kernel.Acting) → calls later ≡ calls k → (old cut met new : List Acting) → AreChanged (IsCut set) (length old) old cut → AreChanged (IsMet set) (length cut) cut met →
    AreChanged (HearsOf set later) (length met) met new → AreChanged (SourceBegins set k) (length old) old new
sources_begin set k later same old cut met new first second third = record {
  size = third.size ∙ (second.size ∙ first.size);
  changed = λ i d known lt.
      let size = first.size in let size' = second.size in
      source_begins set k later same (slice_index_or old i d) (slice_index_or cut i d) (slice_index_or met i d) (slice_index_or new i d) (first.changed i d known lt)
      (second.changed i d (omega (arith, size, known)) (omega (arith, size, known))) (third.changed i d (omega (arith, size, size', known)) (omega (arith, size, size', known)));
  others = λ i d le.
      let size = first.size in let size' = second.size in
      third.others i d (omega (arith, size, size', le)) ∙ (second.others i d (omega (arith, size, le)) ∙ first.others i d le);
}

-- what the kernel heard of cut sources it knows of them as they were
pub knows_uncut : (set : QueueSet) (k : kernel.Acting) (old cut : List Acting) → AreChanged (IsCut set) (length old) old cut → KnowsOfAll k (length cut) cut → KnowsOfAll k (length old) old
knows_uncut set k old cut are knew i a known lt =
    let size = are.size in
    let one = are.changed i a known lt in
    let here = knew i a (omega (arith, size, known)) (omega (arith, size, known)) in
    let more = one.still.out in
    let same = ap (slice_index (kernel_view k.seat).told.published) one.queue in omega (arith, here, more, same)

-- the kernel that was cut, and then heard of sources and of the clock
pub kernel_begins : (set : QueueSet) (passed : ℕ) (old cut met told new : kernel.Acting) → kernel.IsBeside old cut → cut.seat ≡ old.seat → cut.book.done ≡ charges_in old.book → cut.book.entries ≡ [] → cut.book.begun ≡ true →
    old.book.rooms ≡ cut.book.rooms ++ cut.book.spare ∷ [] → IsKernelMet set cut met → IsKernelMet set met told → passed ≤ (kernel_view told.seat).told.clock → IsKernelMet set told new → HasKernelBegun passed old new
kernel_begins set passed old cut met told new beside seat done entries begun rooms first second ticks third =
    let last = kernel_met_then set cut told new (kernel_met_then set cut met told first second) third in record {
      beside = record { program = last.beside.program ∙ beside.program; words = last.beside.words ∙ beside.words; left = last.beside.left ∙ beside.left };
      calls = last.calls ∙ ap (λ (s : KernelSeat). calls_of (kernel_view s)) seat;
      done = ap (λ (b : Book). b.done) last.book ∙ done;
      entries = ap (λ (b : Book). b.entries) last.book ∙ entries;
      begun = ap (λ (b : Book). b.begun) last.book ∙ begun;
      rooms = rooms ∙ ap (λ (b : Book). b.rooms ++ b.spare ∷ []) (sym last.book);
      ticks = let more = third.clock in omega (arith, ticks, more);
    }
