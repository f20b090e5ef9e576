-- A live board before its first charge is one of which no charge is over.
use Rattle.std.proofs.Common.{◌≡◌, inl, inr, ℕ, ◌-◌, ◌<◌, false, List, [], ◌∷◌, ◌++◌, length, map, length-append, refl, sym, ap, ◌∙◌, subst, arith}
use Rattle.std.specs.Prelude.{slice_index, slice_index_or}
use Rattle.std.proofs.Math.ListN.{get_or-map}
use Rattle.std.proofs.lemmas.List.{length-map, get_or_append_left, get_or_push}
use mathlib.Core.Option.{some, some-ne-none}
use lib.ListN.{get_elem?}
use Rattle.ink_base.specs.declared.actor.Actor.TheVariants as actors
use Rattle.ink_base.specs.declared.ids.ThreadId.{ThreadId}
use Rattle.task_isa.specs.declared.program.Program.{Program}
use Rattle.prog_check.specs.Lookup.{source_thread}
use Rattle.job_parts.specs.Job.{JobParts, IsJob}
use Rattle.event_queue.proofs.Basics.{element, snoc_cases}
use Rattle.event_queue.specs.declared.seat.ClockSeat.{ClockSeat}
use Rattle.event_queue.specs.declared.seat.KernelSeat.{KernelSeat}
use Rattle.event_queue.specs.declared.seat.SourceSeat.{SourceSeat}
use Rattle.event_queue.specs.declared.set.QueueSet.{QueueSet}
use Rattle.event_queue.specs.declared.view.Call.{Call}
use Rattle.event_queue.specs.declared.view.Shape.{Shape}
use Rattle.event_queue.specs.Calls.{mine_of, sum_of}
use Rattle.event_queue.specs.Seats.{clock_view, lay_in, view, IsOfShape, IsSeatOf, IsKernelSeatOf, IsClockSeatOf, AreNewSources, IsNewKernel, IsNewClock}
use Rattle.event_queue.specs.Views.{calls_of, lay_of}
use Rattle.irq_source.specs.Account.{publication}
use Rattle.irq_source.specs.Acting.{Acting}
use Rattle.irq_source.specs.Rows.{Place}
use Rattle.kernel_account.specs.declared.entry.KernelEntry.{KernelEntry}
use Rattle.kernel_account.specs.declared.entry.KernelEntry.TheVariants.{Scan}
use Rattle.kernel_actor.specs.Accounts.{IsAccountOf}
use Rattle.kernel_actor.specs.Acting as kernel
use Rattle.kernel_actor.specs.Books.{Book, charges_by, charges_in, HaveRoom}
use Rattle.kernel_actor.specs.Lays.{IsLayOf}
use Rattle.kernel_actor.specs.declared.clock.ClockActor.{ClockActor}
use Rattle.live_account.specs.Queues.{places_for}
use Rattle.live_account.specs.Turns.{turns_for, charge_at, no_charge}
use Rattle.live_board.specs.kept.Boards.{IsBoardAfter}
use Rattle.live_board.specs.kept.Dates.{AreDated}
use Rattle.live_board.specs.kept.Kernels.{IsKernelAfter, ScansInTime, SeesAll, HaveRoomLeft, calls}
use Rattle.live_board.specs.kept.Parts.{AreFirstSeats, AreFirstSources, IsFirstSeat, IsFirstSource}
use Rattle.live_board.specs.kept.Sources.{AreInTurns, IsSourceAfter}
use Rattle.live_board.proofs.Budgets.{all_turns_at_most}

-- the seats of a set with the program's queues
pub lay_of_set : (program : Program) (set : QueueSet) (shape : Shape) → IsLayOf program (lay_of shape) → IsOfShape set shape → IsLayOf program (lay_in set)
lay_of_set program set shape lay of = subst (λ (s : Shape). IsLayOf program (lay_of s)) (sym of) lay

pub seats_of_set : (program : Program) (set : QueueSet) (shape : Shape) (seats : List SourceSeat) → IsLayOf program (lay_of shape) → IsOfShape set shape → length seats ≡ length shape.sources.items → AreNewSources set seats → AreFirstSeats program seats
seats_of_set program set shape seats lay of number new = record {
  number = let all = length-map shape.sources.items (λ (t : ThreadId). t.0) in let same = lay.sources in omega (arith, number, all, same);
  each = λ i s at. record { source = (new i s at).source; calls = (new i s at).calls; lay = subst (IsLayOf program) (sym (new i s at).of.1) (lay_of_set program set shape lay of) };
}

-- the sources that a loop over the seats makes
pub no_sources : (job : JobParts) → AreFirstSources job [] []
no_sources job = record { number = refl; each = λ i s a at. absurd (some-ne-none s (sym at)) }

pub one_source_more : (job : JobParts) (seats : List SourceSeat) (sources : List Acting) (s : SourceSeat) (a : Acting) → AreFirstSources job seats sources → IsFirstSource job (length seats) s a → AreFirstSources job (seats ++ s ∷ []) (sources ++ a ∷ [])
one_source_more job seats sources s a were is = record {
  number = let more = length-append seats (s ∷ []) in let all = length-append sources (a ∷ []) in let same = were.number in omega (arith, more, all, same);
  each = λ i t d at. elim (snoc_cases seats s i t at) [
    | inl before ↦ subst (IsFirstSource job i t) (sym (get_or_append_left sources (a ∷ []) d i (let lt = before.0 in let same = were.number in omega (arith, lt, same)))) (were.each i t d before.1)
    | inr here ↦ subst (IsFirstSource job i t) (sym (get_or_push sources a d i (were.number ∙ here.0))) (subst (λ (z : ℕ × SourceSeat). IsFirstSource job z.0 z.1 a) (λ j. (here.0 j, here.1 j)) is)
  ];
}

-- the seat at hand is the one of its number
pub seat_here : (program : Program) (seats before rest : List SourceSeat) (s : SourceSeat) → seats ≡ before ++ s ∷ rest → AreFirstSeats program seats → (length before < length program.sources) × IsFirstSeat program (length before) s
seat_here program seats before rest s is are = (
  (let all = ap length is in let parts = length-append before (s ∷ rest) in let number = are.number in omega (arith, all, parts, number)),
  are.each (length before) s (subst (λ (l : List SourceSeat). get_elem? l (length before) ≡ some s) (sym is) (stands before rest s)),
)
  where
    stands : (before rest : List SourceSeat) (s : SourceSeat) → get_elem? (before ++ s ∷ rest) (length before) ≡ some s
    stands [] rest s = refl
    stands (x ∷ before) rest s = stands before rest s

-- a source before its first charge
source_after : (job : JobParts) (i : ℕ) (s : SourceSeat) (a : Acting) → IsFirstSeat job.program i s → IsFirstSource job i s a → IsSourceAfter job i 0 a
source_after job i s a seat is = record {
  begun = is.begun;
  charges = is.charges;
  port = is.port;
  source = ap (λ (z : SourceSeat). z.source.0) is.seat ∙ seat.source;
  places = is.places;
  readings = is.readings;
  listed = ap (λ (p : Place). map publication p.accepted) is.place ∙ sym (ap (λ (z : SourceSeat). mine_of (calls_of (view z))) is.seat ∙ ap mine_of seat.calls);
  turns = subst (λ (p : Place). AreInTurns job i p.accepted p.refused) (sym is.place) (record {
    published = λ n p at. absurd (some-ne-none p (sym at));
    declined = λ n d at. absurd (some-ne-none d (sym at));
  });
  settles = λ c m others k lt. absurd (omega (arith, lt));
}

nothing_dated : (program : Program) (t places : ℕ) (made : List Call) (charges : List (List KernelEntry)) → AreDated program t places made charges [] []
nothing_dated program t places made charges = record {
  looks = λ c n p k u q same entry at. absurd (some-ne-none q (sym at));
  serves = λ events found c n k u e q same entry next of at. absurd (some-ne-none q (sym at));
  refuses = λ events found k d at. absurd (some-ne-none d (sym at));
}

-- the book of a kernel none of whose charges has begun
pub no_charges : (book : Book) → (book.done ≡ []) × (book.begun ≡ false) → charges_in book ≡ []
no_charges book none = λ j. charges_by (none.1 j) (none.0 j) book.entries

no_scans : (job : JobParts) → ScansInTime job []
no_scans job c n clock at = absurd (some-ne-none (Scan clock) (sym at))

sees_none : (program : Program) (made : List Call) → SeesAll program made []
sees_none program made events found c n e at = absurd (some-ne-none e (sym at))

-- the budgets that are the turns of the charges have room for an entry of each turn
rooms_of : (job : JobParts) (budgets rooms : List ℕ) → budgets ≡ map (turns_for actors.Kernel) job.charges → HaveRoom budgets rooms → HaveRoomLeft job 0 rooms
rooms_of job budgets rooms are have =
    let all = length-map job.charges (turns_for actors.Kernel) in
    let same = ap length are in record {
      number = let count = have.count in omega (arith, all, same, count);
      each = λ k lt.
          let known : k < length budgets = let count = have.count in omega (arith, lt, count) in
          let at : length budgets - 1 - k ≡ length job.charges - 1 - k = ap (λ n. n - 1 - k) (same ∙ all) in
          let turns : slice_index budgets (length budgets - 1 - k) ≡ turns_for actors.Kernel (charge_at job.charges (length job.charges - 1 - k)) =
          (λ j. slice_index (are j) (at j)) ∙ get_or-map (turns_for actors.Kernel) job.charges (length job.charges - 1 - k) no_charge in
          let room = have.each k known in omega (arith, turns, room);
    }

-- a kernel before its first charge
pub kernel_after : (job : JobParts) (budgets : List ℕ) (k : kernel.Acting) → IsJob job → budgets ≡ map (turns_for actors.Kernel) job.charges → k.program ≡ job.program → (k.book.done ≡ []) × (k.book.begun ≡ false) →
    HaveRoom budgets k.book.rooms → k.left ≡ 4194304 → kernel.LeavesState k → IsKernelAfter job 0 k
kernel_after job budgets k is_job are program none rooms left ends =
    let nothing = sym (no_charges k.book none) in record {
      program = program;
      charges = ap length (no_charges k.book none);
      scans = subst (ScansInTime job) nothing (no_scans job);
      sees = subst (SeesAll job.program (calls k)) nothing (sees_none job.program (calls k));
      left = let turns = all_turns_at_most actors.Kernel job.charges in let most = is_job.charges.turns in omega (arith, turns, most, left);
      rooms = rooms_of job budgets k.book.rooms are rooms;
      account = subst (IsAccountOf k.program (calls k)) nothing (λ events found. tt);
      ends = ends;
    }

-- a board before its first charge
pub board_before : (job : JobParts) (set : QueueSet) (shape : Shape) (seats : List SourceSeat) (seat : KernelSeat) (clock_seat : ClockSeat) (sources : List Acting) (k : kernel.Acting) (clock : ClockActor) → IsJob job →
    IsLayOf job.program (lay_of shape) → IsOfShape set shape → length seats ≡ length shape.sources.items → AreNewSources set seats → IsNewKernel set seat → IsNewClock set clock_seat →
    AreFirstSources job seats sources → k.seat ≡ seat → IsKernelAfter job 0 k → clock.seat ≡ clock_seat → IsBoardAfter job set 0 sources k clock
board_before job set shape seats seat clock_seat sources k clock is_job lay of number new new_kernel new_clock are kernel_is after clock_is =
    let firsts = seats_of_set job.program set shape seats lay of number new in record {
      is_job = is_job;
      lay = lay_of_set job.program set shape lay of;
      number = are.number ∙ firsts.number;
      each = λ i a known.
          let here = element seats i (let same = are.number in omega (arith, known, same)) in
          let first = are.each i here.0 a here.1 in record {
            seat = subst (IsSeatOf set) (sym first.seat) (new i here.0 here.1).of;
            after = source_after job i here.0 (slice_index_or sources i a) (firsts.each i here.0 here.1) first;
            dated = subst (λ (p : Place). AreDated job.program (source_thread job.program i) (places_for job.program i) (calls k) (charges_in k.book) p.accepted p.refused) (sym first.place)
                (nothing_dated job.program (source_thread job.program i) (places_for job.program i) (calls k) (charges_in k.book));
          };
      kernel_seat = subst (IsKernelSeatOf set) (sym kernel_is) new_kernel.of;
      kernel_after = after;
      clock_seat = subst (IsClockSeatOf set) (sym clock_is) new_clock.of;
      passed = ap (λ (s : ClockSeat). sum_of (calls_of (clock_view s))) clock_is ∙ ap sum_of new_clock.calls;
    }
