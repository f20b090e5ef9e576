-- A live board goes on, charge after charge.
use Rattle.std.proofs.Common.{◌≡◌, ◌⊎◌, inl, inr, ℕ, suc, ◌+◌, ◌-◌, ◌^◌, ◌<◌, ◌≤◌, true, List, [], ◌∷◌, ◌++◌, length, map, take, refl, sym, ap, ◌∙◌, subst, arith}
use Rattle.std.specs.Prelude.{slice_index, slice_index_or}
use mathlib.Core.Option.{some, some-injective}
use lib.ListN.{get_elem?}
use Rattle.std.proofs.lemmas.List.{length-map}
use Rattle.event_queue.proofs.Basics.{below, element, same_element}
use Rattle.irq_source.proofs.Basics.{at_map}
use Rattle.ink_base.specs.declared.actor.Actor.TheVariants as actors
use Rattle.ink_base.specs.declared.event.Event.{Event}
use Rattle.ink_base.specs.declared.ids.ThreadId.{ThreadId}
use Rattle.push_core.specs.declared.port.Port.{Port}
use Rattle.task_isa.specs.declared.program.Program.{Program}
use Rattle.prog_check.specs.Lookup.{source_thread}
use Rattle.never_cut.specs.declared.model.Model.{Model}
use Rattle.never_cut.specs.declared.thread_model.ThreadModel.{ThreadModel}
use Rattle.never_cut.specs.State.{thread_of}
use Rattle.job_parts.specs.Job.{JobParts, IsJob}
use Rattle.job_parts.specs.declared.charge.Charge.{Charge}
use Rattle.kernel_account.proofs.Parts.{thread_part}
use Rattle.kernel_account.specs.Account.{open_account, account_after}
use Rattle.kernel_account.specs.Follows.{kernels_part}
use Rattle.kernel_account.specs.declared.entry.KernelEntry.{KernelEntry}
use Rattle.kernel_account.specs.declared.entry.KernelEntry.TheVariants.{Look}
use Rattle.event_queue.specs.declared.set.QueueSet.{QueueSet}
use Rattle.event_queue.specs.declared.view.Lay.{Lay}
use Rattle.event_queue.specs.declared.view.Call.{Call}
use Rattle.event_queue.specs.declared.seat.SourceSeat.{SourceSeat}
use Rattle.event_queue.specs.Calls.{Won, mine_of, published_of, released_of}
use Rattle.event_queue.specs.Seats.{kernel_view, lay_in, view, IsSeatOf, IsKernelSeatOf, IsClockSeatOf, IsSameClockSeat}
use Rattle.event_queue.specs.Views.{known_of, queue_of, places_of, calls_of}
use Rattle.irq_source.specs.declared.lists.Published.{Published}
use Rattle.irq_source.specs.declared.lists.Declined.{Declined}
use Rattle.irq_source.specs.Account.{publication}
use Rattle.irq_source.specs.Acting.{Acting, knows}
use Rattle.irq_source.specs.Rows.{Place}
use Rattle.kernel_actor.specs.Accounts.{AreFound}
use Rattle.kernel_actor.specs.Acting as kernel
use Rattle.kernel_actor.specs.Books.{charges_in}
use Rattle.kernel_actor.specs.Lays.{IsLayOf}
use Rattle.kernel_actor.specs.declared.clock.ClockActor.{ClockActor}
use Rattle.live_account.specs.Queues.{places_for, releases_of}
use Rattle.live_account.specs.Turns.{source, turns_for, charge_at, no_charge, ticks_before, dark_ticks, lit_ticks}
use Rattle.live_board.specs.kept.Begins.{queue, AreOfSet, HaveCharges, KnowsOf, KnowsOfAll, SourceBegins}
use Rattle.live_board.specs.kept.Slices.{AreChanged}
use Rattle.live_board.specs.kept.Boards.{IsHereAfter, IsBoardAfter}
use Rattle.live_board.specs.kept.Dates.{AreDated, AddsDates}
use Rattle.live_board.specs.kept.Kernels.{IsKernelAfter, HasBegun, HasRun, calls}
use Rattle.live_board.specs.kept.Runs.{SourceRuns, EachRuns, KernelCanRun, KernelRuns, ClockCanRun, ClockRuns, ticks}
use Rattle.live_board.specs.kept.Sources.{IsSourceAfter}
use Rattle.live_board.specs.kept.Sources.{HasBegun as HasSourceBegun, HasRun as HasSourceRun}
use Rattle.live_board.proofs.Calls.{leads_behind, found_before, mine_published}
use Rattle.live_board.proofs.Dates.{dates_on}
use Rattle.live_board.proofs.Kernels.{charges_now, timely_now, kernel_on, turns_split, room_next}
use Rattle.live_board.proofs.Slices.{same_inside}
use Rattle.live_board.proofs.Ticks.{ticks_begun, ticks_over, ticks_in, ticks_so_far}
use Rattle.live_board.proofs.Releases.{releases_counted}
use Rattle.live_board.proofs.Sources.{source_on}

-- the kernel's calls count the releases of its account
releases_are : (k : kernel.Acting) (events : ℕ → List Event) (t : ℕ) → kernel.KeepsAccount k → kernel.LeavesState k → AreFound events (calls k) → t < length k.program.threads → releases_of t (charges_in k.book) ≡ released_of t (calls k)
releases_are k events t account ends found known =
    let counted = releases_counted k.program events (charges_in k.book) t (account events found) in
    let beside = ends.beside events found in
    let same = ap (λ (m : Model). (thread_of m t).released) beside.same in
    let mine = ap (λ (x : ThreadModel). x.released) (thread_part (account_after k.program (open_account k.program events) (charges_in k.book)) t) in
    let own = ap (λ (x : ThreadModel). x.released) (thread_part ends.state t) in
    let released = ends.released t known in omega (arith, counted, same, mine, own, released)

-- a listed publication is below what its source knows to be published
listed_below : (a : Acting) (k : ℕ) (q : Published) → map publication a.place.accepted ≡ (knows a).mine → get_elem? a.place.accepted k ≡ some q → q.position < (knows a).out
listed_below a k q listed at =
    let here = subst (λ (l : List Won). get_elem? l k ≡ some (publication q)) listed (at_map publication a.place.accepted k q at) in
    let less = mine_published (places_of (view a.seat).lay (queue a)) (calls_of (view a.seat)) k (publication q) here in omega (arith, less)

-- A reading that is listed after a charge was listed before, or is of this charge, and stands at no position that was known to be published.
listed_new : (job : JobParts) (i c : ℕ) (old began new : Acting) (budget out gone : ℕ) → IsSourceAfter job i c old → HasSourceBegun out gone old began → HasSourceRun budget began new → (k : ℕ) (q : Published) →
    get_elem? new.place.accepted k ≡ some q → (get_elem? old.place.accepted k ≡ some q) ⊎ ((q.charge ≡ c) × (out ≤ q.position))
listed_new job i c old began new budget out gone was begins ran k q at =
    elim (ran.grows.accepted k q at) [
      | inl before ↦ inl (subst (λ (l : List Published). get_elem? l k ≡ some q) begins.still.accepted before)
      | inr now ↦
          let here = subst (λ (l : List Won). get_elem? l k ≡ some (publication q)) ran.account.lists.mine (at_map publication new.place.accepted k q at) in
          elim (ran.added.new_ones k (publication q) here) [
            | inl mine ↦
                let then = subst (λ (l : List Won). get_elem? l k ≡ some (publication q)) (begins.still.mine ∙ sym was.listed) mine in
                let size = length-map old.place.accepted publication in
                let there = element old.place.accepted k (let lt = below (map publication old.place.accepted) k (publication q) then in omega (arith, lt, size)) in
                let kept = ran.grows.accepted_kept k there.0 (subst (λ (l : List Published). get_elem? l k ≡ some there.0) (sym begins.still.accepted) there.1) in
                inl (subst (λ (x : Published). get_elem? old.place.accepted k ≡ some x) (same_element new.place.accepted k there.0 q kept at) there.1)
            | inr late ↦
                let begun = begins.begun in let count = was.begun in let heard = begins.published in
                inr (now ∙ (let e : began.begun - 1 ≡ c = omega (arith, begun, count) in e), omega (arith, heard, late))
          ]
    ]

-- so it is with what was refused
refused_new : (job : JobParts) (i c : ℕ) (old began new : Acting) (budget out gone : ℕ) → IsSourceAfter job i c old → HasSourceBegun out gone old began → HasSourceRun budget began new → (k : ℕ) (d : Declined) →
    get_elem? new.place.refused k ≡ some d → (get_elem? old.place.refused k ≡ some d) ⊎ ((d.charge ≡ c) × (gone + places_for job.program i ≤ d.position))
refused_new job i c old began new budget out gone was begins ran k d at =
    elim (ran.grows.refused k d at) [
      | inl before ↦ inl (subst (λ (l : List Declined). get_elem? l k ≡ some d) begins.still.refused before)
      | inr now ↦
          let begun = begins.begun in let count = was.begun in let heard = begins.released in
          let places : began.port.queue.places ≡ places_for job.program i = ap (λ (p : Port). p.queue.places) begins.still.same.port ∙ was.places in
          let above = now.1 in
          inr (now.0 ∙ (let e : began.begun - 1 ≡ c = omega (arith, begun, count) in e), omega (arith, heard, above, places))
    ]

-- the queue of a source is that of its thread
pub queue_is : (job : JobParts) (set : QueueSet) (i c : ℕ) (a : Acting) → IsLayOf job.program (lay_in set) → i < length job.program.sources → IsSeatOf set a.seat → IsSourceAfter job i c a → queue a ≡ source_thread job.program i
queue_is job set i c a lay known seat was = (λ j. queue_of (seat.1 j) (was.source j)) ∙ lay.queue i known

module _ (job : JobParts) (set : QueueSet) (i c budget : ℕ) (k began_k new_k : kernel.Acting) (old began new : Acting) (known : i < length job.program.sources) (lay : IsLayOf job.program (lay_in set)) (seat : IsSeatOf set old.seat) (was : IsSourceAfter job i c old)
    (after : IsKernelAfter job c k) (kernel_begins : HasBegun (ticks_before job.charges c) k began_k) (kernel_ran : HasRun (turns_for actors.Kernel (charge_at job.charges c)) began_k new_k) (heard : KnowsOf began_k old)
    (begins : HasSourceBegun (known_of (queue old) (calls k)) (released_of (queue old) (calls k)) old began) (ran : HasSourceRun budget began new) where
  adds_dates : AddsDates (source_thread job.program i) (places_for job.program i) (length (charges_in k.book)) (calls k) new_k.book.entries old.place.accepted new.place.accepted old.place.refused new.place.refused
  adds_dates =
      let here = queue_is job set i c old lay known seat was in
      let count = after.charges in
      let over : new.begun ≡ c + 1 = ran.begun ∙ (begins.begun ∙ ap (λ n. n + 1) was.begun) in record {
        looks = λ n p j u q same entry at.
            let late : slice_index (kernel_view began_k.seat).told.published u.0 ≤ p = timely_now kernel_ran n (Look u p) kernel_begins.entries entry in
            let told : (knows old).out ≤ slice_index (kernel_view began_k.seat).told.published u.0 = subst (λ t. (knows old).out ≤ slice_index (kernel_view began_k.seat).told.published t) (here ∙ sym same) heard in
            let less = listed_below old j q was.listed at in omega (arith, late, told, less);
        published = λ j q at. elim (listed_new job i c old began new budget (known_of (queue old) (calls k)) (released_of (queue old) (calls k)) was begins ran j q at) [
          | inl before ↦ inl before
          | inr now ↦ inr (now.0 ∙ sym count, subst (λ t. known_of t (calls k) ≤ q.position) here now.1)
        ];
        charges = λ j q at. let less = (ran.account.lists.published j q at).charge in omega (arith, less, over, count);
        declined = λ j d at. elim (refused_new job i c old began new budget (known_of (queue old) (calls k)) (released_of (queue old) (calls k)) was begins ran j d at) [
          | inl before ↦ inl before
          | inr now ↦ inr (now.0 ∙ sym count, subst (λ t. released_of t (calls k) + places_for job.program i ≤ d.position) here now.1)
        ];
        refusals = λ j d at. let less = (ran.account.lists.declined j d at).charge in omega (arith, less, over, count);
      }

  pub dated_on : IsJob job → AreDated job.program (source_thread job.program i) (places_for job.program i) (calls k) (charges_in k.book) old.place.accepted old.place.refused →
      AreDated job.program (source_thread job.program i) (places_for job.program i) (calls new_k) (charges_in new_k.book) new.place.accepted new.place.refused
  dated_on is_job dated =
      let grows = leads_behind began_k.program (turns_for actors.Kernel (charge_at job.charges c)) (kernel.place_of began_k) (kernel.place_of new_k) kernel_ran.leads in
      let more : calls new_k ≡ grows.0 ++ calls k = grows.1 ∙ ap (λ (l : List Call). grows.0 ++ l) kernel_begins.calls in
      let now = charges_now (charges_in k.book) new_k.book (kernel_ran.same.begun ∙ kernel_begins.begun) (kernel_ran.same.done ∙ kernel_begins.done) in
      subst (λ (l : List (List KernelEntry)). AreDated job.program (source_thread job.program i) (places_for job.program i) (calls new_k) l new.place.accepted new.place.refused) (sym now)
      (dates_on (source_thread job.program i) (places_for job.program i) (calls k) (charges_in k.book) new_k.book.entries old.place.accepted new.place.accepted old.place.refused new.place.refused adds_dates job.program (calls new_k)
      (λ events found. found_before events grows.0 (calls k) (subst (AreFound events) more found)) after.sees
      (λ events found. releases_are k events (source_thread job.program i) after.account after.ends found (let lt = is_job.accepted.sources i known in let e = ap (λ (p : Program). length p.threads) after.program in omega (arith, lt, e))) dated)

-- a source of a charge more
here_on : (job : JobParts) (set : QueueSet) (i c : ℕ) (k began_k new_k : kernel.Acting) (old began new : Acting) → i < length job.program.sources → c < length job.charges → IsJob job → IsLayOf job.program (lay_in set) → IsKernelAfter job c k →
    HasBegun (ticks_before job.charges c) k began_k → HasRun (turns_for actors.Kernel (charge_at job.charges c)) began_k new_k → KnowsOf began_k old → SourceBegins set k old began →
    SourceRuns set (turns_for (source i) (charge_at job.charges c)) began new → IsHereAfter job set i c k old → IsHereAfter job set i (c + 1) new_k new
here_on job set i c k began_k new_k old began new known lt is_job lay after kernel_begins kernel_ran heard begins ran here = record {
  seat = ran.seat;
  after = source_on job i c (known_of (queue old) (calls k)) (released_of (queue old) (calls k)) old began new lt here.after begins.begun ran.ran;
  dated = dated_on job set i c (turns_for (source i) (charge_at job.charges c)) k began_k new_k old began new known lay here.seat here.after after kernel_begins kernel_ran heard begins.begun ran.ran is_job here.dated;
}

-- a board of a charge more
pub board_on : (job : JobParts) (set : QueueSet) (c : ℕ) (charge : Charge) (sources began new : List Acting) (k began_k new_k : kernel.Acting) (clock began_clock new_clock : ClockActor) → c < length job.charges → charge ≡ charge_at job.charges c →
    AreChanged (SourceBegins set k) (length sources) sources began → HasBegun (ticks clock + charge.off) k began_k → KnowsOfAll began_k (length sources) sources →
    IsSameClockSeat clock.seat began_clock.seat → ticks began_clock ≡ ticks clock + charge.off → EachRuns set charge began new → KernelRuns set (turns_for actors.Kernel charge) began_k new_k → ClockRuns (turns_for actors.Clock charge) began_clock new_clock →
    IsBoardAfter job set c sources k clock → IsBoardAfter job set (c + 1) new new_k new_clock
board_on job set c charge sources began new k began_k new_k clock began_clock new_clock lt is begins kernel_begins heard same_clock added runs kernel_runs clock_runs was =
    let off = ap (λ (x : Charge). x.off) is in
    let ticks_now : ticks clock + charge.off ≡ ticks_before job.charges c = let passed = was.passed in let begun = ticks_begun job c lt in omega (arith, off, passed, begun) in
    let begins_at = subst (λ n. HasBegun n k began_k) ticks_now kernel_begins in
    let ran = subst (λ (x : Charge). HasRun (turns_for actors.Kernel x) began_k new_k) is kernel_runs.ran in record {
      is_job = was.is_job;
      lay = was.lay;
      number = runs.size ∙ (begins.size ∙ was.number);
      each = λ i a known.
          let sizes = runs.size in let size = begins.size in let number = was.number in
          here_on job set i c k began_k new_k (slice_index_or sources i a) (slice_index_or began i a) (slice_index_or new i a) (omega (arith, known, sizes, size, number)) lt was.is_job was.lay was.kernel_after begins_at ran
          (heard i a (omega (arith, known, sizes, size)) (omega (arith, known, sizes, size))) (begins.changed i a (omega (arith, known, sizes, size)) (omega (arith, known, sizes, size)))
          (subst (λ (x : Charge). SourceRuns set (turns_for (source i) x) (slice_index_or began i a) (slice_index_or new i a)) is (runs.each i a (omega (arith, known, sizes))))
          (was.each i a (omega (arith, known, sizes, size)));
      kernel_seat = kernel_runs.seat;
      kernel_after = kernel_on job c k began_k new_k lt was.kernel_after begins_at ran;
      clock_seat = (clock_runs.seat.place.table ∙ (same_clock.place.table ∙ was.clock_seat.0), clock_runs.seat.place.lay ∙ (same_clock.place.lay ∙ was.clock_seat.1));
      passed =
          let sum = clock_runs.sum in
          let turns = ap (turns_for actors.Clock) is in
          let over = ticks_over job c lt in omega (arith, sum, added, ticks_now, turns, over);
    }

-- what the next charge needs of the actors
pub board_of_set : (job : JobParts) (set : QueueSet) (c : ℕ) (sources : List Acting) (k : kernel.Acting) (clock : ClockActor) → IsBoardAfter job set c sources k clock → AreOfSet set sources
board_of_set job set c sources k clock was i a known =
    let here = was.each i a known in
    let at : i < length job.program.sources = let number = was.number in omega (arith, known, number) in record {
      seat = here.seat;
      queue = subst (λ t. t < length (lay_in set).queues) (sym (queue_is job set i c (slice_index_or sources i a) was.lay at here.seat here.after)) (let less = was.is_job.accepted.sources i at in let e = was.lay.queues in omega (arith, less, e));
    }

pub board_charges : (job : JobParts) (set : QueueSet) (c : ℕ) (sources : List Acting) (k : kernel.Acting) (clock : ClockActor) → c < length job.charges → IsBoardAfter job set c sources k clock → HaveCharges sources
board_charges job set c sources k clock lt was i a known = let begun = (was.each i a known).after.begun in let all = (was.each i a known).after.charges in omega (arith, begun, all, lt)

-- the charge at hand is the job's
pub charge_is : (job : JobParts) (charges : List Charge) (n : ℕ) (charge : Charge) → charges ≡ job.charges → n < length charges → charge ≡ slice_index_or charges n charge → charge ≡ charge_at job.charges n
charge_is job charges n charge same lt is =
    is ∙ (ap (λ (l : List Charge). slice_index_or l n charge) same ∙ same_inside job.charges n charge no_charge (let size = ap length same in omega (arith, lt, size)))

-- the kernel can make the accesses of its turns
pub kernel_can : (job : JobParts) (set : QueueSet) (c passed : ℕ) (charge : Charge) (k began : kernel.Acting) → c < length job.charges → charge ≡ charge_at job.charges c → IsKernelAfter job c k → HasBegun passed k began → IsKernelSeatOf set began.seat →
    KernelCanRun set (turns_for actors.Kernel charge) began
kernel_can job set c passed charge k began lt is after begins seat =
    let turns = ap (turns_for actors.Kernel) is in record {
      seat = seat;
      begun = begins.begun;
      left = let split = turns_split job c lt in let left = after.left in let same = begins.beside.left in omega (arith, turns, split, left, same);
      room = let room = room_next job c began.book.spare k.book.rooms began.book.rooms after.rooms begins.rooms in omega (arith, turns, room);
    }

-- the clock can go on by the ticks in the dark
pub dark_fits : (job : JobParts) (c : ℕ) (charge : Charge) (clock : ClockActor) → c < length job.charges → charge ≡ charge_at job.charges c → IsJob job → ticks clock ≡ dark_ticks (take c job.charges) + lit_ticks (take c job.charges) → ticks clock + charge.off < 2 ^ 47
dark_fits job c charge clock lt is is_job passed =
    let off = ap (λ (x : Charge). x.off) is in
    let begun = ticks_begun job c lt in
    let most = ticks_in job c is_job in omega (arith, off, begun, most, passed)

-- and by those of its turns
pub clock_can : (job : JobParts) (set : QueueSet) (c : ℕ) (charge : Charge) (clock began : ClockActor) → c < length job.charges → charge ≡ charge_at job.charges c → IsJob job → ticks clock ≡ dark_ticks (take c job.charges) + lit_ticks (take c job.charges) →
    IsClockSeatOf set clock.seat → IsSameClockSeat clock.seat began.seat → ticks began ≡ ticks clock + charge.off → ClockCanRun set (turns_for actors.Clock charge) began
clock_can job set c charge clock began lt is is_job passed seat same added = record {
  seat = (same.place.table ∙ seat.0, same.place.lay ∙ seat.1);
  sum =
      let off = ap (λ (x : Charge). x.off) is in
      let turns = ap (turns_for actors.Clock) is in
      let begun = ticks_begun job c lt in
      let over = ticks_over job c lt in
      let most = ticks_so_far job (c + 1) is_job in omega (arith, off, turns, begun, over, most, passed, added);
}
