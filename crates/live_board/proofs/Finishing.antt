-- The record of a board whose charges are over is right.
use Rattle.std.proofs.Common.{◌≡◌, ◌⊎◌, inl, inr, ℕ, ◌+◌, ◌-◌, ◌/◌, ◌%◌, ◌^◌, ◌<◌, ◌≤◌, Bool, true, List, [], ◌∷◌, length, map, take, refl, sym, ap, ◌∙◌, subst, arith, Option, Some, None}
use Rattle.std.specs.Prelude.{slice_index, slice_index_or}
use mathlib.Core.Option.{some, some-ne-none}
use lib.ListN.{get_elem?}
use Rattle.std.proofs.lemmas.List.{length-map}
use Rattle.event_queue.proofs.Basics.{at_get, below, element, same_element}
use Rattle.ink_base.specs.declared.accept.Accept.{Accept}
use Rattle.ink_base.specs.declared.event.Event.{Event}
use Rattle.task_isa.specs.declared.program.Program.{Program}
use Rattle.prog_check.specs.Lookup.{source_thread}
use Rattle.never_cut.specs.declared.model.Model.{Model}
use Rattle.never_cut.specs.Commit.{is_of_queue}
use Rattle.never_cut.specs.Pending.{pending}
use Rattle.never_cut.specs.State.{thread_of}
use Rattle.job_parts.specs.Job.{JobParts}
use Rattle.kernel_account.specs.Account.{AccountLegal, IsAccount}
use Rattle.kernel_account.specs.declared.entry.KernelEntry.{KernelEntry}
use Rattle.kernel_account.specs.declared.entry.KernelEntry.TheVariants.{Scan, Look, Commit, Release}
use Rattle.event_queue.specs.declared.set.QueueSet.{QueueSet}
use Rattle.event_queue.specs.declared.view.Call.{Call}
use Rattle.event_queue.specs.Calls.{clock_of, mine_of, released_of, seen_of, sum_of}
use Rattle.event_queue.specs.Events.{Entry, full}
use Rattle.event_queue.specs.Finishes.{Finished}
use Rattle.event_queue.specs.Places.{Ack, word_at}
use Rattle.event_queue.specs.Seats.{IsSeatOf, clock_view, kernel_view, lay_in, view}
use Rattle.event_queue.specs.declared.seat.KernelSeat.{KernelSeat}
use Rattle.event_queue.specs.declared.seat.SourceSeat.{SourceSeat}
use Rattle.event_queue.specs.Views.{calls_of, known_of, known_published}
use Rattle.irq_source.specs.Acting.{Acting, knows}
use Rattle.irq_source.specs.Known.{settled_of}
use Rattle.irq_source.specs.Pace.{enough_for}
use Rattle.ink_base.specs.declared.ids.ThreadId.{ThreadId}
use Rattle.irq_source.specs.declared.lists.Published.{Published}
use Rattle.irq_source.specs.declared.lists.Declined.{Declined}
use Rattle.kernel_actor.specs.Accounts.{AreFound, IsAccountOf}
use Rattle.kernel_actor.specs.Ends.{EndsAs}
use Rattle.kernel_actor.specs.Acting as kernel
use Rattle.kernel_actor.specs.Books.{charges_in}
use Rattle.kernel_actor.specs.declared.clock.ClockActor.{ClockActor}
use Rattle.live_account.specs.declared.record.LiveRecord.{LiveRecord}
use Rattle.live_account.specs.Kernel.{AreInTime, IsInTime, PassesNone, ServesInTime, events_in, opened}
use Rattle.live_account.specs.Matches.{AreOf, accept_of, event_of}
use Rattle.live_account.specs.Queues.{WasAccepted, accepted_in, charges_in as dates_in, events_from, places_for}
use Rattle.live_account.specs.Record.{IsLiveRecord}
use Rattle.live_account.specs.Turns.{all_ticks, charge_at, dark_ticks, lit_ticks, source, ticks_before, turns_for}
use Rattle.live_account.specs.Kernel as accounts
use Rattle.live_board.specs.kept.Boards.{IsBoardAfter, IsHereAfter}
use Rattle.live_board.specs.kept.Ends.{IsLeftAt, AreLeft, AreOver, IsFinish}
use Rattle.live_board.specs.kept.Kernels.{calls, IsEntry, SeesAll, ScansInTime}
use Rattle.live_board.specs.kept.Dates.{AreDated}
use Rattle.live_board.specs.kept.Runs.{ticks}
use Rattle.live_board.specs.kept.Sources.{SettledIn}
use Rattle.live_board.proofs.Scans.{legal_at, scans_until}
use Rattle.live_words.specs.Ends.{EveryEnd, IsLeft, IsTold, ComesOut}
use Rattle.queue_lists.specs.Accounts.{source_with}
use Rattle.queue_lists.specs.Ends.{IsEndOf, IsGathered, PublishInTurns, RefuseInTurns}
use Rattle.queue_lists.specs.Ends.{SettlesInTime as ListsSettle}
use Rattle.queue_lists.specs.Laws.{AreEnds, IsNumbered}
use Rattle.queue_lists.specs.Lists.{Lists, lists_at}
use Rattle.queue_lists.proofs.Placed.{placed, is_numbered, is_of_entries, are_events}
use Rattle.queue_lists.proofs.Queues.{every_list_tells}
use Rattle.queue_lists.proofs.Settling.{are_refusals, settles}
use Rattle.std.proofs.lemmas.List.{take_all}

-- the actor of an end is a source
abbrev some_actor : {job : JobParts} {set : QueueSet} {sources : List Acting} {k : kernel.Acting} {clock : ClockActor} (f : AreOver job set sources k clock) (i : ℕ) → i < length job.program.sources → Acting
some_actor {sources = sources} f i known = (element sources i (let number = f.board.number in omega (arith, known, number))).0

module _ {job : JobParts} {set : QueueSet} {sources : List Acting} {k : kernel.Acting} {clock : ClockActor} (f : AreOver job set sources k clock) where
  pub here : (i : ℕ) (a : Acting) → i < length job.program.sources → IsHereAfter job set i (length job.charges) k (slice_index_or sources i a)
  here i a known = f.board.each i a (let number = f.board.number in omega (arith, known, number))

  pub left_at : (i : ℕ) (a : Acting) → i < length job.program.sources → IsLeftAt (slice_index_or sources i a) i f.seats f.srcs f.lists
  left_at i a known = f.left.each i a (let number = f.board.number in omega (arith, known, number))

  abbrev end_of : (i : ℕ) (known : i < length job.program.sources) → IsEndOf job (lay_in set) f.seats i (slice_index f.srcs i) (lists_at f.lists i)
  end_of i known =
      let a = slice_index_or sources i (some_actor f i known) in
      let at = here i (some_actor f i known) known in
      let left = left_at i (some_actor f i known) known in record {
        actor = a;
        account = left.account;
        few = left.few;
        readings = at.after.readings;
        begun = at.after.begun;
        source = at.after.source;
        board = at.seat.1;
        place = i;
        seat = left.seat;
        src_is = sym left.src;
        lists_are = sym left.listed;
      }

  abbrev pub ends : AreEnds job f.srcs f.lists
  ends = record {
    lay = lay_in set;
    words = f.closed;
    kernel = kernel_view k.seat;
    clock = clock_view clock.seat;
    seats = f.seats;
    finished = f.finished;
    ends = record {
      queues = f.board.lay.queues;
      sources = f.board.lay.sources;
      queue = f.board.lay.queue;
      number = f.left.lists_count ∙ f.board.number;
      each = end_of;
    };
  }

-- the seats that are left are those of the set
pub seats_of : (job : JobParts) (set : QueueSet) (sources : List Acting) (k : kernel.Acting) (clock : ClockActor) (seats : List SourceSeat) (srcs : List ℕ) (lists : List Lists) → IsBoardAfter job set (length job.charges) sources k clock →
    AreLeft (length sources) sources seats srcs lists → (n : ℕ) (d : SourceSeat) → n < length seats → IsSeatOf set (slice_index_or seats n d)
seats_of job set sources k clock seats srcs lists board left n d lt =
    let known : n < length sources = let size = left.seats_count in omega (arith, lt, size) in
    let a = (element sources n known).0 in
    let same = same_element seats n (slice_index_or seats n d) (slice_index_or sources n a).seat (at_get seats n d lt) (left.each n a known).seat in
    subst (IsSeatOf set) (sym same) (board.each n a known).seat

-- what is left of a board, by the parts of its actors
abbrev pub over_of : (job : JobParts) (set : QueueSet) (sources : List Acting) (k : kernel.Acting) (clock : ClockActor) (seat : KernelSeat) (seats : List SourceSeat) (srcs : List ℕ) (lists : List Lists) (closed : List ℕ) →
    IsBoardAfter job set (length job.charges) sources k clock → AreLeft (length sources) sources seats srcs lists → seat ≡ k.seat → Finished (lay_in set) closed (kernel_view seat) (clock_view clock.seat) seats → AreOver job set sources k clock
over_of job set sources k clock seat seats srcs lists closed board left same finished = record {
  board = board;
  seats = seats;
  srcs = srcs;
  lists = lists;
  left = left;
  closed = closed;
  finished = subst (λ (s : KernelSeat). Finished (lay_in set) closed (kernel_view s) (clock_view clock.seat) seats) same finished;
}

-- Event q of thread t's queue, which was accepted in charge d, was published by one of its sources in this charge.
record FromSourceOf {job : JobParts} {set : QueueSet} {sources : List Acting} {k : kernel.Acting} {clock : ClockActor} {r : LiveRecord} (f : IsFinish job set sources k clock r) (t q d : ℕ) : Type 0 where
  number : ℕ
  known : number < length job.program.sources
  queue : source_thread job.program number ≡ t
  place : ℕ
  listed : Published
  at : get_elem? (slice_index_or sources number (some_actor f.over number known)).place.accepted place ≡ some listed
  position : listed.position ≡ q
  charge : listed.charge ≡ d

module _ {job : JobParts} {set : QueueSet} {sources : List Acting} {k : kernel.Acting} {clock : ClockActor} {r : LiveRecord} (f : IsFinish job set sources k clock r) where
  gathered : IsGathered job r f.over.srcs f.over.lists
  gathered = record { gathered = f.gathered; words = f.words.srcs_same }

  -- the kernel's calls are those of the set
  kernel_calls : f.over.finished.calls.kernel ≡ calls k
  kernel_calls = f.over.finished.kernel_is

  events_are : (t : ℕ) → t < length job.program.threads → events_in r t ≡ map event_of (f.over.finished.entries t)
  events_are t there = every_list_tells (lay_in set) f.over.closed (kernel_view k.seat) (clock_view clock.seat) f.over.seats f.over.finished t (accepted_in r t) (is_of_entries (ends f.over) gathered t there)

  -- the lists of source i are those that its actor leaves
  listed_is : (i : ℕ) (a : Acting) → i < length job.program.sources → ((lists_at f.over.lists i).accepted ≡ (slice_index_or sources i a).place.accepted) × ((lists_at f.over.lists i).refused ≡ (slice_index_or sources i a).place.refused)
  listed_is i a known = let is = (left_at f.over i a known).listed in (ap (λ (l : Lists). l.accepted) is, ap (λ (l : Lists). l.refused) is)

  -- what SRC, ACK and the events tell of source i
  told : (i : ℕ) → i < length job.program.sources → IsTold job r (calls k) (f.over.finished.calls.source i) i (slice_index f.over.srcs i) (word_at (lay_in set) f.over.closed (Ack i))
  told i known =
      let n : IsNumbered job r (calls k) (f.over.finished.calls.source i) i (slice_index f.over.srcs i) (word_at (lay_in set) f.over.closed (Ack i)) =
      subst (λ (l : List Call). IsNumbered job r l (f.over.finished.calls.source i) i (slice_index f.over.srcs i) (word_at (lay_in set) f.over.closed (Ack i))) kernel_calls (is_numbered (ends f.over) gathered i known) in record {
        numbers = n.tells.numbers;
        stands = n.tells.stands;
        published = n.published;
        ordered = n.within.ordered;
        within = n.within.within;
      }

  all_passed : sum_of (calls_of (clock_view clock.seat)) ≡ all_ticks job.charges
  all_passed = f.over.board.passed ∙ (λ j. dark_ticks (take_all (length job.charges) job.charges (omega arith) j) + lit_ticks (take_all (length job.charges) job.charges (omega arith) j))

  -- the kernel's account is that of the record
  account : IsAccountOf job.program (calls k) r.kernel
  account = subst (λ (z : Program × List (List KernelEntry)). IsAccountOf z.0 (calls k) z.1) (λ j. (f.over.board.kernel_after.program j, sym f.kernel j)) f.over.board.kernel_after.account

  state : EndsAs job.program k.words (calls k) r.kernel
  state = subst (λ (z : Program × List (List KernelEntry)). EndsAs z.0 k.words (calls k) z.1) (λ j. (f.over.board.kernel_after.program j, sym f.kernel j)) f.over.board.kernel_after.ends

  abbrev left : IsLeft job r
  left = record {
    is_job = f.over.board.is_job;
    lay = lay_in set;
    is_lay = f.over.board.lay;
    own = k.words;
    closed = f.over.closed;
    srcs = f.over.srcs;
    words = f.words;
    kernel = kernel_view k.seat;
    clock = clock_view clock.seat;
    seats = f.over.seats;
    finished = f.over.finished;
    ends = state;
    account = account;
    events = events_are;
    sources = told;
    ticks = all_passed;
  }

  -- no more positions are known to the kernel than events were accepted
  known_few : (t : ℕ) → known_of t (calls k) ≤ length (f.over.finished.entries t)
  known_few t = subst (λ (l : List Call). known_of t l ≤ length (f.over.finished.entries t)) kernel_calls (by_seen (seen_of t f.over.finished.calls.kernel) (λ w is. let e = f.over.finished.kept.kernel.seen t w is in below (f.over.finished.entries t) (released_of t f.over.finished.calls.kernel) e.0 e.1))
    where
      by_seen : (o : Option ℕ) → ((w : ℕ) → o ≡ Some w → released_of t f.over.finished.calls.kernel < length (f.over.finished.entries t)) → known_published o (released_of t f.over.finished.calls.kernel) ≤ length (f.over.finished.entries t)
      by_seen None h = (f.over.finished.kept.queues t).behind
      by_seen (Some w) h = let lt = h w refl in omega (arith, lt)

  size : (t : ℕ) → t < length job.program.threads → length (accepted_in r t) ≡ length (f.over.finished.entries t)
  size t there = ap length (is_of_entries (ends f.over) gathered t there) ∙ length-map (f.over.finished.entries t) accept_of

  -- each source publishes in its turns
  turns_at : (i : ℕ) (known : i < length job.program.sources) → PublishInTurns job i (lists_at f.over.lists i)
  turns_at i known n p at = (here f.over i (some_actor f.over i known) known).after.turns.published n p (subst (λ (l : List Published). get_elem? l n ≡ some p) (listed_is i (some_actor f.over i known) known).0 at)

  -- the position of an accepted event is one of its queue
  dated_below : (t q d : ℕ) → t < length job.program.threads → WasAccepted r t q d → q < length (accepted_in r t)
  dated_below t q d there was = let lt = below (dates_in r t) q d was in let same = (are_events (ends f.over) gathered turns_at t there).dated in omega (arith, lt, same)

  -- an event that was accepted at a position is a published reading of a source of the queue
  from_source : (t q d : ℕ) → t < length job.program.threads → q < length (accepted_in r t) → WasAccepted r t q d → FromSourceOf f t q d
  from_source t q d there lt was =
      let x = element (f.over.finished.entries t) q (let same = size t there in omega (arith, lt, same)) in
      let p = placed (ends f.over) gathered t there q x.0 x.1 in record {
        number = x.0.source;
        known = p.known;
        queue = p.queue;
        place = p.number;
        listed = p.listed;
        at = subst (λ (l : List Published). get_elem? l p.number ≡ some p.listed) (listed_is x.0.source (some_actor f.over x.0.source p.known) p.known).0 p.at;
        position = p.position;
        charge = same_element (dates_in r t) q p.listed.charge d p.date was;
      }

  dated_at : (i : ℕ) (a : Acting) → i < length job.program.sources →
      AreDated job.program (source_thread job.program i) (places_for job.program i) (calls k) r.kernel (slice_index_or sources i a).place.accepted (slice_index_or sources i a).place.refused
  dated_at i a known = subst (λ (l : List (List KernelEntry)). AreDated job.program (source_thread job.program i) (places_for job.program i) (calls k) l (slice_index_or sources i a).place.accepted (slice_index_or sources i a).place.refused) (sym f.kernel) (here f.over i a known).dated

  refused_at : AreFound (events_in r) (calls k) → (i : ℕ) (known : i < length job.program.sources) → RefuseInTurns job r.kernel i (lists_at f.over.lists i)
  refused_at found i known n d at =
      let mine = subst (λ (l : List Declined). get_elem? l n ≡ some d) (listed_is i (some_actor f.over i known) known).1 at in record {
        charge = (here f.over i (some_actor f.over i known) known).after.turns.declined n d mine;
        released = (dated_at i (some_actor f.over i known) known).refuses (events_in r) found n d mine;
      }

  in_time_at : (i : ℕ) (known : i < length job.program.sources) → ListsSettle job i (slice_index f.over.srcs i) (knows (end_of f.over i known).actor) (lists_at f.over.lists i)
  in_time_at i known c m n others lt others_known enough less there =
      let a = slice_index_or sources i (some_actor f.over i known) in
      let at = (here f.over i (some_actor f.over i known) known).after in
      let listed = listed_is i (some_actor f.over i known) known in
      let settled = at.settles c m others n lt (subst (λ p. enough_for p others m ≤ turns_for (source i) (charge_at job.charges c)) (sym at.places) enough) others_known less (subst (λ (l : List ℕ). n < length l) (sym at.readings) there) in (
        subst (λ s. n < settled_of s (knows a)) (sym (left_at f.over i (some_actor f.over i known) known).src) settled.0,
        subst (λ (z : List Published × List Declined). SettledIn z.0 z.1 n c) (λ j. (sym listed.0 j, sym listed.1 j)) settled.1,
      )

  -- a look passed over nothing
  look_in_time : AreFound (events_in r) (calls k) → (c n : ℕ) (t : ThreadId) (p : ℕ) → IsEntry r.kernel c n (Look t p) → t.0 < length job.program.threads → PassesNone r c t.0 p
  look_in_time found c n t p entry there = record {
    known =
        let sees = subst (λ (l : List (List KernelEntry)). SeesAll job.program (calls k) l) (sym f.kernel) f.over.board.kernel_after.sees in
        let at : p ≤ known_of t.0 (calls k) = sees (events_in r) found c n (Look t p) entry in
        let few = known_few t.0 in let same = size t.0 there in omega (arith, at, few, same);
    later = λ q d le was.
        let from = from_source t.0 q d there (dated_below t.0 q d there was) was in
        let less = (dated_at from.number (some_actor f.over from.number from.known) from.known).looks c n p from.place t from.listed (sym from.queue) entry from.at (let e = from.position in omega (arith, le, e)) in
        let charge = from.charge in omega (arith, less, charge);
  }

  commit_in_time : AreFound (events_in r) (calls k) → (c n : ℕ) (t : ThreadId) → IsEntry r.kernel c n (Commit t) → t.0 < length job.program.threads → ServesInTime job.program r c t.0 (accounts.state_at job.program r c n)
  commit_in_time found c n t entry there e serves queued d was =
      let q = (thread_of (accounts.state_at job.program r c n) t.0).released in
      let from = from_source t.0 q d there (dated_below t.0 q d there was) was in
      let queue = from.queue in
      let less = (dated_at from.number (some_actor f.over from.number from.known) from.known).serves (events_in r) found c n from.place t e from.listed (sym queue) entry
      (subst (λ u. pending job.program (accounts.state_at job.program r c n) u ≡ Some e) (sym queue) serves) queued from.at (from.position ∙ ap (λ u. (thread_of (accounts.state_at job.program r c n) u).released) (sym queue)) in
      let charge = from.charge in omega (arith, less, charge)

  scan_in_time : IsAccount job.program (opened job.program r) r.kernel → AreFound (events_in r) (calls k) → (c n clock_then : ℕ) → IsEntry r.kernel c n (Scan clock_then) → (ticks_before job.charges c ≤ clock_then) × (clock_then ≤ all_ticks job.charges)
  scan_in_time legal found c n clock_then entry = (
    subst (λ (l : List (List KernelEntry)). ScansInTime job l) (sym f.kernel) f.over.board.kernel_after.scans c n clock_then entry,
    (
        let until = scans_until job.program (opened job.program r) r.kernel c n clock_then legal entry in
        let beside = (state.beside (events_in r) found).clock in
        let loaded = f.over.finished.kept.clock.loaded in
        let sum = f.over.finished.kept.clock.sum in
        let seen = state.clock in
        let all = all_passed in
        let additions = ap sum_of f.over.finished.clock_is in
        let mine = ap clock_of kernel_calls in omega (arith, until, beside, loaded, sum, seen, all, additions, mine)
        ),
  )

  in_time : IsAccount job.program (opened job.program r) r.kernel → AreFound (events_in r) (calls k) → AreInTime job r
  in_time legal found c n e entry = by_entry e entry (legal_at job.program (opened job.program r) r.kernel c n e legal entry)
    where
      by_entry : (x : KernelEntry) → IsEntry r.kernel c n x → AccountLegal job.program (accounts.state_at job.program r c n) x → IsInTime job r c (accounts.state_at job.program r c n) x
      by_entry (Scan clock_then) at may = scan_in_time legal found c n clock_then at
      by_entry (Look t p) at may = look_in_time found c n t p at may.0
      by_entry (Commit t) at may = commit_in_time found c n t at may.0
      by_entry (Release t) at may = tt

  -- the record is right
  pub is_live_record : EveryEnd → IsLiveRecord job r
  is_live_record every =
      let comes : ComesOut job r (calls k) = every job r left in record {
        job_is = f.job_is;
        queues = f.gathered.events.queues;
        events = are_events (ends f.over) gathered turns_at;
        refusals = are_refusals (ends f.over) gathered (refused_at comes.found);
        sources = λ i known. settles (ends f.over) gathered i known (in_time_at i known);
        charges = ap length f.kernel ∙ f.over.board.kernel_after.charges;
        legal = comes.legal;
        in_time = in_time comes.legal comes.found;
        ends = comes.ends;
      }
