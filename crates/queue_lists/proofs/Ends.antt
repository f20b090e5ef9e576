-- What the closed set of queues and the accounts of its sources tell of their lists.
use Rattle.std.proofs.Common.{◌≡◌, inl, inr, ℕ, zero, suc, ◌/◌, ◌%◌, ◌^◌, ◌<◌, ◌≤◌, ◌==◌, max, Bool, cond, true, false, List, [], map, slice_index, length, refl, sym, ap, ◌∙◌, subst, arith, eq-eqb, eqb-true}
use Rattle.std.proofs.lemmas.Bool.{cases_lt}
use Rattle.std.proofs.lemmas.List.{length-map}
use mathlib.Core.Option.{some, some-ne-none}
use lib.ListN.{get_elem?}
use Rattle.task_isa.specs.declared.program.Program.{Program}
use Rattle.prog_check.specs.Lookup.{source_thread}
use Rattle.never_cut.specs.Entries.{readings_of}
use Rattle.job_parts.specs.Job.{JobParts}
use Rattle.event_queue.specs.Calls.{Knows, Won, knows_of, mine_of, next_of, published_of}
use Rattle.event_queue.specs.Events.{Entry}
use Rattle.event_queue.specs.Rule.{published_into}
use Rattle.event_queue.specs.Seats.{view}
use Rattle.event_queue.specs.Views.{calls_of, places_of, queue_of}
use Rattle.event_queue.proofs.Basics.{below, max_le, same_element}
use Rattle.irq_source.specs.declared.lists.Published.{Published}
use Rattle.irq_source.specs.Account.{IsWithin, publication}
use Rattle.irq_source.specs.Acting.{knows}
use Rattle.irq_source.specs.Known.{settled_of}
use Rattle.irq_source.proofs.Accounts.{told_within}
use Rattle.irq_source.proofs.Basics.{at_map}
use Rattle.queue_lists.specs.Accounts.{KeepsSrc, source_with}
use Rattle.queue_lists.specs.Gathers.{HavePlaces, HaveRoom, refusals_of}
use Rattle.queue_lists.specs.Laws.{AreEnds}
use Rattle.queue_lists.specs.Lists.{Lists, lists_at, no_lists, sum_below, accepted_into, events_into, all_into}
use Rattle.queue_lists.specs.Rooms.{IsRoomOf, Rooms, readings_for, readings_into, refusals_from, refusals_room}
use Rattle.queue_lists.specs.Tellings.{IsAccountOver, TellsReadings}
use Rattle.queue_lists.proofs.Elements.{get_past}
use Rattle.queue_lists.proofs.Gathering.{refusals_number}
use Rattle.queue_lists.proofs.Queues.{every_account_tells}
use Rattle.queue_lists.proofs.Sums.{sum_le}
use Rattle.queue_lists.proofs.Tellings.{settled_is}

-- what SRC has of a source's publications, for what follows from the same calls
pub same_src : (number src : ℕ) (s s' : Knows) → s'.mine ≡ s.mine → s'.next ≡ s.next → KeepsSrc number src s → KeepsSrc number src s'
same_src number src s s' mine next h =
    let as_many = ap length mine in
    record {
      ordered = h.ordered;
      within = h.within;
      least = omega (arith, h.least, as_many);
      most = omega (arith, h.most, as_many);
      settled = λ all. let last = h.settled (sym as_many ∙ all) in omega (arith, last, next);
      behind = λ one. let last = h.behind (sym as_many ∙ one) in (next ∙ last.0, last.1);
    }

-- a list that is taken or not
as_long : {A : Type 0} (b : Bool) (xs : List A) → length (cond {A = List A} b xs []) ≡ cond {A = ℕ} b (length xs) 0
as_long true xs = refl
as_long false xs = refl

taken : {A : Type 0} (b : Bool) (xs : List A) (n : ℕ) (x : A) → get_elem? (cond {A = List A} b xs []) n ≡ some x → (b ≡ true) × (get_elem? xs n ≡ some x)
taken true xs n x at = (refl, at)
taken false xs n x at = absurd (some-ne-none x (sym at))

as_few : (b : Bool) (m n : ℕ) → m ≤ n → cond {A = ℕ} b m 0 ≤ cond {A = ℕ} b n 0
as_few true m n le = le
as_few false m n le = omega arith

-- of a source's events in thread t's queue: it feeds the thread, and they are its published readings
pub is_into : (program : Program) (lists : List Lists) (t i n : ℕ) (p : Published) → get_elem? (accepted_into program lists t i) n ≡ some p →
    (source_thread program i ≡ t) × (get_elem? (lists_at lists i).accepted n ≡ some p) × (i < length lists)
is_into program lists t i n p at =
    let is = taken (source_thread program i == t) (lists_at lists i).accepted n p at in (
      eqb-true (source_thread program i) t is.0,
      is.1,
      elim (cases_lt i (length lists)) [
        | inl lt ↦ lt
        | inr past ↦ absurd (some-ne-none p (sym (subst (λ (l : Lists). get_elem? l.accepted n ≡ some p) (get_past lists i no_lists past) is.1)))
      ],
    )

pub into_own : (program : Program) (lists : List Lists) (t i : ℕ) → source_thread program i ≡ t → accepted_into program lists t i ≡ (lists_at lists i).accepted
into_own program lists t i is = ap (λ (b : Bool). cond {A = List Published} b (lists_at lists i).accepted []) (eq-eqb (source_thread program i) t is)

module _ {job : JobParts} {srcs : List ℕ} {lists : List Lists} (e : AreEnds job srcs lists) where
  -- the source's calls are those of the seat that it leaves
  pub calls_are : (i : ℕ) (known : i < length job.program.sources) → e.finished.calls.source i ≡ calls_of (view (e.ends.each i known).actor.seat)
  calls_are i known =
      let end = e.ends.each i known in
      ap e.finished.calls.source (sym end.source) ∙ e.finished.source_is end.place end.actor.seat end.seat

  -- what it knows to be published is published
  pub out_is : (i : ℕ) (known : i < length job.program.sources) → (knows (e.ends.each i known).actor).out ≤ length (e.finished.entries (queue_of e.lay i))
  out_is i known =
      let end = e.ends.each i known in
      let told = (view end.actor.seat).told.published in
      let same : (knows end.actor).out ≡ max (slice_index told (queue_of e.lay i)) (published_of (places_of e.lay (queue_of e.lay i)) (e.finished.calls.source i)) =
      λ j. max (slice_index told (queue_of (end.board j) (end.source j))) (published_of (places_of (end.board j) (queue_of (end.board j) (end.source j))) (sym (calls_are i known) j)) in
      let few = max_le (slice_index told (queue_of e.lay i)) (published_of (places_of e.lay (queue_of e.lay i)) (e.finished.calls.source i)) (length (e.finished.entries (queue_of e.lay i)))
      ((e.finished.source_told end.place end.actor.seat end.seat).published (queue_of e.lay i)) (e.finished.kept.sources i).out in
      omega (arith, same, few)

  -- its account is over, in the queue of the board
  account_over : (i : ℕ) (known : i < length job.program.sources) →
      IsAccountOver (e.finished.entries (queue_of e.lay i)) (e.finished.calls.source i) (e.ends.each i known).actor.port.queue.places (length job.charges) (slice_index srcs i)
      (readings_of job.readings i) (lists_at lists i).accepted (lists_at lists i).refused
  account_over i known =
      let end = e.ends.each i known in
      let own : IsAccountOver (e.finished.entries (queue_of e.lay i)) (e.finished.calls.source i) end.actor.port.queue.places end.actor.begun end.actor.place.src end.actor.readings end.actor.place.accepted end.actor.place.refused =
      record { knows = knows end.actor; lists = end.account.lists; src_kept = end.account.src; mine = ap mine_of (sym (calls_are i known)); out = out_is i known } in
      subst (λ (z : ℕ × ℕ × List ℕ × Lists). IsAccountOver (e.finished.entries (queue_of e.lay i)) (e.finished.calls.source i) end.actor.port.queue.places z.0 z.1 z.2 z.3.accepted z.3.refused)
      (λ j. (end.begun j, end.src_is j, end.readings j, end.lists_are j)) own

  -- and in that of the program
  pub every_account : (i : ℕ) (known : i < length job.program.sources) →
      IsAccountOver (e.finished.entries (source_thread job.program i)) (e.finished.calls.source i) (e.ends.each i known).actor.port.queue.places (length job.charges) (slice_index srcs i)
      (readings_of job.readings i) (lists_at lists i).accepted (lists_at lists i).refused
  every_account i known =
      subst (λ (t : ℕ). IsAccountOver (e.finished.entries t) (e.finished.calls.source i) (e.ends.each i known).actor.port.queue.places (length job.charges) (slice_index srcs i) (readings_of job.readings i) (lists_at lists i).accepted (lists_at lists i).refused)
      (e.ends.queue i known) (account_over i known)

  pub tells : (i : ℕ) (known : i < length job.program.sources) →
      TellsReadings (e.finished.entries (source_thread job.program i)) i (e.ends.each i known).actor.port.queue.places (length job.charges)
      (source_with (slice_index srcs i) (length (mine_of (e.finished.calls.source i)))).next (readings_of job.readings i) (lists_at lists i).accepted (lists_at lists i).refused
  tells i known =
      subst (λ (t : ℕ). TellsReadings (e.finished.entries t) i (e.ends.each i known).actor.port.queue.places (length job.charges)
      (source_with (slice_index srcs i) (length (mine_of (e.finished.calls.source i)))).next (readings_of job.readings i) (lists_at lists i).accepted (lists_at lists i).refused)
      (e.ends.queue i known) (every_account_tells e.lay e.words e.kernel e.clock e.seats e.finished i _ _ _ _ _ _ (account_over i known))

  -- what SRC has of its publications
  pub keeps_src : (i : ℕ) (known : i < length job.program.sources) → KeepsSrc (length (readings_of job.readings i)) (slice_index srcs i) (knows_of (places_of e.lay (queue_of e.lay i)) (e.finished.calls.source i))
  keeps_src i known =
      let end = e.ends.each i known in
      let calls = knows_of (places_of e.lay (queue_of e.lay i)) (e.finished.calls.source i) in
      subst (λ (z : ℕ × ℕ). KeepsSrc z.0 z.1 calls) (λ j. (length (end.readings j), end.src_is j))
      (same_src (length end.actor.readings) end.actor.place.src (knows end.actor) calls (ap mine_of (calls_are i known)) (ap next_of (calls_are i known)) end.account.src)

  -- what it has settled, by its SRC and its publications
  pub settled_next : (i : ℕ) (known : i < length job.program.sources) → settled_of (slice_index srcs i) (knows (e.ends.each i known).actor) ≡ (source_with (slice_index srcs i) (length (mine_of (e.finished.calls.source i)))).next
  settled_next i known =
      (λ j. max (slice_index srcs i / 2 ^ 32) (next_of (sym (calls_are i known) j)))
      ∙ settled_is (length (readings_of job.readings i)) (slice_index srcs i) (knows_of (places_of e.lay (queue_of e.lay i)) (e.finished.calls.source i)) (keeps_src i known)

  -- its published readings are its publications
  pub published_are : (i : ℕ) (known : i < length job.program.sources) → map publication (lists_at lists i).accepted ≡ mine_of (e.finished.calls.source i)
  published_are i known = let a = account_over i known in a.lists.mine ∙ a.mine

  pub published_number : (i : ℕ) (known : i < length job.program.sources) → length (lists_at lists i).accepted ≡ length (mine_of (e.finished.calls.source i))
  published_number i known = sym (length-map (lists_at lists i).accepted publication) ∙ ap length (published_are i known)

  pub within : (i : ℕ) (known : i < length job.program.sources) → IsWithin (length (readings_of job.readings i)) (slice_index srcs i) (length (mine_of (e.finished.calls.source i)))
  within i known =
      let a = account_over i known in
      subst (λ (ms : List Won). IsWithin (length (readings_of job.readings i)) (slice_index srcs i) (length ms)) a.mine (told_within (length (readings_of job.readings i)) (slice_index srcs i) a.knows a.src_kept)

  -- as many events of a queue as its sources have published
  count_to : (t n : ℕ) → n ≤ length job.program.sources → published_into e.lay e.finished.calls.source t n ≡ events_into job.program lists t n
  count_to t zero le = refl
  count_to t (suc n) le =
      let known : n < length job.program.sources = omega arith in
      let rest = count_to t n (omega arith) in
      let one : cond {A = ℕ} (queue_of e.lay n == t) (length (mine_of (e.finished.calls.source n))) 0 ≡ length (accepted_into job.program lists t n) =
      (λ j. cond {A = ℕ} (e.ends.queue n known j == t) (sym (published_number n known) j) 0) ∙ sym (as_long (source_thread job.program n == t) (lists_at lists n).accepted) in
      omega (arith, rest, one)

  pub size_is : (t : ℕ) → length (e.finished.entries t) ≡ all_into job.program lists t
  size_is t =
      (e.finished.kept.events t).number ∙ ap (λ (n : ℕ). published_into e.lay e.finished.calls.source t n) e.ends.sources ∙ count_to t (length job.program.sources) (omega arith)
      ∙ ap (λ (n : ℕ). events_into job.program lists t n) (sym e.ends.number)

  -- a source's event stands at its position
  pub entry_at : (t i n : ℕ) (p : Published) → get_elem? (accepted_into job.program lists t i) n ≡ some p →
      get_elem? (e.finished.entries t) p.position ≡ some (record { source = i; count = n % 64; reading = p.reading; value = p.value })
  entry_at t i n p at =
      let is = is_into job.program lists t i n p at in
      let known : i < length job.program.sources = omega (arith, is.2, e.ends.number) in
      let mine : get_elem? (mine_of (e.finished.calls.source i)) n ≡ some (publication p) = ap (λ (ms : List Won). get_elem? ms n) (sym (published_are i known)) ∙ at_map publication (lists_at lists i).accepted n p is.1 in
      subst (λ (u : ℕ). get_elem? (e.finished.entries u) p.position ≡ some (record { source = i; count = n % 64; reading = p.reading; value = p.value })) (e.ends.queue i known ∙ is.0)
      ((e.finished.kept.sources i).back n (publication p) mine)

  rise : (t i : ℕ) (j n : ℕ) (p q : Published) → j < n → get_elem? (accepted_into job.program lists t i) j ≡ some p → get_elem? (accepted_into job.program lists t i) n ≡ some q → p.position < q.position
  rise t i j n p q lt at_p at_q =
      let is_p = is_into job.program lists t i j p at_p in
      let is_q = is_into job.program lists t i n q at_q in
      let known : i < length job.program.sources = omega (arith, is_p.2, e.ends.number) in
      let mine : (m : ℕ) (x : Published) → get_elem? (lists_at lists i).accepted m ≡ some x → get_elem? (mine_of (e.finished.calls.source i)) m ≡ some (publication x) =
      λ m x at. ap (λ (ms : List Won). get_elem? ms m) (sym (published_are i known)) ∙ at_map publication (lists_at lists i).accepted m x at in
      ((e.finished.kept.sources i).rises j n (publication p) (publication q) lt (mine j p is_p.1) (mine n q is_q.1)).0

  pub have_places : HavePlaces job.program lists
  have_places = record {
    sources = e.ends.number;
    positions = λ t i. record { below = λ n p at. (let there = below (e.finished.entries t) p.position _ (entry_at t i n p at) in omega (arith, there, size_is t)); rise = rise t i };
    apart = λ t i j m n p q other at_p at_q same.
        other (ap (λ (x : Entry). x.source) (same_element (e.finished.entries t) p.position _ _ (entry_at t i m p at_p)
        (subst (λ (k : ℕ). get_elem? (e.finished.entries t) k ≡ some (record { source = j; count = n % 64; reading = q.reading; value = q.value })) (sym same) (entry_at t j n q at_q))));
  }

  -- a queue has no more events than its sources have readings
  events_few : (t : ℕ) → all_into job.program lists t ≤ readings_into job t
  events_few t =
      let each : (i : ℕ) → i < length job.program.sources → length (accepted_into job.program lists t i) ≤ length (readings_for job t i) = λ i known.
      let w = within i known in
      let few : length (lists_at lists i).accepted ≤ length (readings_of job.readings i) = omega (arith, w.ordered, w.within, published_number i known) in
      omega (
        arith,
        as_few (source_thread job.program i == t) (length (lists_at lists i).accepted) (length (readings_of job.readings i)) few,
        as_long (source_thread job.program i == t) (lists_at lists i).accepted,
        as_long (source_thread job.program i == t) (readings_of job.readings i),
      ) in
      let all = sum_le (λ i. length (accepted_into job.program lists t i)) (λ i. length (readings_for job t i)) (length job.program.sources) each in
      omega (arith, all, ap (λ (n : ℕ). events_into job.program lists t n) e.ends.number)

  refusals_few : length (refusals_of lists (length lists)) ≤ refusals_room job
  refusals_few =
      let each : (i : ℕ) → i < length job.program.sources → length (lists_at lists i).refused ≤ refusals_from job i = λ i known.
      let end = e.ends.each i known in
      omega (arith, end.few, ap (λ (l : Lists). length l.refused) end.lists_are, ap length end.readings, end.begun) in
      let all = sum_le (λ i. length (lists_at lists i).refused) (refusals_from job) (length job.program.sources) each in
      omega (arith, all, refusals_number lists (length lists), ap (λ (n : ℕ). sum_below (λ i. length (lists_at lists i).refused) n) e.ends.number)

  pub have_room : (rooms : Rooms) → IsRoomOf job rooms → HaveRoom job.program lists rooms
  have_room rooms room = record {
    queues = room.queues;
    events = λ t lt. (let space = room.events t lt in let few = events_few t in record { events = omega (arith, few, space.events); charges = omega (arith, few, space.charges) });
    refused = omega (arith, refusals_few, room.refused);
  }
