-- A look of the kernel: what its seat is shown, the imagined board has.
use Rattle.std.proofs.Common.{◌≡◌, ◌⊎◌, inl, inr, ℕ, ◌+◌, ◌%◌, ◌^◌, ◌<◌, ◌≤◌, ◌==◌, ◌&&◌, cond, Bool, true, false, List, ◌∷◌, length, refl, sym, ap, ◌∙◌, subst, arith, eq-eqb, ne_eqb, eqb-true, Option, Some, None}
use Rattle.std.specs.Prelude.{slice_index}
use Rattle.std.proofs.lemmas.Bool.{cases_eq}
use Rattle.ink_base.specs.declared.event.Event.{Event}
use Rattle.ink_base.specs.declared.limits.TheConstants as limits
use Rattle.task_isa.specs.declared.program.Program.{Program}
use Rattle.prog_check.specs.Lookup.{thread_def, source_thread}
use Rattle.fram_words.specs.Places as places
use Rattle.fram_words.specs.Places.{Access, Load, answer}
use Rattle.push_core.specs.Queue.{event_word, event_at}
use Rattle.push_core.specs.Slots.{slot_in, empty_word}
use Rattle.push_core.specs.Table.{greatest_tail}
use Rattle.push_core.proofs.Events.{queued_fits, slot_in-event_word}
use Rattle.push_core.proofs.Rings.{next_turn}
use Rattle.ink_layout.specs.declared.slot_at.SlotAt.{SlotAt}
use Rattle.never_cut.specs.declared.model.Model.{Model}
use Rattle.never_cut.specs.State.{thread_of}
use Rattle.never_cut.specs.Sound.{IsQueued}
use Rattle.never_cut.specs.kept.Actors.{Follows}
use Rattle.never_cut.proofs.Follows.{same_follows}
use Rattle.kernel_core.specs.Kernel.{wants, takes, point_found}
use Rattle.kernel_core.specs.declared.kernel.Kernel.{Kernel}
use Rattle.event_queue.specs.declared.view.Call.{Call}
use Rattle.event_queue.specs.declared.view.Call.TheVariants as made
use Rattle.event_queue.specs.declared.view.View.{View}
use Rattle.event_queue.specs.Answers.{IsLook, IsClock, ShowsEvent, ShowsEmpty}
use Rattle.event_queue.specs.Events.{Entry, FitsEntry, full, holds_event}
use Rattle.event_queue.specs.Calls.{released_of, seen_of}
use Rattle.event_queue.specs.Views.{calls_of, places_of, queue_of as queue_in}
use Rattle.event_queue.proofs.Words.{full_holds, empty_holds}
use Rattle.kernel_actor.specs.Lays.{IsLayOf}
use Rattle.kernel_actor.specs.Held.{IsHeld}
use Rattle.kernel_actor.specs.kept.Imagines.{Imagines}
use Rattle.kernel_actor.proofs.Pushes.{event_of, push_state, push_slot, push_is_other}
use Rattle.kernel_actor.proofs.Rows.{slot_place, LooksAt, IsPast}
use Rattle.kernel_actor.proofs.Seeing.{told_nothing, sees, next_position, ticks, clock_follows}

-- What a call of the seat tells goes into the imagined board, and the kernel takes the answered word as the one that it would find there.
pub record Told {program : Program} {fram : List ℕ} {calls : List Call} {kernel : Kernel} {left : ℕ} {m : Model} (h : Imagines program fram calls kernel left m) (call : Call) (w : ℕ) : Type 0 where
  pub state : Model
  pub follows : Follows m state
  pub imagines : Imagines program fram (call ∷ calls) kernel left state
  pub takes_same : takes program kernel w ≡ takes program kernel (answer imagines.words (wants program kernel))
  pub point_same : point_found program kernel w ≡ point_found program kernel (answer imagines.words (wants program kernel))

and_false : (b : Bool) → (b && false) ≡ false
and_false true = refl
and_false false = refl

-- nothing changes
nothing_else : (m : Model) → Follows m m
nothing_else m = same_follows m m refl refl refl refl refl refl (omega arith)

-- the word of an event of a queue holds it
event_holds : (program : Program) (t r : ℕ) (e : Event) → IsQueued program t e → length program.sources ≤ limits.SOURCES → r < 2 ^ 21 → holds_event r (slot_in (event_word r e)) ≡ true
event_holds program t r e queued few small =
    let fits = queued_fits (length program.sources) (source_thread program) t r e few small queued in
    ap (holds_event r) (slot_in-event_word r e fits) ∙ eq-eqb r r refl

-- the clock is loaded
pub tells_clock : {program : Program} {fram : List ℕ} {kernel : Kernel} {left : ℕ} {m : Model} (v : View) (h : Imagines program fram (calls_of v) kernel left m) (w : ℕ) → wants program kernel ≡ Load places.Clock →
    IsClock v w → Told h (made.LoadClock w) w
tells_clock {program} {kernel = kernel} {m = m} v h w wanted shown =
    let after = ticks h w shown.later shown.range in
    let there : w ≡ answer after.words (wants program kernel) = sym (ap (answer after.words) wanted) in
    record {
      state = record m { clock = w };
      follows = clock_follows h w shown.later;
      imagines = after;
      takes_same = ap (takes program kernel) there;
      point_same = ap (point_found program kernel) there;
    }

module _ {program : Program} {fram : List ℕ} {kernel : Kernel} {left : ℕ} {m : Model} (v : View) (h : Imagines program fram (calls_of v) kernel left m) (lay : IsLayOf program v.lay)
    (at : SlotAt) (w : ℕ) (known : at.thread.0 < length program.threads) (wanted : wants program kernel ≡ Load (slot_place program at)) where
  abbrev t : ℕ
  t = at.thread.0

  abbrev p : ℕ
  p = at.position

  -- where the word holds no event of the position, the calls show nothing new
  nothing_new : holds_event at.position (slot_in w) ≡ false → (u : ℕ) → seen_of u (made.Look at.thread.0 at.position w ∷ calls_of v) ≡ seen_of u (calls_of v)
  nothing_new none u =
      ap (λ (b : Bool). cond ((at.thread.0 == u && at.position == released_of u (calls_of v)) && b) (Some w) (seen_of u (calls_of v))) none
      ∙ ap (λ (b : Bool). cond b (Some w) (seen_of u (calls_of v))) (and_false (at.thread.0 == u && at.position == released_of u (calls_of v)))

  -- where it was seen before, they show the same again
  seen_again : seen_of at.thread.0 (calls_of v) ≡ Some w → (u : ℕ) → seen_of u (made.Look at.thread.0 at.position w ∷ calls_of v) ≡ seen_of u (calls_of v)
  seen_again seen u =
      elim (cases_eq u at.thread.0) [
        | inl is ↦
            subst (λ k. cond (at.thread.0 == k && at.position == released_of k (calls_of v) && holds_event at.position (slot_in w)) (Some w) (seen_of k (calls_of v)) ≡ seen_of k (calls_of v)) (sym is)
            (by_test (at.thread.0 == at.thread.0 && at.position == released_of at.thread.0 (calls_of v) && holds_event at.position (slot_in w)))
        | inr other ↦ ap (λ (b : Bool). cond (b && at.position == released_of u (calls_of v) && holds_event at.position (slot_in w)) (Some w) (seen_of u (calls_of v))) (ne_eqb at.thread.0 u (λ q. other (sym q)))
      ]
    where
      by_test : (b : Bool) → cond b (Some w) (seen_of at.thread.0 (calls_of v)) ≡ seen_of at.thread.0 (calls_of v)
      by_test true = sym seen
      by_test false = refl

  -- the imagined slot has the word
  found_there : {calls : List Call} {m' : Model} (h' : Imagines program fram calls kernel left m') → h'.words (slot_place program at) ≡ w → w ≡ answer h'.words (wants program kernel)
  found_there h' there = sym (ap (answer h'.words) wanted ∙ there)

  told_there : ((u : ℕ) → seen_of u (made.Look at.thread.0 at.position w ∷ calls_of v) ≡ seen_of u (calls_of v)) → h.words (slot_place program at) ≡ w → Told h (made.Look at.thread.0 at.position w) w
  told_there same there = record {
    state = m;
    follows = nothing_else m;
    imagines = told_nothing h at.thread.0 at.position w same;
    takes_same = ap (takes program kernel) (sym (ap (answer h.words) wanted ∙ there));
    point_same = ap (point_found program kernel) (sym (ap (answer h.words) wanted ∙ there));
  }

  -- a look at the next position to be released
  module _ (next : at.position ≡ released_of at.thread.0 (calls_of v)) (look : IsLook v at.thread.0 at.position w) where
    -- an event that was seen before stands in the imagined slot
    there_before : seen_of at.thread.0 (calls_of v) ≡ Some w → h.words (slot_place program at) ≡ w
    there_before seen =
        let held = subst (λ (o : Option ℕ). IsHeld o (released_of at.thread.0 (calls_of v)) (thread_of m at.thread.0).held) seen (h.held at.thread.0 known) in
        let q = h.background.shared.queues at.thread.0 known in
        let here : (thread_of m at.thread.0).released + 0 ≡ at.position = omega (arith, h.released at.thread.0 known) in
        let first = q.full_slots 0 (let lt : 0 < length (thread_of m at.thread.0).held = subst (λ (l : List Event). 0 < length l) (sym held.1) (omega arith) in lt) in
        subst (λ (n : ℕ). h.words (places.Slot at.thread.0 (n % (thread_def program at.thread.0).queue)) ≡ event_word n (event_at (thread_of m at.thread.0).held 0)) here first
        ∙ (λ j. event_word (next j) (event_at (held.1 j) 0)) ∙ sym held.2

    -- nothing was published there
    there_empty : seen_of at.thread.0 (calls_of v) ≡ None → w ≡ empty_word at.position → h.words (slot_place program at) ≡ w
    there_empty unseen is =
        let none = subst (λ (o : Option ℕ). IsHeld o (released_of at.thread.0 (calls_of v)) (thread_of m at.thread.0).held) unseen (h.held at.thread.0 known) in
        let q = h.background.shared.queues at.thread.0 known in
        let here = h.released at.thread.0 known in
        let some_place = (h.background.accepted.threads at.thread.0 known).queue_least in
        q.empty_slots at.position (omega (arith, ap length none)) (omega arith) ∙ sym is

    -- what the set shows of an event of the position
    record IsThere : Type 0 where
      entry : Entry
      word : w ≡ full at.position entry
      fits : FitsEntry at.position entry
      range : at.position < greatest_tail
      source : entry.source < length v.lay.sources
      queue : queue_in v.lay entry.source ≡ at.thread.0

    event_there : holds_event at.position (slot_in w) ≡ true → IsThere
    event_there shows = by_shown look.shown
      where
        by_shown : ((q : ℕ) × (e : Entry) × ShowsEvent v.lay at.thread.0 (at.position % places_of v.lay at.thread.0) (released_of at.thread.0 (calls_of v)) w q e)
            ⊎ ((q : ℕ) × ShowsEmpty v.lay at.thread.0 (at.position % places_of v.lay at.thread.0) (released_of at.thread.0 (calls_of v)) (slice_index v.told.published at.thread.0) w q) → IsThere
        by_shown (inl (q, e, s)) =
            let same : q ≡ at.position = eqb-true q at.position (sym (full_holds q at.position w e s.fits s.word) ∙ shows) in
            record {
              entry = e;
              word = s.word ∙ ap (λ (n : ℕ). full n e) same;
              fits = subst (λ (n : ℕ). FitsEntry n e) same s.fits;
              range = omega (arith, s.range);
              source = s.source;
              queue = s.queue;
            }
        by_shown (inr (q, s)) = absurd (let clash : false ≡ true = sym (empty_holds q at.position w (let lt : q < 2 ^ 21 = omega (arith, s.range) in lt) s.word) ∙ shows in cc)

    -- an event that wasn't seen before
    tells_new : seen_of at.thread.0 (calls_of v) ≡ None → holds_event at.position (slot_in w) ≡ true → Told h (made.Look at.thread.0 at.position w) w
    tells_new unseen shows = by_thread of
      where
        there : IsThere
        there = event_there shows

        real : there.entry.source < length program.sources
        real = omega (arith, there.source, lay.sources)

        of : source_thread program there.entry.source ≡ at.thread.0
        of = sym (lay.queue there.entry.source real) ∙ there.queue

        by_thread : source_thread program there.entry.source ≡ at.thread.0 → Told h (made.Look at.thread.0 at.position w) w
        by_thread is =
            let i : ℕ = there.entry.source in
            let count : ℕ = there.entry.count in
            let value : ℕ = there.entry.value in
            let few : there.entry.count < 64 = there.fits.count_fits in
            let fits : there.entry.value < 2 ^ 32 = there.fits.value_fits in
            let e : Event = event_of i count value in
            let unseen' : seen_of (source_thread program i) (calls_of v) ≡ None = ap (λ k. seen_of k (calls_of v)) is ∙ unseen in
            let r : at.position ≡ released_of (source_thread program i) (calls_of v) = next ∙ ap (λ k. released_of k (calls_of v)) (sym is) in
            let word : w ≡ event_word (released_of (source_thread program i) (calls_of v)) (event_of i count value) = there.word ∙ ap (λ (n : ℕ). event_word n (event_of i count value)) r in
            let after = sees h i count value real few fits unseen' (omega (arith, there.range, r)) (sym (λ j. holds_event (r j) (slot_in (word j))) ∙ shows) in
            let position = next_position h i count value real few fits unseen' in
            let slot = push_slot program h.readings h.words m i count value h.background real few fits in
            let found : after.words (slot_place program at) ≡ w =
            (λ j. after.words (places.Slot (sym is j) ((r ∙ sym position) j % (thread_def program (sym is j)).queue))) ∙ slot ∙ ap (λ n. event_word n (event_of i count value)) position ∙ sym word in
            record {
              state = push_state program h.readings h.words m i count value h.background real few fits;
              follows = push_is_other program h.readings h.words m i count value h.background real few fits;
              imagines = subst (λ (z : ℕ × ℕ × ℕ). Imagines program fram (made.Look z.0 z.1 z.2 ∷ calls_of v) kernel left (push_state program h.readings h.words m i count value h.background real few fits))
                  (sym (λ j. (sym is j, r j, word j))) after;
              takes_same = ap (takes program kernel) (found_there after found);
              point_same = ap (point_found program kernel) (found_there after found);
            }

    -- an event that the seat has seen is held, so the word shows it
    held_shows : (x : ℕ) → seen_of at.thread.0 (calls_of v) ≡ Some x → holds_event at.position (slot_in w) ≡ true
    held_shows x seen =
        let same : w ≡ x = look.again x seen next in
        let held = subst (λ (o : Option ℕ). IsHeld o (released_of at.thread.0 (calls_of v)) (thread_of m at.thread.0).held) seen (h.held at.thread.0 known) in
        let some_held : 0 < length (thread_of m at.thread.0).held = subst (λ (l : List Event). 0 < length l) (sym held.1) (omega arith) in
        let queued = subst (λ (l : List Event). IsQueued program at.thread.0 (event_at l 0)) held.1 ((h.background.sound.threads at.thread.0 known).queued 0 some_held) in
        let small = h.background.shared.small at.thread.0 known in
        (λ j. holds_event (next j) (slot_in ((same ∙ held.2) j)))
        ∙ event_holds program at.thread.0 (released_of at.thread.0 (calls_of v)) held.0 queued h.background.accepted.counts.sources (omega (arith, h.released at.thread.0 known))

    pub tells_look : Told h (made.Look at.thread.0 at.position w) w
    tells_look = by_seen (seen_of at.thread.0 (calls_of v)) refl
      where
        by_shown : seen_of at.thread.0 (calls_of v) ≡ None → (b : Bool) → holds_event at.position (slot_in w) ≡ b → Told h (made.Look at.thread.0 at.position w) w
        by_shown unseen true shows = tells_new unseen shows
        by_shown unseen false shows = told_there (nothing_new shows) (there_empty unseen (look.exact next shows))

        by_seen : (o : Option ℕ) → seen_of at.thread.0 (calls_of v) ≡ o → Told h (made.Look at.thread.0 at.position w) w
        by_seen (Some x) seen =
            let seen_w : seen_of at.thread.0 (calls_of v) ≡ Some w = seen ∙ ap Some (sym (look.again x seen next)) in
            told_there (seen_again seen_w) (there_before seen_w)
        by_seen None unseen = by_shown unseen (holds_event at.position (slot_in w)) refl

  -- a boot's look at the position before
  few_held : (o : Option ℕ) (r : ℕ) (held : List Event) → IsHeld o r held → length held ≤ 1
  few_held None r held is = omega (arith, ap length is)
  few_held (Some x) r held (e, one, word) = omega (arith, ap length one)

  -- the imagined slot of that position is free for the one a turn later
  past_free : at.position + 1 ≡ (thread_of m at.thread.0).released → holds_event at.position (slot_in (h.words (slot_place program at))) ≡ false
  past_free before =
      let size : ℕ = (thread_def program at.thread.0).queue in
      let q = h.background.shared.queues at.thread.0 known in
      let least = (h.background.accepted.threads at.thread.0 known).queue_least in
      let small = h.background.shared.small at.thread.0 known in
      let most = (h.background.accepted.threads at.thread.0 known).queue in
      let few = few_held (seen_of at.thread.0 (calls_of v)) (released_of at.thread.0 (calls_of v)) (thread_of m at.thread.0).held (h.held at.thread.0 known) in
      let free = q.empty_slots (at.position + size) (omega arith) (omega arith) in
      let word : h.words (slot_place program at) ≡ empty_word (at.position + size) = ap (λ (n : ℕ). h.words (places.Slot at.thread.0 n)) (sym (next_turn size at.position)) ∙ free in
      empty_holds (at.position + size) at.position _ (let lt : at.position + size < 2 ^ 21 = omega arith in lt) word

  -- the word holds no event of a position that is released
  past_word : at.position + 1 ≡ released_of at.thread.0 (calls_of v) → IsLook v at.thread.0 at.position w → holds_event at.position (slot_in w) ≡ false
  past_word before look = by_shown look.shown
    where
      by_shown : ((q : ℕ) × (e : Entry) × ShowsEvent v.lay at.thread.0 (at.position % places_of v.lay at.thread.0) (released_of at.thread.0 (calls_of v)) w q e)
          ⊎ ((q : ℕ) × ShowsEmpty v.lay at.thread.0 (at.position % places_of v.lay at.thread.0) (released_of at.thread.0 (calls_of v)) (slice_index v.told.published at.thread.0) w q) →
          holds_event at.position (slot_in w) ≡ false
      by_shown (inl (q, e, s)) = full_holds q at.position w e s.fits s.word ∙ ne_eqb q at.position (λ same. absurd (omega (arith, s.recent, before)))
      by_shown (inr (q, s)) = empty_holds q at.position w (let lt : q < 2 ^ 21 = omega (arith, s.range) in lt) s.word

  pub tells_past : IsPast program m kernel at → IsLook v at.thread.0 at.position w → Told h (made.Look at.thread.0 at.position w) w
  tells_past past look =
      let before : at.position + 1 ≡ released_of at.thread.0 (calls_of v) = past.before ∙ h.released at.thread.0 known in
      let none : holds_event at.position (slot_in w) ≡ false = past_word before look in
      let imagined : holds_event at.position (slot_in (answer h.words (wants program kernel))) ≡ false = ap (λ (a : Access). holds_event at.position (slot_in (answer h.words a))) wanted ∙ past_free past.before in
      record {
        state = m;
        follows = nothing_else m;
        imagines = told_nothing h at.thread.0 at.position w (nothing_new none);
        takes_same = past.takes_same w (answer h.words (wants program kernel)) none imagined;
        point_same = past.nothing w ∙ sym (past.nothing (answer h.words (wants program kernel)));
      }

  -- any look of the kernel
  pub tells_at : LooksAt program m kernel at → IsLook v at.thread.0 at.position w → Told h (made.Look at.thread.0 at.position w) w
  tells_at looks look = elim looks.position [
    | inl next ↦ tells_look (next ∙ h.released at.thread.0 known) look
    | inr past ↦ tells_past past look
  ]
