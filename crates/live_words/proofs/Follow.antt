-- The state at the end differs from the kernel's own state in events that were added to queues, in the sources and in a later clock.
use Rattle.std.proofs.Common.{◌≡◌, inl, inr, ℕ, suc, ◌^◌, ◌<◌, ◌≤◌, cond, Bool, List, [], ◌∷◌, ◌++◌, map, drop, length, refl, sym, ap, ◌∙◌, subst, arith, eq-eqb, Option, Some, None}
use Rattle.std.proofs.lemmas.Bool.{cases_lt}
use Rattle.std.proofs.lemmas.List.{length-map, get_or_past}
use Rattle.std.proofs.lemmas.Option.{same_Some}
use mathlib.Core.Option.{some}
use lib.ListN.{get_elem?}
use Rattle.ink_base.specs.declared.event.Event.{Event}
use Rattle.ink_base.specs.declared.event.Origin.{Origin}
use Rattle.ink_base.specs.declared.event.Origin.TheVariants as origins
use Rattle.ink_base.specs.declared.limits.TheConstants as limits
use Rattle.task_isa.specs.declared.program.Program.{Program}
use Rattle.prog_check.specs.Lookup.{source_thread}
use Rattle.push_core.specs.Queue as queues
use Rattle.push_core.specs.Queue.{event_word, event_slot}
use Rattle.push_core.specs.Slots.{slot_in}
use Rattle.push_core.proofs.Events.{queued_fits, slot_in-event_word}
use Rattle.priority_sched.specs.Scan.{event_at}
use Rattle.never_cut.specs.declared.model.Model.{Model}
use Rattle.never_cut.specs.declared.thread_model.ThreadModel.{ThreadModel}
use Rattle.never_cut.specs.State.{thread_of, no_thread}
use Rattle.never_cut.specs.Sound.{IsQueued}
use Rattle.never_cut.specs.kept.Actors.{Follows, without_held}
use Rattle.job_parts.specs.Job.{JobParts}
use Rattle.kernel_account.specs.Follows.{IsBeside}
use Rattle.kernel_account.proofs.Parts.{thread_part}
use Rattle.event_queue.specs.Calls.{released_of, seen_of, clock_of}
use Rattle.event_queue.specs.Places as set
use Rattle.event_queue.specs.Places.{word_at}
use Rattle.event_queue.specs.Rule.{Every, LookKept}
use Rattle.event_queue.specs.Views.{calls_of}
use Rattle.event_queue.specs.declared.view.Call.{Call}
use Rattle.event_queue.proofs.Counts.{entry_fits}
use Rattle.kernel_actor.specs.Accounts.{AreFound}
use Rattle.kernel_actor.specs.Held.{IsHeld}
use Rattle.live_account.specs.declared.record.LiveRecord.{LiveRecord}
use Rattle.live_account.specs.Kernel.{events_in, state_after, last_state}
use Rattle.live_account.specs.Turns.{all_ticks}
use Rattle.live_words.specs.Ends.{IsLeft}
use Rattle.live_words.proofs.Lists.{drop_at}
use Rattle.live_words.proofs.Founds.{are_found, read_entry, event_there}

-- the word of an event of a queue is read as that event
read_event : (program : Program) (t r w : ℕ) (e : Event) → IsQueued program t e → length program.sources ≤ limits.SOURCES → r < 2 ^ 21 → w ≡ event_word r e → event_at r (slot_in w) ≡ Some e
read_event program t r w e queued few small is =
    ap (λ (x : ℕ). event_at r (slot_in x)) is ∙ (ap (event_at r) (slot_in-event_word r e (queued_fits (length program.sources) (source_thread program) t r e few small queued)) ∙ by_origin e.origin e.value queued)
  where
    by_origin : (o : Origin) (value : ℕ) → IsQueued program t (record { origin = o; value = value }) → event_at r (Some (event_slot r (record { origin = o; value = value }))) ≡ Some (record { origin = o; value = value })
    by_origin (origins.Source source count) value h = ap (λ (b : Bool). cond b (Some (record { origin = origins.Source source count; value = value })) None) (eq-eqb r r refl)
    by_origin (origins.Pipe pipe item) value h = absurd h
    by_origin (origins.Timer timer deadline) value h = absurd h

module _ (job : JobParts) (r : LiveRecord) (left : IsLeft job r) where
  abbrev pub calls : List Call
  calls = calls_of left.kernel

  abbrev pub own_state : Model
  own_state = left.ends.state

  abbrev pub last : Model
  last = last_state job r

  same_events : (t : ℕ) → t < length left.lay.queues → events_in r t ≡ map Rattle.live_account.specs.Matches.event_of (left.finished.entries t)
  same_events t lt = left.events t (let size = left.is_lay.queues in omega arith)

  pub found : AreFound (events_in r) calls
  found =
      are_found left.lay (word_at left.lay left.closed) left.finished.entries left.finished.calls left.finished.limits left.finished.kept (events_in r) same_events (λ t. released_of t left.finished.calls.kernel) calls
      (subst (Every (LookKept left.finished.entries (λ t. released_of t left.finished.calls.kernel))) left.finished.kernel_is left.finished.kept.kernel.looks)

  pub beside : IsBeside job.program (events_in r) (state_after job.program r) own_state
  beside = left.ends.beside (events_in r) found

  pub same_thread : (t : ℕ) → without_held (thread_of last t) ≡ without_held (thread_of own_state t)
  same_thread t = sym (thread_part (state_after job.program r) t) ∙ (ap (λ (k : Model). thread_of k t) beside.same ∙ thread_part own_state t)

  pub thread_count : length last.threads ≡ length own_state.threads
  thread_count =
      sym (length-map (state_after job.program r).threads without_held) ∙ (ap (λ (k : Model). length k.threads) beside.same ∙ length-map own_state.threads without_held)

  -- each queue holds what isn't released of its events
  pub held_last : (t : ℕ) → t < length job.program.threads → (thread_of last t).held ≡ drop (released_of t calls) (events_in r t)
  held_last t lt = beside.held t lt ∙ ap (λ (n : ℕ). drop n (events_in r t)) (left.ends.released t lt)

  -- an event that the kernel's own state holds is the first of them
  first_seen : (t w : ℕ) (e : Event) → t < length job.program.threads → seen_of t calls ≡ Some w → w ≡ event_word (released_of t calls) e → IsQueued job.program t e →
      get_elem? (events_in r t) (released_of t calls) ≡ some e
  first_seen t w e lt seen is queued =
      let entry = left.finished.kept.kernel.seen t w (ap (λ (l : List Call). seen_of t l) left.finished.kernel_is ∙ seen) in
      let at : get_elem? (left.finished.entries t) (released_of t calls) ≡ some entry.0 = subst (λ (l : List Call). get_elem? (left.finished.entries t) (released_of t l) ≡ some entry.0) left.finished.kernel_is entry.1 in
      let word = subst (λ (l : List Call). w ≡ Rattle.event_queue.specs.Events.full (released_of t l) entry.0) left.finished.kernel_is entry.2 in
      let fits = entry_fits t (released_of t calls) entry.0 left.finished.limits left.finished.kept at in
      let few : length job.program.sources ≤ limits.SOURCES = let n = left.finished.limits.sources in let size = left.is_lay.sources in omega arith in
      let reads = read_event job.program t (released_of t calls) w e queued few fits.position_fits is in
      let same : Rattle.live_account.specs.Matches.event_of entry.0 ≡ e = same_Some _ _ (sym (read_entry (released_of t calls) w entry.0 fits word) ∙ reads) in
      event_there left.lay (word_at left.lay left.closed) left.finished.entries left.finished.calls left.finished.limits left.finished.kept (events_in r) same_events t (released_of t calls) entry.0 at ∙ ap some same

  -- so a queue has the events of the own state and more
  more_held : (t : ℕ) → (more : List Event) × ((thread_of last t).held ≡ (thread_of own_state t).held ++ more)
  more_held t =
      elim (cases_lt t (length job.program.threads)) [
        | inl lt ↦ by_seen lt (seen_of t calls) refl (thread_of own_state t).held refl (left.ends.held t lt)
        | inr past ↦
            let size = left.ends.sound.shape.threads in
            let here : thread_of last t ≡ no_thread = get_or_past last.threads t no_thread (omega (arith, thread_count)) in
            let there : thread_of own_state t ≡ no_thread = get_or_past own_state.threads t no_thread (omega arith) in
            ([], ap (λ (x : ThreadModel). x.held) here ∙ ap (λ (x : ThreadModel). x.held ++ []) (sym there))
      ]
    where
      by_seen : t < length job.program.threads → (o : Option ℕ) → seen_of t calls ≡ o → (held : List Event) → (thread_of own_state t).held ≡ held → IsHeld o (released_of t calls) held →
          (more : List Event) × ((thread_of last t).held ≡ (thread_of own_state t).held ++ more)
      by_seen lt None seen held is none = (drop (released_of t calls) (events_in r t), held_last t lt ∙ ap (λ (l : List Event). l ++ drop (released_of t calls) (events_in r t)) (sym (is ∙ none)))
      by_seen lt (Some w) seen held is (e, one, word) =
          let is_one : (thread_of own_state t).held ≡ e ∷ [] = is ∙ one in
          let some_held : 0 < length (thread_of own_state t).held = subst (λ (l : List Event). 0 < length l) (sym is_one) (omega arith) in
          let queued = subst (λ (l : List Event). IsQueued job.program t (queues.event_at l 0)) is_one ((left.ends.sound.threads t lt).queued 0 some_held) in
          let at = first_seen t w e lt seen word queued in
          (drop (suc (released_of t calls)) (events_in r t), held_last t lt ∙ (drop_at (events_in r t) (released_of t calls) e at ∙ ap (λ (l : List Event). l ++ drop (suc (released_of t calls)) (events_in r t)) (sym is_one)))

  -- the clock's word is the sum of its ticks, and none that the kernel loaded was later
  pub clock_word : word_at left.lay left.closed set.Clock ≡ all_ticks job.charges
  clock_word = left.finished.kept.clock.sum ∙ (ap Rattle.event_queue.specs.Calls.sum_of left.finished.clock_is ∙ left.ticks)

  pub follows : Follows own_state last
  follows =
      record {
        threads = same_thread;
        more = λ t. (more_held t).0;
        held = λ t. (more_held t).1;
        count = thread_count;
        pipes = ap (λ (k : Model). k.pipes) beside.same;
        timers = ap (λ (k : Model). k.timers) beside.same;
        outputs = ap (λ (k : Model). k.outputs) beside.same;
        commits = ap (λ (k : Model). k.commits) beside.same;
        scan = ap (λ (k : Model). k.scan) beside.same;
        clock =
            let loaded : clock_of calls ≤ word_at left.lay left.closed set.Clock = subst (λ (l : List Call). clock_of l ≤ word_at left.lay left.closed set.Clock) left.finished.kernel_is left.finished.kept.clock.loaded in
            omega (arith, loaded, clock_word, left.ends.clock);
      }
