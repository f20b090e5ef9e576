-- What the seat sees in a queue is imagined to have been published just now.
use Rattle.std.proofs.Common.{◌≡◌, ◌≢◌, inl, inr, ℕ, ◌+◌, ◌%◌, ◌^◌, ◌<◌, [], ◌∷◌, length, length-append, get_or-set_same, get_or-set_other, refl, sym, ap, ◌∙◌, subst, arith}
use Rattle.std.proofs.lemmas.Bool.{cases_eq}
use Rattle.ink_base.specs.declared.event.Event.{Event}
use Rattle.ink_base.specs.declared.event.Origin.TheVariants as origins
use Rattle.ink_base.specs.declared.entry.Entry.TheVariants as entries
use Rattle.task_isa.specs.declared.program.Program.{Program}
use Rattle.prog_check.specs.Lookup.{thread_def, source_thread}
use Rattle.fram_words.specs.Places as places
use Rattle.fram_words.specs.Places.{Place, Memory, Tail, Slot, Clock, store}
use Rattle.fram_words.specs.Changes.{Becomes}
use Rattle.fram_words.proofs.Accesses.{stored}
use Rattle.push_core.specs.Queue.{Queue, published, event_word, StandsQueue, with_event}
use Rattle.push_core.specs.Table.{greatest_tail}
use Rattle.push_core.proofs.Queues.{queue_push, queue_tail, queue_same}
use Rattle.never_cut.specs.declared.model.Model.{Model}
use Rattle.never_cut.specs.declared.thread_model.ThreadModel.{ThreadModel}
use Rattle.never_cut.specs.declared.source_model.SourceModel.{SourceModel}
use Rattle.never_cut.specs.State.{thread_of, source_of, queue_of, source_in, no_thread}
use Rattle.never_cut.specs.Stands.{slots_of}
use Rattle.never_cut.specs.Entries.{Readings, Legal, effect, next_event, pushed, with_accepted}
use Rattle.never_cut.specs.Sound.{IsSound}
use Rattle.never_cut.specs.Within.{AreShort}
use Rattle.never_cut.specs.kept.Actors.{SamePrivate, Follows}
use Rattle.never_cut.specs.kept.Steps.{Background}
use Rattle.never_cut.proofs.Follows.{push_follows, follow_private}
use Rattle.never_cut.proofs.SoundStates.{sound_step, published_bound}
use Rattle.kernel_actor.proofs.Restarts.{last_at, last_length, one_reading, restarted, one_short, readings_here, next_here, restarted_sound}

-- an event of a source
abbrev pub event_of : (i count value : ℕ) → Event
event_of i count value = record { origin = origins.Source (record { 0 = i }) count; value = value }

-- the words in which thread t's queue holds the event at a position, behind all others
abbrev pub imagined_words : Program → Memory → (t p : ℕ) → Event → Memory
imagined_words program words t p e = store (store words (Slot t (p % (thread_def program t).queue)) (event_word p e)) (Tail t) (p + 1)

module _ (words : Memory) (t n v w : ℕ) where
  -- only a slot and the tail of the queue change
  elsewhere : (p : Place) → p ≢ Slot t n → p ≢ Tail t → store (store words (Slot t n) v) (Tail t) w p ≡ words p
  elsewhere p a b = (stored (store words (Slot t n) v) (Tail t) w).elsewhere p b ∙ (stored words (Slot t n) v).elsewhere p a

  slot_here : store (store words (Slot t n) v) (Tail t) w (Slot t n) ≡ v
  slot_here = (stored (store words (Slot t n) v) (Tail t) w).elsewhere (Slot t n) (λ e. cc) ∙ (stored words (Slot t n) v).here

  tail_here : store (store words (Slot t n) v) (Tail t) w (Tail t) ≡ w
  tail_here = (stored (store words (Slot t n) v) (Tail t) w).here

  pub same_private : SamePrivate words (store (store words (Slot t n) v) (Tail t) w)
  same_private (places.Tail u) h = absurd h
  same_private (places.Slot u k) h = absurd h
  same_private (places.Code x k) h = elsewhere (places.Code x k) (λ e. cc) (λ e. cc)
  same_private (places.Commit u) h = elsewhere (places.Commit u) (λ e. cc) (λ e. cc)
  same_private (places.Page u p c k) h = elsewhere (places.Page u p c k) (λ e. cc) (λ e. cc)
  same_private (places.Log u k) h = elsewhere (places.Log u k) (λ e. cc) (λ e. cc)
  same_private (places.Ring q k) h = elsewhere (places.Ring q k) (λ e. cc) (λ e. cc)
  same_private (places.Ack i) h = elsewhere (places.Ack i) (λ e. cc) (λ e. cc)
  same_private places.Clock h = absurd h
  same_private (places.Src i) h = absurd h

  slots_become : Becomes n v (λ k. words (Slot t k)) (λ k. store (store words (Slot t n) v) (Tail t) w (Slot t k))
  slots_become = record { here = slot_here; elsewhere = λ k other. elsewhere (Slot t k) (λ q. other (let same : k ≡ n = cc in same)) (λ q. cc) }

-- the queue with one event more, whose tail is moved behind it
queue_more : (count : ℕ) (slot slot' : ℕ → ℕ) (tail : ℕ) (q : Queue) (e : Event) → StandsQueue count slot tail q → length q.held < count →
    Becomes (published q % count) (event_word (published q) e) slot slot' → StandsQueue count slot' (published q + 1) (with_event q e)
queue_more count slot slot' tail q e h room becomes =
    let moved : StandsQueue count slot (published q) q = record { room = h.room; full_slots = h.full_slots; empty_slots = h.empty_slots; tail_near = inl refl } in
    queue_tail (queue_push moved e room refl becomes) (omega (arith, length-append q.held (e ∷ [])))

module _ (program : Program) (old : Readings) (words : Memory) (m : Model) (i count value : ℕ) (b : Background program old words m) (known : i < length program.sources) (few : count < 64) (fits : value < 2 ^ 32) where
  abbrev t : ℕ
  t = source_thread program i

  -- the imagined readings, of which the event's is the last one
  abbrev pub push_readings : Readings
  push_readings = one_reading (length m.sources) i count value

  -- the state with that source's event in its queue
  abbrev pub push_state : Model
  push_state = effect program (one_reading (length m.sources) i count value) (restarted m i count) (entries.Push (record { 0 = i }))

  -- the position of the event
  abbrev pub push_position : ℕ
  push_position = published (queue_of (thread_of m (source_thread program i)))

  abbrev pub push_words : Memory
  push_words = imagined_words program words (source_thread program i) (published (queue_of (thread_of m (source_thread program i)))) (event_of i count value)

  same_count : length m.sources ≡ length program.sources
  same_count = b.sound.shape.sources

  real : i < length m.sources
  real = omega (arith, same_count)

  fed : source_thread program i < length program.threads
  fed = b.accepted.sources i known

  fed_here : source_thread program i < length m.threads
  fed_here = omega (arith, fed, b.sound.shape.threads)

  -- the next event of that source is this one
  event_is : next_event (one_reading (length m.sources) i count value) (restarted m i count) i ≡ event_of i count value
  event_is =
      let whole : count % 64 ≡ count = omega arith in
      (λ j. Rattle.push_core.specs.Queue.next_event i (readings_here (length m.sources) i count value real j) (source_in (next_here program m i count value known same_count j)))
      ∙ (λ j. record { origin = origins.Source (record { 0 = i }) (whole j); value = last_at count value j })

  thread_here : thread_of push_state (source_thread program i) ≡ pushed (event_of i count value) (thread_of m (source_thread program i))
  thread_here = get_or-set_same m.threads (source_thread program i) _ no_thread fed_here ∙ ap (λ (e : Event). pushed e (thread_of m (source_thread program i))) event_is

  pub push_elsewhere : (u : ℕ) → u ≢ source_thread program i → thread_of push_state u ≡ thread_of m u
  push_elsewhere u other = get_or-set_other m.threads (source_thread program i) u _ no_thread other

  pub push_here : thread_of push_state (source_thread program i) ≡ pushed (event_of i count value) (thread_of m (source_thread program i))
  push_here = thread_here

  -- the kernel's side of the state is as it was
  pub push_is_other : Follows m push_state
  push_is_other =
      let f = push_follows m (source_thread program i) i (next_event (one_reading (length m.sources) i count value) (restarted m i count) i) (with_accepted (source_of (restarted m i count) i)) fed_here in
      record {
        threads = f.threads;
        more = f.more;
        held = f.held;
        count = f.count;
        pipes = refl;
        timers = refl;
        outputs = refl;
        commits = refl;
        scan = refl;
        clock = omega arith;
      }

  pub push_private : SamePrivate words push_words
  push_private = same_private words (source_thread program i) (push_position % (thread_def program (source_thread program i)).queue) (event_word push_position (event_of i count value)) (push_position + 1)

  -- every other word is as it was
  beside : (p : Place) → p ≢ Slot (source_thread program i) (push_position % (thread_def program (source_thread program i)).queue) → p ≢ Tail (source_thread program i) → push_words p ≡ words p
  beside p a b = elsewhere words (source_thread program i) (push_position % (thread_def program (source_thread program i)).queue) (event_word push_position (event_of i count value)) (push_position + 1) p a b

  pub push_short : AreShort push_readings
  push_short = one_short (length m.sources) i count value real few fits

  pub push_slot : push_words (Slot (source_thread program i) (push_position % (thread_def program (source_thread program i)).queue)) ≡ event_word push_position (event_of i count value)
  push_slot = slot_here words (source_thread program i) (push_position % (thread_def program (source_thread program i)).queue) (event_word push_position (event_of i count value)) (push_position + 1)

  push_legal : (thread_of m (source_thread program i)).held ≡ [] → Legal program push_readings (restarted m i count) (entries.Push (record { 0 = i }))
  push_legal none =
      let least = (b.accepted.threads (source_thread program i) fed).queue_least in (
        known,
        omega (arith, ap length (readings_here (length m.sources) i count value real), last_length count value, ap (λ (s : SourceModel). s.next) (next_here program m i count value known same_count)),
        omega (arith, ap length none),
      )

  push_sound : (thread_of m (source_thread program i)).held ≡ [] → push_position < greatest_tail → IsSound program push_readings push_state
  push_sound none room =
      sound_step program push_readings (restarted m i count) (entries.Push (record { 0 = i })) b.accepted push_short
      (restarted_sound program m i count value known same_count old b.sound room) (push_legal none)

  push_queues : (thread_of m (source_thread program i)).held ≡ [] → (u : ℕ) → u < length program.threads →
      StandsQueue (thread_def program u).queue (slots_of push_words u) (push_words (Tail u)) (queue_of (thread_of push_state u))
  push_queues none u lt =
      elim (cases_eq u (source_thread program i)) [
        | inl is ↦
            let least = (b.accepted.threads (source_thread program i) fed).queue_least in
            subst (λ v. StandsQueue (thread_def program v).queue (slots_of push_words v) (push_words (Tail v)) (queue_of (thread_of push_state v))) (sym is)
            (subst (λ (z : ℕ × ThreadModel). StandsQueue (thread_def program (source_thread program i)).queue (slots_of push_words (source_thread program i)) z.0 (queue_of z.1))
            (sym (λ j. (tail_here words (source_thread program i) (push_position % (thread_def program (source_thread program i)).queue) (event_word push_position (event_of i count value)) (push_position + 1) j, thread_here j)))
            (queue_more (thread_def program (source_thread program i)).queue (slots_of words (source_thread program i)) (slots_of push_words (source_thread program i)) (words (Tail (source_thread program i)))
            (queue_of (thread_of m (source_thread program i))) (event_of i count value) (b.shared.queues (source_thread program i) fed) (omega (arith, ap length none)) (slots_become words (source_thread program i) (push_position % (thread_def program (source_thread program i)).queue) (event_word push_position (event_of i count value)) (push_position + 1))))
        | inr other ↦
            queue_same (b.shared.queues u lt)
            (λ n. beside (Slot u n) (λ q. other (let same : u ≡ source_thread program i = cc in same)) (λ q. cc))
            (beside (Tail u) (λ q. cc) (λ q. other (let same : u ≡ source_thread program i = cc in same)))
            (ap queue_of (push_elsewhere u other))
      ]

  -- the board in which the event was published just now
  pub push_background : (thread_of m (source_thread program i)).held ≡ [] → push_position < greatest_tail → Background program push_readings push_words push_state
  push_background none room =
      let sound = push_sound none room in
      record {
        accepted = b.accepted;
        private = follow_private words push_words program m push_state push_private push_is_other b.private;
        shared = record {
          queues = push_queues none;
          small = λ u lt. let bound = published_bound program push_readings push_state u sound lt in omega arith;
          clock = beside Clock (λ q. cc) (λ q. cc) ∙ b.shared.clock;
        };
        sound = sound;
      }
