-- After the store of the commit word the words stand for what the commit makes of the state.
use Rattle.task_run.proofs.Common.{◌≡◌, ◌≢◌, ℕ, ◌+◌, ◌^◌, ◌<◌, ◌≤◌, true, false, List, ◌∷◌, length, get_or, arith, refl, ap, ◌∙◌, sym, subst, inl, inr, Option, Some, None, IsSome, All, ◌==◌, ForSome, cases_eq, xor_lt, All-filter, Event, Origin, Output, Commit, Tail, Memory, store, origin_word, store-same, store-other, committed, working_mask, Buffer, commit_committed, commit_other, Program, Sent, IsAccepted, thread_def, Pick, pages_of, Model, ScanModel, ThreadModel, thread_of, queue_of, is_running, Readings, Legal, ArePassed, IsCalm, is_of_queue, outputs_of, Saved, saved, thread_words, log_of, AreLogged, StandsThread, StandsPrivate, slots_of, StandsQueue, published, IsSound, HasStamps, StandsForKernel, Begins, picked_begins, Ending, Execution, StoreCommit, after_commit, release_phase, at_phase, assignment, whole, result, served, rings_of, AreSent, Serving, Releasing, Knows}
use Rattle.ink_base.specs.declared.event.Origin.TheVariants as origins
use Rattle.ink_base.specs.declared.entry.Entry.TheVariants as entries
use Rattle.never_cut.proofs.SoundParts.{parts_of}
use Rattle.never_cut.proofs.SoundCommits.{commit_sound}
use Rattle.task_run.specs.declared.ending.Ending.TheVariants as endings
use Rattle.task_run.proofs.Words.{words-of_stamp}
use Rattle.task_run.proofs.Accesses.{machine_at, picked_time}
use Rattle.task_run.proofs.Owned.{AreOwn, own_result}
use Rattle.task_run.proofs.Effects.{thread-own, thread-other}
use Rattle.task_run.proofs.Commits.{own_thread, next_pipes, next_timers, next_model, commit-picked}
use Rattle.task_run.proofs.NextStates.{IsConsumable, own-saved, other-saved, idle_there}
use Rattle.task_run.proofs.NextThreads.{IsServed, finishes, serves}
use Rattle.task_run.proofs.PipeRings.{begun_stands}

-- a queue stands by its events and its released count alone
queue_as : (places : ℕ) (slot : ℕ → ℕ) (tail : ℕ) (x y : ThreadModel) → y.held ≡ x.held → y.released ≡ x.released → StandsQueue places slot tail (queue_of x) → StandsQueue places slot tail (queue_of y)
queue_as places slot tail x y held released q =
    let mid : ThreadModel = record x { held = y.held; released = y.released } in
    let same : mid ≡ x = ap (λ h. record x { held = h; released = y.released }) held ∙ ap (λ n. record x { released = n }) released in
    let k : StandsQueue places slot tail (queue_of mid) = subst (λ z. StandsQueue places slot tail (queue_of z)) (sym same) q in
    record { room = k.room; full_slots = k.full_slots; empty_slots = k.empty_slots; tail_near = k.tail_near }

published_of : (x y : ThreadModel) → y.held ≡ x.held → y.released ≡ x.released → published (queue_of y) ≡ published (queue_of x)
published_of x y held released = ap (λ h. y.released + length h) held ∙ ap (λ n. n + length x.held) released

-- an event whose service begins is consumed from what is there
consumable : (program : Program) (m : Model) (t time : ℕ) (o : Origin) (value : ℕ) → Begins program m t time (record { origin = o; value = value }) → IsConsumable program m t o
consumable program m t time (origins.Source source count) value h = tt
consumable program m t time (origins.Pipe pipe item) value h = record { known = h.0; reader = h.1; number = h.3; some = h.2 }
consumable program m t time (origins.Timer timer deadline) value h = record { known = h.0; thread = h.1 }

module _ (program : Program) (readings : Readings) (m : Model) (words : Memory) (pick : Pick) (stamp : ℕ) (b : Buffer) (ending : Ending) (e : Execution)
    (accepted : IsAccepted program) (sound : IsSound program readings m) (h : Serving program words m (machine_at pick stamp b ending e StoreCommit)) where
  abbrev t : ℕ
  t = pick.thread.0

  abbrev next : Model
  next = next_model program m pick

  abbrev pub next_words : Memory
  next_words = store words (Commit pick.thread.0) (working_mask b)

  abbrev sends : List Sent
  sends = (result (assignment program m pick) (saved program m t)).sends

  abbrev outs : List ℕ
  outs = (result (assignment program m pick) (saved program m t)).outs

  own_is : thread_of next t ≡ own_thread program m pick
  own_is = thread-own t (own_thread program m pick) (next_pipes program m pick) (next_timers program m pick) outs m (rw sound.shape.threads h.picked.known)

  other_is : (u : ℕ) → u ≢ t → thread_of next u ≡ thread_of m u
  other_is u ne = thread-other t u (own_thread program m pick) (next_pipes program m pick) (next_timers program m pick) outs m ne

  is_served : IsServed pick.event ending (thread_of m t) (own_thread program m pick)
  is_served =
      serves pick.event pick.time (assignment program m pick).limit (thread_of m t).state (whole (assignment program m pick) (saved program m t)) ending (thread_of m t)
      (h.picked.calm t h.picked.known) (assignment program m pick).late h.progress.0.end

  there : pick.running ≡ None → IsConsumable program m t pick.event.origin
  there idle = consumable program m t h.picked.scan.time pick.event.origin pick.event.value (picked_begins program readings words m pick sound h.picked idle)

  own_effects : AreOwn program t (result (assignment program m pick) (saved program m t))
  own_effects = own_result program readings m pick accepted sound h.picked.known

  -- the working copy is what the state after the commit says
  own_words_saved : h.y ≡ saved program next t
  own_words_saved =
      h.progress.0.is
      ∙ (ap (λ n. served (saved program m t) (assignment program m pick) pick n ending) h.stamp
      ∙ sym (own-saved program m pick ending sound.shape h.picked.known h.picked.running (h.picked.calm t h.picked.known) there own_effects h.progress.0.end))

  own_words : (w : ℕ) → committed next_words t w ≡ get_or (thread_words (saved program next t) h.s h.o h.v) w 0
  own_words w =
      commit_committed words t (working_mask b) w
      ∙ (h.buffered.words w ∙ ap (λ (z : Saved). get_or (thread_words z h.s h.o h.v) w 0) own_words_saved)

  pub commit_legal : Legal program readings m (entries.Commit pick.thread)
  commit_legal =
      let p = h.picked in
      let in_scan : Option ScanModel → Type 0 = λ s. elim s [ None ↦ ⊥ | Some scan ↦ ArePassed program m scan pick.thread.0 ] in (
        p.known,
        subst in_scan (sym p.scanned) p.passed,
        subst (λ o. IsSome o) (sym p.pending_is) refl,
      )

  -- each output has the stamp of a commit that was made by then
  outputs_reached : All (λ (o : Output). o.stamp ≤ m.commits + 1) next.outputs
  outputs_reached =
      let parts = commit_sound program readings m pick.thread accepted (parts_of program readings m sound) commit_legal in
      let stamps : HasStamps next.commits next.outputs = subst (λ (k : Model). HasStamps k.commits k.outputs) (commit-picked program words m pick h.picked) parts.stamps in
      λ k d lt. (stamps.made k d lt).1

  own_stands : StandsThread words program m t → StandsThread next_words program next t
  own_stands stands = record {
    stamp = h.s;
    origin = h.o;
    value = h.v;
    block = own_words;
    event = λ q is.
        let same : q ≡ pick.event = is_served.event q (sym (ap (λ (z : ThreadModel). z.event) own_is) ∙ is) in
        (h.progress.0.origin ∙ ap (λ (x : Event). origin_word x.origin) (sym same), h.progress.0.value ∙ ap (λ (x : Event). x.value) (sym same));
    log = subst (λ (z : Saved). AreLogged (log_of words t) z.outputs) own_words_saved h.logged;
    reached = subst (λ n. All (λ (o : Output). o.stamp ≤ n) (outputs_of next t)) (sym (h.progress.1 ∙ ap (λ n. n + 1) h.stamp))
        (All-filter (λ (o : Output). o.thread.0 == t) (λ (o : Output). o.stamp ≤ m.commits + 1) next.outputs outputs_reached);
    pages = subst (λ c. c < 2 ^ pages_of (thread_def program t)) (sym (store-same words (Commit pick.thread.0) (working_mask b)))
        (xor_lt (pages_of (thread_def program t)) b.commit b.dirty (subst (λ c. c < 2 ^ pages_of (thread_def program t)) (sym h.buffered.commit) stands.pages) h.pages);
  }

  saved_other : (u : ℕ) → u ≢ t → saved program next u ≡ saved program m u
  saved_other u ne = other-saved program m pick ending sound.shape h.picked.known h.picked.running (h.picked.calm t h.picked.known) there own_effects u ne

  other_stands : (u : ℕ) → u ≢ t → StandsThread words program m u → StandsThread next_words program next u
  other_stands u ne k = record {
    stamp = k.stamp;
    origin = k.origin;
    value = k.value;
    block = λ w.
        commit_other words t u (working_mask b) w (λ q. ne (sym q))
        ∙ (k.block w ∙ ap (λ (z : Saved). get_or (thread_words z k.stamp k.origin k.value) w 0) (sym (saved_other u ne)));
    event = subst (λ (z : ThreadModel). ForSome z.event (λ q. (k.origin ≡ origin_word q.origin) × (k.value ≡ q.value))) (sym (other_is u ne)) k.event;
    log = subst (λ (z : Saved). AreLogged (log_of words u) z.outputs) (sym (saved_other u ne)) k.log;
    reached = subst (λ (z : Saved). All (λ (o : Output). o.stamp ≤ k.stamp) z.outputs) (sym (saved_other u ne)) k.reached;
    pages = subst (λ c. c < 2 ^ pages_of (thread_def program u))
        (sym (store-other words (Commit pick.thread.0) (Commit u) (working_mask b) λ e. ne (let same : u ≡ pick.thread.0 = cc in same))) k.pages;
  }

  own_stamp : committed next_words t 0 ≡ m.commits + 1
  own_stamp = own_words 0 ∙ (words-of_stamp (saved program next t) h.s h.o h.v ∙ (h.progress.1 ∙ ap (λ n. n + 1) h.stamp))

  pub commit_private : StandsPrivate words program m → StandsPrivate next_words program next
  commit_private stands = record {
    code = λ x n. stands.code x n;
    threads = λ u known.
        elim (cases_eq u t) [
          | inl same ↦ subst (λ z. StandsThread next_words program next z) (sym same) (own_stands (stands.threads t h.picked.known))
          | inr ne ↦ other_stands u ne (stands.threads u known)
        ];
    stamps = λ u known.
        elim (cases_eq u t) [
          | inl same ↦ subst (λ z. committed next_words z 0 ≤ m.commits + 1) (sym same) (let is = own_stamp in omega arith)
          | inr ne ↦ rw (commit_other words t u (working_mask b) 0 (λ q. ne (sym q))) (let le = stands.stamps u known in omega arith)
        ];
    newest = inr (t, h.picked.known, own_stamp);
    pipes = λ q known.
        begun_stands (rings_of words) program m t sends (is_running (thread_of m t)) pick.event.origin sound.shape
        (idle_there program m pick ending sound.shape h.picked.known h.picked.running (h.picked.calm t h.picked.known) there own_effects)
        (subst (λ l. AreSent (rings_of words) program m.pipes l) h.progress.0.sent h.sent) q known;
  }

  pub commit_kernel : StandsForKernel words program m → StandsForKernel next_words program next
  commit_kernel k = record {
    queues = λ u known.
        elim (cases_eq u t) [
          | inl same ↦ subst (λ z. StandsQueue (thread_def program z).queue (slots_of words z) (words (Tail z)) (queue_of (thread_of next z))) (sym same)
              (subst (λ z. StandsQueue (thread_def program t).queue (slots_of words t) (words (Tail t)) (queue_of z)) (sym own_is)
              (queue_as (thread_def program t).queue (slots_of words t) (words (Tail t)) (thread_of m t) (own_thread program m pick) is_served.held is_served.released
              (k.queues t h.picked.known)))
          | inr ne ↦ subst (λ z. StandsQueue (thread_def program u).queue (slots_of words u) (words (Tail u)) (queue_of z)) (sym (other_is u ne)) (k.queues u known)
        ];
    small = λ u known.
        elim (cases_eq u t) [
          | inl same ↦
              let is : published (queue_of (thread_of next t)) ≡ published (queue_of (thread_of m t)) =
              ap (λ x. published (queue_of x)) own_is ∙ published_of (thread_of m t) (own_thread program m pick) is_served.held is_served.released
              in subst (λ z. published (queue_of (thread_of next z)) < 2 ^ 20) (sym same) (rw is (k.small t h.picked.known))
          | inr ne ↦ subst (λ z. published (queue_of z) < 2 ^ 20) (sym (other_is u ne)) (k.small u known)
        ];
    clock = k.clock;
  }

  -- no other thread has a finished event
  others_calm : (u : ℕ) → u < length program.threads → u ≢ t → (thread_of next u).finished ≡ false
  others_calm u known ne = ap (λ (z : ThreadModel). z.finished) (other_is u ne) ∙ h.picked.calm u known

  own_finished : (thread_of next t).finished ≡ finishes ending pick.event
  own_finished = ap (λ (z : ThreadModel). z.finished) own_is ∙ is_served.finished

  calm : finishes ending pick.event ≡ false → IsCalm program next
  calm none u known =
      elim (cases_eq u t) [
        | inl same ↦ subst (λ z. (thread_of next z).finished ≡ false) (sym same) (own_finished ∙ none)
        | inr ne ↦ others_calm u known ne
      ]

  -- what the registers tell where a queue event is finished
  releasing : (source count : ℕ) → pick.event ≡ record { origin = origins.Source (record { 0 = source }) count; value = pick.event.value } → finishes ending pick.event ≡ true →
      (is_held : (rest : List Event) × ((thread_of m t).held ≡ pick.event ∷ rest)) → Releasing program next pick stamp source count
  releasing source count is done is_held = record {
    known = h.picked.known;
    commits = ap (λ n. n + 1) h.stamp;
    time = picked_time program readings words m pick sound h.picked;
    position = h.picked.position ∙ sym (ap (λ (z : ThreadModel). z.released) own_is ∙ is_served.released);
    finishing = record {
      value = pick.event.value;
      first = (is_held.0, ap (λ (z : ThreadModel). z.held) own_is ∙ (is_served.held ∙ (is_held.1 ∙ ap (λ q. q ∷ is_held.0) is)));
      finished = own_finished ∙ done;
    };
    others = others_calm;
  }

  -- what they tell where the service is over
  ended_by : (o : Origin) → finishes ending pick.event ≡ is_of_queue pick.event → pick.event.origin ≡ o →
      Knows program next_words next (at_phase (machine_at pick stamp b ending e StoreCommit) (release_phase o))
  ended_by (origins.Source source count) over is =
      let queued : is_of_queue pick.event ≡ true = ap (λ o. is_of_queue (record (pick.event) { origin = o })) is in
      releasing source.0 count (ap (λ o. record (pick.event) { origin = o }) is) (over ∙ queued) (h.picked.held queued)
  ended_by (origins.Pipe pipe item) over is = (ap (λ n. n + 1) h.stamp, calm (over ∙ ap (λ o. is_of_queue (record (pick.event) { origin = o })) is))
  ended_by (origins.Timer timer deadline) over is = (ap (λ n. n + 1) h.stamp, calm (over ∙ ap (λ o. is_of_queue (record (pick.event) { origin = o })) is))

  -- and at every end
  knows_by : (k : Ending) → ending ≡ k → Knows program next_words next (at_phase (machine_at pick stamp b ending e StoreCommit) (after_commit k pick.event.origin))
  knows_by (endings.Next task) is = (ap (λ n. n + 1) h.stamp, calm (ap (λ z. finishes z pick.event) is))
  knows_by endings.Done is = ended_by pick.event.origin (ap (λ z. finishes z pick.event) is) refl
  knows_by endings.Trapped is = ended_by pick.event.origin (ap (λ z. finishes z pick.event) is) refl
  knows_by endings.Expired is = ended_by pick.event.origin (ap (λ z. finishes z pick.event) is) refl

  pub commit_knows : Knows program next_words next (at_phase (machine_at pick stamp b ending e StoreCommit) (after_commit ending pick.event.origin))
  commit_knows = knows_by ending refl
