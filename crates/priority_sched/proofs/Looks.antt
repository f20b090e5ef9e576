-- The look at the slot of the next event of an idle thread's queue.
use Rattle.priority_sched.proofs.Common.{◌≡◌, ℕ, ◌%◌, ◌<◌, List, [], ◌∷◌, length, Option, Some, None, arith, refl, ap, ◌∙◌, sym, subst, eq-eqb, ThreadId, Event, Program, Memory, Load, slot_in, event_slot, thread_def, Model, ScanModel, thread_of, Readings, IsPassed, InScan, MayLook, looked, IsQueued, IsFirstHeld, Background, IsKept, with_scan, scan_private, scan_queues, pending-first, Idle, Slot, priority_of, queue_pick, scan_at, event_at, after_look, look_point, at_pipe, next_pipe, IsBefore, KnowsIdle, ScanHolds, ScanStep}
use Rattle.ink_base.specs.declared.event.Origin as origin
use Rattle.ink_base.specs.declared.event.Origin.TheVariants as origins
use Rattle.fram_words.specs.Places as places
use Rattle.ink_layout.specs.Points.{entry_of_point}
use Rattle.ink_layout.specs.declared.pick.Pick.{Pick}
use Rattle.never_cut.specs.Journal.{moved}
use Rattle.never_cut.specs.kept.Picked.{IsLoaded}
use Rattle.never_cut.proofs.Slots.{readable, first_slot, empty_slot}
use Rattle.priority_sched.proofs.Looked.{looked-last, looked-other, looked-more}
use Rattle.priority_sched.proofs.Nexts.{to_pipe}
use Rattle.never_cut.proofs.Loads.{load_kept}

-- what a load of the slot of position p keeps, where it shows this
record LookStep (program : Program) (readings : Readings) (words : Memory) (m : Model) (thread : ThreadId) (time c p : ℕ) (found : Option Event) : Type 0 where
  kept : IsKept program readings words m (Load (places.Slot thread.0 (p % (thread_def program thread.0).queue))) (entry_of_point (look_point thread found))
  holds : ScanHolds program words (moved program readings m (entry_of_point (look_point thread found))) (after_look program thread time c p found)

-- the scan after a look
abbrev noted_in : ThreadId → Option ScanModel → Option ScanModel
noted_in thread None = None
noted_in thread (Some scan) = Some (looked thread scan)

may_look : (m : Model) (thread : ThreadId) (scan : ScanModel) → m.scan ≡ Some scan → MayLook m scan thread.0 → InScan m (λ scan. MayLook m scan thread.0)
may_look m thread scan is h =
    subst (λ (s : Option ScanModel). elim s as (λ _. Type 0) [ None ↦ ⊥ | Some scan ↦ MayLook m scan thread.0 ]) (sym is) h

-- one that was passed stays so
passed_more : (program : Program) (m : Model) (thread : ThreadId) (scan : ScanModel) (u : ℕ) → IsPassed program m scan u →
    IsPassed program (with_scan m (Some (looked thread scan))) (looked thread scan) u
passed_more program m thread scan u h = record { looked = looked-more scan.looked thread u h.looked; idle = h.idle; nothing = h.nothing }

-- after the look the thread itself is looked at, and no other
idle_next : (program : Program) (words : Memory) (m : Model) (thread : ThreadId) (time c p : ℕ) → (thread_of m thread.0).running ≡ None → c ≡ words (places.Commit thread.0) →
    p ≡ (thread_of m thread.0).released → (r : IsBefore program m thread.0 time) →
    KnowsIdle program words (with_scan m (Some (looked thread r.scan))) thread.0 time (record { commit_word = c; position = p })
idle_next program words m thread time c p idle commit_word position r = record {
  scan = looked thread r.scan;
  scanned = refl;
  time_is = r.time_is;
  passed = λ u within above. passed_more program m thread r.scan u (r.passed u within (omega arith));
  rest = λ u within low.
      looked-other r.scan.looked thread u (λ e. let same : priority_of program u ≡ priority_of program thread.0 = ap (priority_of program) e in absurd (omega arith))
      ∙ r.rest u within (omega arith);
  looked = looked-last r.scan.looked thread;
  running = idle;
  commit_word = commit_word;
  position = position;
}

-- nothing was found: the thread is noted
look_none : (program : Program) (readings : Readings) (words : Memory) (m : Model) (thread : ThreadId) (time c p : ℕ) → Background program readings words m →
    ScanHolds program words m (scan_at thread time (Slot c p)) → (thread_of m thread.0).held ≡ [] → LookStep program readings words m thread time c p None
look_none program readings words m thread time c p b h none =
    let r : IsBefore program m thread.0 time = h.knows.0 in
    let idle : Idle = record { commit_word = c; position = p } in
    record {
      kept = record {
        legal = (h.known, may_look m thread r.scan r.scanned (r.rest thread.0 h.known (omega arith), h.knows.3, none));
        allowed = tt;
        private = scan_private words program m (noted_in thread m.scan) b.private;
        shared = scan_queues words program m (noted_in thread m.scan) b.shared;
      };
      holds =
          subst (λ (s : Option ScanModel). ScanHolds program words (with_scan m (noted_in thread s)) (at_pipe program thread time idle (next_pipe program thread.0 0))) (sym r.scanned)
          (to_pipe program words (with_scan m (Some (looked thread r.scan))) thread time idle 0 b.accepted h.known h.calm
          (idle_next program words m thread time c p h.knows.3 h.knows.1 h.knows.2 r) (λ k lt. absurd (omega arith)) (omega arith));
    }

-- the first event of a queue is of one of its sources
queued_first : (program : Program) (readings : Readings) (words : Memory) (m : Model) (t : ℕ) (e : Event) → Background program readings words m → t < length program.threads →
    IsFirstHeld m t e → IsQueued program t e
queued_first program readings words m t e b known first =
    let x = b.sound.threads t known in
    let some : 0 < length (thread_of m t).held = rw first.1 (omega arith) in
    subst (IsQueued program t) (ap (λ l. Rattle.push_core.specs.Queue.event_at l 0) first.1) (x.queued 0 some)

-- and needs no word of a pipe or a timer
queue_loaded : (program : Program) (t : ℕ) (o : origin.Origin) (value : ℕ) (pick : Pick) → IsQueued program t (record { origin = o; value = value }) →
    IsLoaded pick (record { origin = o; value = value })
queue_loaded program t (origins.Source source count) value pick h = tt
queue_loaded program t (origins.Pipe pipe item) value pick h = absurd h
queue_loaded program t (origins.Timer timer deadline) value pick h = absurd h

-- the first event of the queue was found
look_some : (program : Program) (readings : Readings) (words : Memory) (m : Model) (thread : ThreadId) (time c p : ℕ) (e : Event) → Background program readings words m →
    ScanHolds program words m (scan_at thread time (Slot c p)) → IsFirstHeld m thread.0 e → LookStep program readings words m thread time c p (Some e)
look_some program readings words m thread time c p e b h first =
    let r : IsBefore program m thread.0 time = h.knows.0 in
    let idle : (thread_of m thread.0).running ≡ None = h.knows.3 in
    record {
      kept = load_kept program readings words m (places.Slot thread.0 (p % (thread_def program thread.0).queue)) b;
      holds = record {
        known = h.known;
        calm = h.calm;
        knows = record {
          known = h.known;
          calm = h.calm;
          scan = r.scan;
          scanned = r.scanned;
          time = r.time_is;
          passed = λ u within above. r.passed u within (omega arith);
          pending_is = pending-first program m thread.0 r.scan e r.scanned idle (r.rest thread.0 h.known (omega arith)) (h.calm thread.0 h.known) first;
          held = λ of_queue. first;
          running = sym idle;
          position = h.knows.2;
          commit_word = h.knows.1;
          first = λ task runs. absurd cc;
          loaded = λ begins. queue_loaded program thread.0 e.origin e.value (queue_pick thread time c p e) (queued_first program readings words m thread.0 e b h.known first);
        };
      };
    }

-- what a slot shows at the position of its event is the event
event_at-event_slot : (program : Program) (t p q : ℕ) (o : origin.Origin) (value : ℕ) → IsQueued program t (record { origin = o; value = value }) → q ≡ p →
    event_at p (Some (event_slot q (record { origin = o; value = value }))) ≡ Some (record { origin = o; value = value })
event_at-event_slot program t p q (origins.Source source count) value h e = rw (eq-eqb q p e) refl
event_at-event_slot program t p q (origins.Pipe pipe item) value h e = absurd h
event_at-event_slot program t p q (origins.Timer timer deadline) value h e = absurd h

-- what the slot of the next event shows
look_found : (program : Program) (readings : Readings) (words : Memory) (m : Model) (thread : ThreadId) (time c p : ℕ) (held : List Event) → Background program readings words m →
    ScanHolds program words m (scan_at thread time (Slot c p)) → (thread_of m thread.0).held ≡ held →
    LookStep program readings words m thread time c p (event_at p (slot_in (words (places.Slot thread.0 (p % (thread_def program thread.0).queue)))))
look_found program readings words m thread time c p [] b h is =
    let size : ℕ = (thread_def program thread.0).queue in
    let queue = readable program readings words m thread.0 b h.known in
    let shows = empty_slot program thread.0 size _ _ (thread_of m thread.0) queue is in
    subst (λ o. LookStep program readings words m thread time c p (event_at p o))
    (sym (ap (λ k. slot_in (words (places.Slot thread.0 (k % size)))) h.knows.2 ∙ shows)) (look_none program readings words m thread time c p b h is)
look_found program readings words m thread time c p (e ∷ rest) b h is =
    let size : ℕ = (thread_def program thread.0).queue in
    let queue = readable program readings words m thread.0 b h.known in
    let shows = first_slot program thread.0 size _ _ (thread_of m thread.0) e rest queue is in
    let queued : IsQueued program thread.0 e = queued_first program readings words m thread.0 e b h.known (rest, is) in
    subst (LookStep program readings words m thread time c p)
    (sym (ap (λ k. event_at p (slot_in (words (places.Slot thread.0 (k % size))))) h.knows.2
    ∙ (ap (event_at p) shows ∙ event_at-event_slot program thread.0 p (thread_of m thread.0).released e.origin e.value queued (sym h.knows.2))))
    (look_some program readings words m thread time c p e b h (rest, is))

pub slot_step : (program : Program) (readings : Readings) (words : Memory) (m : Model) (thread : ThreadId) (time c p : ℕ) → Background program readings words m →
    ScanHolds program words m (scan_at thread time (Slot c p)) → ScanStep program readings words m (scan_at thread time (Slot c p))
slot_step program readings words m thread time c p b h =
    let s = look_found program readings words m thread time c p (thread_of m thread.0).held b h refl in
    record { kept = s.kept; holds = s.holds }
