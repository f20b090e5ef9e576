-- One access of the kernel in the board that it imagines.
use Rattle.std.proofs.Common.{◌≡◌, inl, inr, ℕ, suc, ◌+◌, ◌<◌, ◌==◌, cond, Bool, true, false, List, [], ◌∷◌, length, drop, get_or-set_same, get_or-set_other, refl, sym, ap, ◌∙◌, subst, arith, eq-eqb, ne_eqb, Option, Some, None}
use Rattle.std.proofs.lemmas.Bool.{cases_eq}
use Rattle.ink_base.specs.declared.event.Event.{Event}
use Rattle.ink_base.specs.declared.event.Origin.TheVariants as origins
use Rattle.ink_base.specs.declared.ids.ThreadId.{ThreadId}
use Rattle.ink_base.specs.declared.entry.Entry.{Entry}
use Rattle.ink_base.specs.declared.entry.Entry.TheVariants as entries
use Rattle.task_isa.specs.declared.program.Program.{Program}
use Rattle.prog_check.specs.Accepted.{IsAccepted}
use Rattle.fram_words.specs.Places as places
use Rattle.fram_words.specs.Places.{Place, Memory, Access, Load, Store, perform, answer, store, same_place, place_of}
use Rattle.fram_words.specs.Shape.{memory_of}
use Rattle.ink_layout.specs.Shape.{shape_of, words_of}
use Rattle.ink_layout.specs.Points.{entry_of_point}
use Rattle.ink_layout.specs.declared.slot_at.SlotAt.{SlotAt}
use Rattle.ink_layout.specs.declared.kernel_point.KernelPoint.{KernelPoint}
use Rattle.ink_layout.specs.declared.kernel_point.KernelPoint.TheVariants as points
use Rattle.push_core.specs.Queue.{event_word, event_at}
use Rattle.push_core.specs.Slots.{full_word}
use Rattle.push_core.specs.Table.{first_row}
use Rattle.never_cut.specs.declared.model.Model.{Model}
use Rattle.never_cut.specs.declared.scan_model.ScanModel.{ScanModel}
use Rattle.never_cut.specs.declared.thread_model.ThreadModel.{ThreadModel}
use Rattle.never_cut.specs.State.{thread_of, with_thread, no_thread, open_model}
use Rattle.never_cut.specs.Entries.{Readings, InScan, IsCalm, effect, released}
use Rattle.never_cut.specs.Journal.{moved, MayNote}
use Rattle.never_cut.specs.Within.{AreShort, Lasts}
use Rattle.never_cut.specs.kept.Actors.{IsFinishing}
use Rattle.never_cut.specs.kept.Steps.{Background}
use Rattle.never_cut.proofs.Lasting.{lasts_less, lasts_step}
use Rattle.never_cut.proofs.Starts.{open_starts}
use Rattle.kernel_account.proofs.Parts.{SameQueues, commit_queues, commit_clock}
use Rattle.kernel_core.specs.Board.{Setup}
use Rattle.kernel_core.specs.First.{IsSetup}
use Rattle.kernel_core.specs.Kernel.{wants, takes, point_found}
use Rattle.kernel_core.specs.kept.Holds.{KernelHolds}
use Rattle.kernel_core.specs.declared.kernel.Kernel.{Kernel}
use Rattle.kernel_core.proofs.KernelTurns.{KernelStep, kernel_steps, noted_sound}
use Rattle.event_queue.specs.declared.view.Call.{Call}
use Rattle.event_queue.specs.declared.view.Call.TheVariants as calls_made
use Rattle.event_queue.specs.Calls.{released_of, seen_of, acked_of}
use Rattle.kernel_actor.specs.Kinds.{IsOwn, kind_of}
use Rattle.kernel_actor.specs.Held.{IsHeld}
use Rattle.kernel_actor.specs.kept.Imagines.{IsAcked, Imagines}
use Rattle.kernel_actor.specs.declared.kind.Kind.TheVariants.{Own, Acknowledge}
use Rattle.kernel_actor.proofs.Rows.{IsStill}
use Rattle.kernel_actor.proofs.Acks.{IsBehind, release_behind}

-- the board's law speaks of a run that begins at the program's start
abbrev pub setup : Program → Readings → Setup
setup program readings = record { program = program; readings = readings; first = open_model program }

pub is_setup : (program : Program) (readings : Readings) → IsAccepted program → AreShort readings → IsSetup (setup program readings)
is_setup program readings accepted short = record { accepted = accepted; short = short; start = open_starts program readings accepted short.few }

-- an entry that releases nothing leaves the queues and the clock
record LeavesQueues (m next : Model) : Type 0 where
  queues : SameQueues m next
  clock : next.clock ≡ m.clock

still_queues : (program : Program) (readings : Readings) (m : Model) (p : KernelPoint) → IsStill p → LeavesQueues m (moved program readings m (entry_of_point p))
still_queues program readings m points.Nothing h = record { queues = record { held = λ u. refl; released = λ u. refl }; clock = refl }
still_queues program readings m points.Scan h = record { queues = record { held = λ u. refl; released = λ u. refl }; clock = refl }
still_queues program readings m (points.Look t) h = record { queues = record { held = λ u. refl; released = λ u. refl }; clock = refl }
still_queues program readings m (points.Commit t) h = record { queues = commit_queues program t.0 m; clock = commit_clock program t.0 m }
still_queues program readings m (points.Release t) h = absurd h

-- what is finished stays so; a commit is made only where nothing is
still_finished : (program : Program) (readings : Readings) (words : Memory) (m : Model) (p : KernelPoint) → IsStill p → Background program readings words m → MayNote program readings m (entry_of_point p) →
    (u : ℕ) → u < length program.threads → (thread_of m u).finished ≡ true → (thread_of (moved program readings m (entry_of_point p)) u).finished ≡ true
still_finished program readings words m points.Nothing h b may u lt is = is
still_finished program readings words m points.Scan h b may u lt is = is
still_finished program readings words m (points.Look t) h b may u lt is = is
still_finished program readings words m (points.Commit t) h b may u lt is = by_scan m.scan refl may.1
  where
    by_scan : (o : Option ScanModel) → m.scan ≡ o → InScan (record m { scan = o }) (λ scan. Rattle.never_cut.specs.Entries.ArePassed program m scan t.0) →
        (thread_of (moved program readings m (entry_of_point (points.Commit t))) u).finished ≡ true
    by_scan None none in_none = absurd in_none
    by_scan (Some scan) some in_some = absurd (let clash : true ≡ false = sym is ∙ b.sound.calm scan some u lt in cc)
still_finished program readings words m (points.Release t) h b may u lt is = absurd h

-- one access fewer may be made
lasts_after : (program : Program) (readings : Readings) (left : ℕ) (m : Model) (o : Option Entry) → MayNote program readings m o → Lasts (suc left) m → Lasts left (moved program readings m o)
lasts_after program readings left m None may h = lasts_less (suc left) left m (omega arith) h
lasts_after program readings left m (Some e) may h = lasts_step program readings left m e (lasts_less (suc left) (left + 1) m (omega arith) h) may

-- an access to an own word does the same to two memories that agree on own words
performs_own : (a : Access) (words real : Memory) → IsOwn (place_of a) → ((p : Place) → IsOwn p → words p ≡ real p) → (p : Place) → IsOwn p → perform words a p ≡ perform real a p
performs_own (Load at) words real mine h p own = h p own
performs_own (Store at v) words real mine h p own = ap (cond (same_place at p) v) (h p own)
performs_own (places.Exchange at e v) words real mine h p own =
    subst (λ (w : ℕ). cond (words at == e) (store words at v) words p ≡ cond (w == e) (store real at v) real p) (h at mine) (by_test (words at == e))
  where
    by_test : (b : Bool) → cond b (store words at v) words p ≡ cond b (store real at v) real p
    by_test true = ap (cond (same_place at p) v) (h p own)
    by_test false = h p own
performs_own (places.Add at n) words real mine h p own = λ j. cond (same_place at p) (h at mine j + n) (h p own j)

-- a store to a word that isn't the kernel's own
store_beside : (words : Memory) (at : Place) (v : ℕ) → (IsOwn at → ⊥) → (p : Place) → IsOwn p → store words at v p ≡ words p
store_beside words at v not p own = (Rattle.fram_words.proofs.Accesses.stored words at v).elsewhere p (λ same. not (subst IsOwn same own))

-- behind an access that acknowledges, if it must, the next one may release
acked_next : (program : Program) (kernel : Kernel) (later : List Call) → ((at : SlotAt) → kind_of kernel ≡ Acknowledge at → acked_of at.thread.0 later ≡ true) → (w : ℕ) → IsAcked (takes program kernel w) later
acked_next program kernel later acks w at is = acks at (subst (IsBehind (kind_of kernel)) is (release_behind program kernel w))

module _ {program : Program} {fram : List ℕ} {calls : List Call} {kernel : Kernel} {left : ℕ} {m : Model} (h : Imagines program fram calls kernel (suc left) m) where
  -- the word that the access finds there
  abbrev pub found : ℕ
  found = answer h.words (wants program kernel)

  -- the state after it
  abbrev pub next_state : Model
  next_state = moved program h.readings m (entry_of_point (point_found program kernel (answer h.words (wants program kernel))))

  begun : IsSetup (setup program h.readings)
  begun = is_setup program h.readings h.background.accepted h.short

  pub turn : KernelStep (setup program h.readings) h.words m (λ i. first_row) kernel
  turn = kernel_steps (setup program h.readings) h.words m (λ i. first_row) kernel begun h.background (lasts_less (suc left) 0 m (omega arith) h.lasts) h.registers

  -- the entry is legal
  pub turn_legal : MayNote program h.readings m (entry_of_point (point_found program kernel (answer h.words (wants program kernel))))
  turn_legal = turn.kept.legal

  background_next : Background program h.readings (perform h.words (wants program kernel)) next_state
  background_next = record {
    accepted = h.background.accepted;
    private = turn.kept.private;
    shared = turn.kept.shared;
    sound = noted_sound (setup program h.readings) m (entry_of_point (point_found program kernel (answer h.words (wants program kernel)))) begun h.background.sound turn.kept.legal;
  }

  -- the access is made; the own words after it are these
  pub turns : (fram' : List ℕ) → ((p : Place) → IsOwn p → perform h.words (wants program kernel) p ≡ memory_of (shape_of program) fram' p) → length fram' ≡ words_of (shape_of program) →
      IsStill (point_found program kernel (answer h.words (wants program kernel))) → ((at : SlotAt) → kind_of kernel ≡ Acknowledge at → acked_of at.thread.0 calls ≡ true) →
      Imagines program fram' calls (takes program kernel (answer h.words (wants program kernel))) left next_state
  turns fram' own count still acks =
      let q = still_queues program h.readings m (point_found program kernel (answer h.words (wants program kernel))) still in
      record {
        words = perform h.words (wants program kernel);
        readings = h.readings;
        short = h.short;
        background = background_next;
        registers = turn.holds;
        lasts = lasts_after program h.readings left m (entry_of_point (point_found program kernel (answer h.words (wants program kernel)))) turn.kept.legal h.lasts;
        count = count;
        own = own;
        released = λ t lt. q.queues.released t ∙ h.released t lt;
        held = λ t lt. subst (IsHeld (seen_of t calls) (released_of t calls)) (sym (q.queues.held t)) (h.held t lt);
        clock = q.clock ∙ h.clock;
        acked = acked_next program kernel calls acks (answer h.words (wants program kernel));
        finished = λ t lt is. still_finished program h.readings h.words m (point_found program kernel (answer h.words (wants program kernel))) still h.background turn.kept.legal t lt (h.finished t lt is);
      }

  -- an own word is loaded or stored
  pub turns_own : (fram' : List ℕ) → IsOwn (place_of (wants program kernel)) → memory_of (shape_of program) fram' ≡ perform (memory_of (shape_of program) fram) (wants program kernel) → length fram' ≡ length fram →
      IsStill (point_found program kernel (answer h.words (wants program kernel))) → kind_of kernel ≡ Own →
      Imagines program fram' calls (takes program kernel (answer h.words (wants program kernel))) left next_state
  turns_own fram' mine stored_there count still kind =
      turns fram' (λ p own. performs_own (wants program kernel) h.words (memory_of (shape_of program) fram) mine h.own p own ∙ ap (λ (w : Memory). w p) (sym stored_there)) (count ∙ h.count) still
      (λ at is. absurd (let clash : Own ≡ Acknowledge at = sym kind ∙ is in cc))

  -- a shared word is loaded, of which the registers take the same as of the imagined one
  pub turns_load : (at : Place) (w : ℕ) → wants program kernel ≡ Load at → takes program kernel w ≡ takes program kernel (answer h.words (wants program kernel)) →
      point_found program kernel w ≡ point_found program kernel (answer h.words (wants program kernel)) → IsStill (point_found program kernel w) → ((s : SlotAt) → kind_of kernel ≡ Acknowledge s → ⊥) →
      Imagines program fram calls (takes program kernel w) left (moved program h.readings m (entry_of_point (point_found program kernel w)))
  turns_load at w wanted same point still not =
      subst (λ (z : Kernel × KernelPoint). Imagines program fram calls z.0 left (moved program h.readings m (entry_of_point z.1))) (sym (λ j. (same j, point j)))
      (turns fram (λ p own. ap (λ (a : Access). perform h.words a p) wanted ∙ h.own p own) h.count (subst IsStill point still) (λ s is. absurd (not s is)))

  -- an acknowledgement is stored
  pub turns_ack : (i v : ℕ) → wants program kernel ≡ Store (places.Ack i) v → IsStill (point_found program kernel (answer h.words (wants program kernel))) →
      ((at : SlotAt) → kind_of kernel ≡ Acknowledge at → acked_of at.thread.0 calls ≡ true) → Imagines program fram calls (takes program kernel (answer h.words (wants program kernel))) left next_state
  turns_ack i v wanted still acks =
      turns fram (λ p own. ap (λ (a : Access). perform h.words a p) wanted ∙ store_beside h.words (places.Ack i) v (λ x. x) p own ∙ h.own p own) h.count still acks

  -- an event that the kernel has finished is the one that its seat has seen next
  pub finished_is_seen : (t i count : ℕ) (f : IsFinishing m t i count) → t < length program.threads →
      (w : ℕ) × (seen_of t calls ≡ Some w) × (w ≡ full_word (released_of t calls) (record { 0 = i }) count f.value)
  finished_is_seen t i count f known = by_seen (seen_of t calls) refl (h.held t known)
    where
      by_seen : (o : Option ℕ) → seen_of t calls ≡ o → IsHeld o (released_of t calls) (thread_of m t).held →
          (w : ℕ) × (seen_of t calls ≡ Some w) × (w ≡ full_word (released_of t calls) (record { 0 = i }) count f.value)
      by_seen None is none = absurd (let clash : [] ≡ record { origin = origins.Source (record { 0 = i }) count; value = f.value } ∷ f.first.0 = sym none ∙ f.first.1 in cc)
      by_seen (Some w) is (e, one, word) =
          let same : e ≡ record { origin = origins.Source (record { 0 = i }) count; value = f.value } = ap (λ (l : List Event). event_at l 0) (sym one ∙ f.first.1) in
          (w, is, word ∙ ap (event_word (released_of t calls)) same)

  -- the slot of a finished event is emptied
  pub turns_release : (t : ThreadId) (n v : ℕ) → t.0 < length program.threads → wants program kernel ≡ Store (places.Slot t.0 n) v → point_found program kernel (answer h.words (wants program kernel)) ≡ points.Release t →
      ((at : SlotAt) → kind_of kernel ≡ Acknowledge at → ⊥) →
      Imagines program fram (calls_made.Release t.0 (released_of t.0 calls) ∷ calls) (takes program kernel (answer h.words (wants program kernel))) left (effect program h.readings m (entries.Release t))
  turns_release t n v known wanted point not =
      let there : t.0 < length m.threads = omega (arith, h.background.sound.shape.threads) in
      let legal = subst (λ (p : KernelPoint). MayNote program h.readings m (entry_of_point p)) point turn.kept.legal in
      let x : ThreadModel = released (thread_of m t.0) in
      let here : thread_of (with_thread m t.0 x) t.0 ≡ x = get_or-set_same m.threads t.0 x no_thread there in
      let r : ℕ = released_of t.0 calls in
      record {
        words = perform h.words (wants program kernel);
        readings = h.readings;
        short = h.short;
        background = subst (λ (p : KernelPoint). Background program h.readings (perform h.words (wants program kernel)) (moved program h.readings m (entry_of_point p))) point background_next;
        registers = subst (λ (p : KernelPoint). KernelHolds program (perform h.words (wants program kernel)) (moved program h.readings m (entry_of_point p)) (takes program kernel (answer h.words (wants program kernel)))) point turn.holds;
        lasts = lasts_after program h.readings left m (Some (entries.Release t)) legal h.lasts;
        count = h.count;
        own = λ p own. ap (λ (a : Access). perform h.words a p) wanted ∙ store_beside h.words (places.Slot t.0 n) v (λ z. z) p own ∙ h.own p own;
        released = λ u lt. elim (cases_eq u t.0) [
          | inl is ↦
              subst (λ w. (thread_of (with_thread m t.0 x) w).released ≡ cond (t.0 == w) (released_of w calls + 1) (released_of w calls)) (sym is)
              (ap (λ (y : ThreadModel). y.released) here ∙ ap (λ (k : ℕ). k + 1) (h.released t.0 known) ∙ ap (λ (b : Bool). cond b (r + 1) r) (sym (eq-eqb t.0 t.0 refl)))
          | inr other ↦
              ap (λ (y : ThreadModel). y.released) (get_or-set_other m.threads t.0 u x no_thread other) ∙ h.released u lt
              ∙ ap (λ (b : Bool). cond b (released_of u calls + 1) (released_of u calls)) (sym (ne_eqb t.0 u (λ q. other (sym q))))
        ];
        held = λ u lt. elim (cases_eq u t.0) [
          | inl is ↦
              subst (λ w. IsHeld (cond (t.0 == w) None (seen_of w calls)) (cond (t.0 == w) (released_of w calls + 1) (released_of w calls)) (thread_of (with_thread m t.0 x) w).held) (sym is)
              (subst (λ (b : Bool). IsHeld (cond b None (seen_of t.0 calls)) (cond b (r + 1) r) (thread_of (with_thread m t.0 x) t.0).held) (sym (eq-eqb t.0 t.0 refl))
              (ap (λ (y : ThreadModel). y.held) here ∙ none_left (seen_of t.0 calls) (h.held t.0 known)))
          | inr other ↦
              subst (λ (z : Bool × ThreadModel). IsHeld (cond z.0 None (seen_of u calls)) (cond z.0 (released_of u calls + 1) (released_of u calls)) z.1.held)
              (sym (λ j. (ne_eqb t.0 u (λ q. other (sym q)) j, get_or-set_other m.threads t.0 u x no_thread other j)))
              (h.held u lt)
        ];
        clock = h.clock;
        acked = acked_next program kernel (calls_made.Release t.0 (released_of t.0 calls) ∷ calls) (λ at is. absurd (not at is)) (answer h.words (wants program kernel));
        finished = λ u lt is. elim (cases_eq u t.0) [
          | inl same ↦
              absurd (let clash : false ≡ true = ap (λ (b : Bool). cond b false (acked_of u calls)) (sym (eq-eqb t.0 u (sym same))) ∙ is in cc)
          | inr other ↦
              ap (λ (y : ThreadModel). y.finished) (get_or-set_other m.threads t.0 u x no_thread other)
              ∙ h.finished u lt (ap (λ (b : Bool). cond b false (acked_of u calls)) (sym (ne_eqb t.0 u (λ q. other (sym q)))) ∙ is)
        ];
      }
    where
      none_left : (o : Option ℕ) → IsHeld o (released_of t.0 calls) (thread_of m t.0).held → drop 1 (thread_of m t.0).held ≡ []
      none_left None is = ap (drop 1) is
      none_left (Some w) (e, one, word) = ap (drop 1) one
