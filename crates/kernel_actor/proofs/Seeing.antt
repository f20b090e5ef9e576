-- What the seat sees goes into the board that is imagined, before the kernel's access finds it there.
use Rattle.std.proofs.Common.{◌≡◌, inl, inr, ℕ, ◌+◌, ◌-◌, ◌^◌, ◌<◌, ◌≤◌, ◌==◌, ◌&&◌, cond, Bool, true, false, List, [], ◌∷◌, ◌++◌, length, refl, sym, ap, ◌∙◌, subst, arith, eq-eqb, ne_eqb, Option, Some, None}
use Rattle.std.proofs.lemmas.Bool.{cases_eq}
use Rattle.ink_base.specs.declared.event.Event.{Event}
use Rattle.ink_base.specs.declared.entry.Entry.TheVariants as entries
use Rattle.task_isa.specs.declared.program.Program.{Program}
use Rattle.prog_check.specs.Lookup.{source_thread}
use Rattle.fram_words.specs.Places as places
use Rattle.fram_words.specs.Places.{Place, Memory, store}
use Rattle.ink_layout.specs.declared.slot_at.SlotAt.{SlotAt}
use Rattle.push_core.specs.Queue.{event_word}
use Rattle.push_core.specs.Slots.{slot_in}
use Rattle.push_core.specs.Table.{greatest_tail}
use Rattle.never_cut.specs.declared.model.Model.{Model}
use Rattle.never_cut.specs.declared.scan_model.ScanModel.{ScanModel}
use Rattle.never_cut.specs.declared.thread_model.ThreadModel.{ThreadModel}
use Rattle.never_cut.specs.declared.pipe_model.PipeModel.{PipeModel}
use Rattle.never_cut.specs.State.{thread_of, no_pipe}
use Rattle.never_cut.specs.Sound.{IsSound}
use Rattle.never_cut.specs.Stands.{flag}
use Rattle.never_cut.specs.Within.{Lasts, LastsThread, HasRoomFor, is_scanning}
use Rattle.never_cut.specs.kept.Actors.{SamePrivate, Follows, without_held}
use Rattle.never_cut.proofs.Follows.{follow_private, same_follows}
use Rattle.never_cut.proofs.SoundStates.{sound_step}
use Rattle.kernel_core.specs.declared.kernel.Kernel.{Kernel}
use Rattle.kernel_core.proofs.Others.{kernel_drifts}
use Rattle.event_queue.specs.declared.view.Call.{Call}
use Rattle.event_queue.specs.declared.view.Call.TheVariants.{Look, LoadClock, StoreAck}
use Rattle.event_queue.specs.Events.{holds_event}
use Rattle.event_queue.specs.Calls.{released_of, seen_of, acked_of, clock_of}
use Rattle.kernel_actor.specs.Kinds.{IsOwn, kind_of}
use Rattle.kernel_actor.specs.Held.{IsHeld}
use Rattle.kernel_actor.specs.kept.Imagines.{Imagines}
use Rattle.kernel_actor.specs.declared.kind.Kind.TheVariants as kinds
use Rattle.kernel_actor.proofs.Pushes.{event_of, push_readings, push_state, push_position, push_words, push_elsewhere, push_here, push_is_other, push_private, push_short, push_background}

-- counts don't change by what the others do
thread_lasts : (left : ℕ) (b : Bool) (x y : ThreadModel) → without_held y ≡ without_held x → LastsThread left b x → LastsThread left b y
thread_lasts left b x y same h = record {
  ended = subst (λ (z : ThreadModel). HasRoomFor left b (z.released + flag z.finished)) (sym same) h.ended;
  served = subst (λ (z : ThreadModel). HasRoomFor left b z.served) (sym same) h.served;
  trapped = subst (λ (z : ThreadModel). HasRoomFor left b z.trapped) (sym same) h.trapped;
  expired = subst (λ (z : ThreadModel). HasRoomFor left b z.expired) (sym same) h.expired;
}

pub lasts_follow : (left : ℕ) (m next : Model) → Follows m next → Lasts left m → Lasts left next
lasts_follow left m next f h =
    let scanning : is_scanning next ≡ is_scanning m = ap (λ (o : Option ScanModel). elim o [ Some scan ↦ true | None ↦ false ]) f.scan in
    record {
      commits = subst (λ (z : Bool × ℕ). HasRoomFor left z.0 z.1) (sym (λ j. (scanning j, f.commits j))) h.commits;
      threads = λ t. subst (λ (b : Bool). LastsThread left b (thread_of next t)) (sym scanning) (thread_lasts left (is_scanning m) (thread_of m t) (thread_of next t) (f.threads t) (h.threads t));
      taken = λ q. subst (λ (z : Bool × List PipeModel). HasRoomFor left z.0 (Rattle.std.specs.Prelude.slice_index_or z.1 q no_pipe).taken) (sym (λ j. (scanning j, f.pipes j))) (h.taken q);
    }

-- the kernel's own words are private
pub own_same : (words new : Memory) → SamePrivate words new → (p : Place) → IsOwn p → new p ≡ words p
own_same words new same (places.Code x n) own = same (places.Code x n) tt
own_same words new same (places.Commit t) own = same (places.Commit t) tt
own_same words new same (places.Page t p c k) own = same (places.Page t p c k) tt
own_same words new same (places.Log t n) own = same (places.Log t n) tt
own_same words new same (places.Ring q n) own = same (places.Ring q n) tt
own_same words new same _ own = absurd own

module _ {program : Program} {fram : List ℕ} {calls : List Call} {kernel : Kernel} {left : ℕ} {m : Model} (h : Imagines program fram calls kernel left m) where
  -- the calls of the seat grow by a look that tells nothing new
  abbrev pub told_nothing : (t p w : ℕ) → ((u : ℕ) → seen_of u (Look t p w ∷ calls) ≡ seen_of u calls) → Imagines program fram (Look t p w ∷ calls) kernel left m
  told_nothing t p w same = record {
    words = h.words;
    readings = h.readings;
    short = h.short;
    background = h.background;
    registers = h.registers;
    lasts = h.lasts;
    count = h.count;
    own = h.own;
    released = h.released;
    held = λ u lt. subst (λ (o : Option ℕ). IsHeld o (released_of u calls) (thread_of m u).held) (sym (same u)) (h.held u lt);
    clock = h.clock;
    acked = h.acked;
    finished = h.finished;
  }

  -- the kernel's finished event is acknowledged
  abbrev pub acknowledges : (t p : ℕ) → (thread_of m t).finished ≡ true → ((at : SlotAt) → kind_of kernel ≡ kinds.Release at → ⊥) → Imagines program fram (StoreAck t p ∷ calls) kernel left m
  acknowledges t p finished not = record {
    words = h.words;
    readings = h.readings;
    short = h.short;
    background = h.background;
    registers = h.registers;
    lasts = h.lasts;
    count = h.count;
    own = h.own;
    released = h.released;
    held = h.held;
    clock = h.clock;
    acked = λ at is. absurd (not at is);
    finished = λ u lt is. elim (cases_eq u t) [
      | inl same ↦ ap (λ v. (thread_of m v).finished) same ∙ finished
      | inr other ↦ h.finished u lt (ap (λ (b : Bool). cond b true (acked_of u calls)) (sym (ne_eqb t u (λ q. other (sym q)))) ∙ is)
    ];
  }

  -- an event is seen that was not seen before: it is imagined to have been published just now
  module _ (i count value : ℕ) (known : i < length program.sources) (few : count < 64) (fits : value < 2 ^ 32) where
    abbrev t : ℕ
    t = source_thread program i

    abbrev seen_state : Model
    seen_state = push_state program h.readings h.words m i count value h.background known few fits

    pub none_held : seen_of (source_thread program i) calls ≡ None → (thread_of m (source_thread program i)).held ≡ []
    none_held unseen =
        subst (λ (o : Option ℕ). IsHeld o (released_of (source_thread program i) calls) (thread_of m (source_thread program i)).held) unseen (h.held (source_thread program i) (h.background.accepted.sources i known))

    pub next_position : seen_of (source_thread program i) calls ≡ None → push_position program h.readings h.words m i count value h.background known few fits ≡ released_of (source_thread program i) calls
    next_position unseen = omega (arith, h.released (source_thread program i) (h.background.accepted.sources i known), ap length (none_held unseen))

    abbrev pub sees : seen_of (source_thread program i) calls ≡ None → released_of (source_thread program i) calls < greatest_tail →
        holds_event (released_of (source_thread program i) calls) (slot_in (event_word (released_of (source_thread program i) calls) (event_of i count value))) ≡ true →
        Imagines program fram (Look (source_thread program i) (released_of (source_thread program i) calls) (event_word (released_of (source_thread program i) calls) (event_of i count value)) ∷ calls) kernel left
        (push_state program h.readings h.words m i count value h.background known few fits)
    sees unseen small shows =
        let queue : ℕ = source_thread program i in
        let r : ℕ = released_of (source_thread program i) calls in
        let e : Event = event_of i count value in
        let b = h.background in
        let here = push_here program h.readings h.words m i count value b known few fits in
        let other_of = push_elsewhere program h.readings h.words m i count value b known few fits in
        let follows = push_is_other program h.readings h.words m i count value b known few fits in
        let private = push_private program h.readings h.words m i count value b known few fits in
        record {
          words = push_words program h.readings h.words m i count value b known few fits;
          readings = push_readings program h.readings h.words m i count value b known few fits;
          short = push_short program h.readings h.words m i count value b known few fits;
          background = push_background program h.readings h.words m i count value b known few fits (none_held unseen) (omega (arith, next_position unseen));
          registers = kernel_drifts program h.words _ m _ kernel private follows h.registers;
          lasts = lasts_follow left m _ follows h.lasts;
          count = h.count;
          own = λ p own. own_same h.words _ private p own ∙ h.own p own;
          released = λ u lt. ap (λ (x : ThreadModel). x.released) (follows.threads u) ∙ h.released u lt;
          held = λ u lt. elim (cases_eq u (source_thread program i)) [
            | inl is ↦
                subst (λ v. IsHeld (cond (queue == v && r == released_of v calls && holds_event r (slot_in (event_word r e))) (Some (event_word r e)) (seen_of v calls)) (released_of v calls) (thread_of seen_state v).held) (sym is)
                (subst (λ (o : Option ℕ). IsHeld o r (thread_of seen_state queue).held)
                (sym (λ j. cond (eq-eqb queue queue refl j && eq-eqb r r refl j && shows j) (Some (event_word r e)) (seen_of queue calls)))
                (e, ap (λ (x : ThreadModel). x.held) here ∙ ap (λ (l : List Event). l ++ e ∷ []) (none_held unseen), refl))
            | inr other ↦
                subst (λ (z : Option ℕ × ThreadModel). IsHeld z.0 (released_of u calls) z.1.held)
                (sym (λ j. (cond (ne_eqb queue u (λ q. other (sym q)) j && r == released_of u calls && holds_event r (slot_in (event_word r e))) (Some (event_word r e)) (seen_of u calls), other_of u other j)))
                (h.held u lt)
          ];
          clock = h.clock;
          acked = h.acked;
          finished = λ u lt is. ap (λ (x : ThreadModel). x.finished) (follows.threads u) ∙ h.finished u lt is;
        }

  -- the clock is imagined to have gone on to what the seat has loaded
  pub clock_private : (w : ℕ) → SamePrivate h.words (store h.words places.Clock w)
  clock_private w (places.Code x n) own = refl
  clock_private w (places.Commit t) own = refl
  clock_private w (places.Page t p c k) own = refl
  clock_private w (places.Log t n) own = refl
  clock_private w (places.Ring q n) own = refl
  clock_private w (places.Ack i) own = refl
  clock_private w _ own = absurd own

  pub clock_follows : (w : ℕ) → clock_of calls ≤ w → Follows m (record m { clock = w })
  clock_follows w later = same_follows m (record m { clock = w }) refl refl refl refl refl refl (omega (arith, h.clock))

  abbrev pub ticks : (w : ℕ) → clock_of calls ≤ w → w < 2 ^ 47 → Imagines program fram (LoadClock w ∷ calls) kernel left (record m { clock = w })
  ticks w later range =
      let b = h.background in
      let sum : m.clock + (w - m.clock) ≡ w = omega (arith, h.clock) in
      record {
        words = store h.words places.Clock w;
        readings = h.readings;
        short = h.short;
        background = record {
          accepted = b.accepted;
          private = follow_private h.words (store h.words places.Clock w) program m (record m { clock = w }) (clock_private w) (clock_follows w later) b.private;
          shared = record { queues = b.shared.queues; small = b.shared.small; clock = refl };
          sound = subst (λ (c : ℕ). IsSound program h.readings (record m { clock = c })) sum
              (sound_step program h.readings m (entries.Tick (w - m.clock)) b.accepted h.short b.sound (omega arith));
        };
        registers = kernel_drifts program h.words (store h.words places.Clock w) m (record m { clock = w }) kernel (clock_private w) (clock_follows w later) h.registers;
        lasts = lasts_follow left m (record m { clock = w }) (clock_follows w later) h.lasts;
        count = h.count;
        own = λ p own. own_same h.words (store h.words places.Clock w) (clock_private w) p own ∙ h.own p own;
        released = h.released;
        held = h.held;
        clock = omega (arith, h.clock);
        acked = h.acked;
        finished = h.finished;
      }
