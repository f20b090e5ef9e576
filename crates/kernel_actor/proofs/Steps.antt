-- An access whose answer is known leaves the actor standing.
use Rattle.std.proofs.Common.{◌≡◌, inl, inr, ℕ, suc, cond, Bool, true, List, [], ◌∷◌, ◌++◌, length, refl, sym, ap, ◌∙◌, subst, arith, eq-eqb, Option, Some}
use Rattle.ink_base.specs.declared.event.Event.{Event}
use Rattle.task_isa.specs.declared.program.Program.{Program}
use Rattle.fram_words.specs.Places as places
use Rattle.fram_words.specs.Places.{Place, Load, Store, answer, perform, place_of}
use Rattle.fram_words.specs.Shape.{memory_of}
use Rattle.fram_words.specs.Accesses.{at_address}
use Rattle.fram_words.specs.declared.layout.Layout.{Layout}
use Rattle.fram_words.proofs.Accesses.{performed_there, performed_length}
use Rattle.ink_layout.specs.Shape.{shape_of}
use Rattle.ink_layout.specs.Points.{entry_of_point}
use Rattle.ink_layout.specs.declared.slot_at.SlotAt.{SlotAt}
use Rattle.ink_layout.specs.declared.kernel_point.KernelPoint.{KernelPoint}
use Rattle.ink_layout.specs.declared.kernel_point.KernelPoint.TheVariants as points
use Rattle.never_cut.specs.declared.model.Model.{Model}
use Rattle.never_cut.specs.State.{thread_of}
use Rattle.never_cut.specs.Journal.{moved, MayNote}
use Rattle.kernel_account.specs.Follows.{entry_at}
use Rattle.kernel_account.specs.declared.entry.KernelEntry.{KernelEntry}
use Rattle.kernel_account.specs.declared.entry.KernelEntry.TheVariants as told
use Rattle.kernel_core.specs.Kernel.{wants, takes, point_found}
use Rattle.kernel_core.specs.declared.kernel.Kernel.{Kernel}
use Rattle.event_queue.specs.declared.view.Call.{Call}
use Rattle.event_queue.specs.declared.view.Call.TheVariants as made
use Rattle.event_queue.specs.declared.view.View.{View}
use Rattle.event_queue.specs.Calls.{released_of, acked_of}
use Rattle.event_queue.specs.Views.{calls_of}
use Rattle.kernel_actor.specs.Accounts.{AreFound, entry_made, noted}
use Rattle.kernel_actor.specs.Kinds.{kind_of}
use Rattle.kernel_actor.specs.Lays.{IsLayOf}
use Rattle.kernel_actor.specs.kept.Answered.{Answered}
use Rattle.kernel_actor.specs.kept.Imagines.{Imagines}
use Rattle.kernel_actor.specs.kept.Standing.{Accounts, Standing}
use Rattle.kernel_actor.specs.declared.kind.Kind.{Kind}
use Rattle.kernel_actor.specs.declared.kind.Kind.TheVariants.{Own, Clock, Look, Acknowledge, Release}
use Rattle.kernel_actor.proofs.Rows.{IsStill, IsPointOf, Tells, point_still}
use Rattle.kernel_actor.proofs.Turns.{next_state, turn_legal, turns_own, turns_load, turns_ack, turns_release}
use Rattle.kernel_actor.proofs.Seeing.{acknowledges}
use Rattle.kernel_actor.proofs.Looking.{Told, tells_clock, tells_at}
use Rattle.kernel_actor.proofs.Besides.{beside_follows, accounts_step}
use Rattle.kernel_actor.proofs.Stores.{store_takes, store_point, IsStore}
use Rattle.kernel_actor.proofs.Standings.{within, there, tells, own_found}

-- the entries of the kernel's own words and of its clock are those of the account
own_entry : (m : Model) (w : ℕ) (p : KernelPoint) → IsPointOf Own p → entry_at m p ≡ entry_made Own w p
own_entry m w points.Nothing h = refl
own_entry m w (points.Commit t) h = refl
own_entry m w _ h = absurd h

clock_entry : (m : Model) (w : ℕ) (p : KernelPoint) → m.clock ≡ w → IsPointOf Clock p → entry_at m p ≡ entry_made Clock w p
clock_entry m w points.Nothing is h = refl
clock_entry m w points.Scan is h = ap (λ c. Some (told.Scan c)) is
clock_entry m w _ is h = absurd h

look_entry : (m : Model) (at : SlotAt) (w : ℕ) (p : KernelPoint) → at.position ≡ (thread_of m at.thread.0).released → IsPointOf (Look at) p → entry_at m p ≡ entry_made (Look at) w p
look_entry m at w points.Nothing is h = refl
look_entry m at w (points.Look t) is h = ap (λ r. Some (told.Look t r)) (ap (λ (u : Rattle.ink_base.specs.declared.ids.ThreadId.ThreadId). (thread_of m u.0).released) h ∙ sym is)
look_entry m at w _ is h = absurd h

nothing_entry : (m : Model) (k : Kind) (w : ℕ) (p : KernelPoint) → p ≡ points.Nothing → entry_at m p ≡ entry_made k w p
nothing_entry m k w p is = ap (entry_at m) is ∙ sym (ap (entry_made k w) is)

ack_nothing : (at : SlotAt) (p : KernelPoint) → IsPointOf (Acknowledge at) p → p ≡ points.Nothing
ack_nothing at points.Nothing h = refl
ack_nothing at _ h = absurd h

-- the thread whose event an access acknowledges
abbrev acked_thread : Kind → ℕ
acked_thread (Acknowledge at) = at.thread.0
acked_thread _ = 0

module _ (program : Program) (layout : Layout) (fram : List ℕ) (kernel : Kernel) (v : View) (left : ℕ) (done : List (List KernelEntry)) (entries : List KernelEntry)
    (h : Standing program layout fram kernel v (suc left) (done ++ entries ∷ [])) (fram' : List ℕ) (v' : View) (w : ℕ) (lay : v'.lay ≡ v.lay) where
  abbrev Next : Kind → ℕ → List ℕ → View → Type 0
  Next k x words seat = Standing program layout words (takes program kernel x) seat left (done ++ noted entries (entry_made k x (point_found program kernel x)) ∷ [])

  lay_next : IsLayOf program v'.lay
  lay_next = subst (IsLayOf program) (sym lay) h.lay

  -- an own word
  next_own : kind_of kernel ≡ Own → Tells program h.state kernel (wants program kernel) (point_found program kernel) Own → Answered program kernel fram fram' v v' Own w → Next Own w fram' v'
  next_own is t a =
      let found : ℕ = answer h.imagines.words (wants program kernel) in
      let memory = ap (memory_of (shape_of program)) a.1 ∙ performed_there (shape_of program) fram (wants program kernel) (there h) (within h) in
      let count = ap length a.1 ∙ performed_length (at_address (shape_of program) (wants program kernel)) fram in
      let still : IsStill (point_found program kernel found) = point_still Own (point_found program kernel found) (λ at e. absurd (let clash : Own ≡ Release at = e in cc)) (t.1 found) in
      subst (λ (z : ℕ × View). Next Own z.0 fram' z.1) (sym (λ j. ((a.0 ∙ own_found h t.0) j, a.2 j)))
      (record {
        layout_is = h.layout_is;
        lay = h.lay;
        state = next_state h.imagines;
        imagines = turns_own h.imagines fram' t.0 memory count still is;
        accounts = subst (λ o. Accounts program (calls_of v) (done ++ noted entries o ∷ []) (next_state h.imagines)) (own_entry h.state found (point_found program kernel found) (t.1 found))
            (accounts_step h.imagines done entries (point_found program kernel found) h.accounts (turn_legal h.imagines));
      })

  -- a shared word that is loaded
  next_load : (k : Kind) (call : Call) (t : Told h.imagines call w) (at : Place) → wants program kernel ≡ Load at → IsStill (point_found program kernel w) → ((s : SlotAt) → kind_of kernel ≡ Acknowledge s → ⊥) →
      ((events : ℕ → List Event) → AreFound events (call ∷ calls_of v) → AreFound events (calls_of v)) → entry_at t.state (point_found program kernel w) ≡ entry_made k w (point_found program kernel w) →
      calls_of v' ≡ call ∷ calls_of v → fram' ≡ fram → Next k w fram' v'
  next_load k call t at wanted still not found entry calls words =
      let legal : MayNote program t.imagines.readings t.state (entry_of_point (point_found program kernel w)) =
      subst (λ (p : KernelPoint). MayNote program t.imagines.readings t.state (entry_of_point p)) (sym t.point_same) (turn_legal t.imagines) in
      let before : Accounts program (call ∷ calls_of v) (done ++ entries ∷ []) t.state =
      λ events are. let old = h.accounts events (found events are) in (old.0, beside_follows program events _ h.state t.state t.follows old.1) in
      record {
        layout_is = h.layout_is;
        lay = lay_next;
        state = moved program t.imagines.readings t.state (entry_of_point (point_found program kernel w));
        imagines = subst (λ (z : List ℕ × List Call). Imagines program z.0 z.1 (takes program kernel w) left (moved program t.imagines.readings t.state (entry_of_point (point_found program kernel w))))
            (sym (λ j. (words j, calls j))) (turns_load t.imagines at w wanted t.takes_same t.point_same still not);
        accounts = subst (λ (z : Option KernelEntry × List Call). Accounts program z.1 (done ++ noted entries z.0 ∷ []) (moved program t.imagines.readings t.state (entry_of_point (point_found program kernel w))))
            (λ j. (entry j, sym calls j)) (accounts_step t.imagines done entries (point_found program kernel w) before legal);
      }

  next_clock : kind_of kernel ≡ Clock → Tells program h.state kernel (wants program kernel) (point_found program kernel) Clock → Answered program kernel fram fram' v v' Clock w → Next Clock w fram' v'
  next_clock is t a =
      let tidings = tells_clock v h.imagines w t.0 a.1 in
      let clock : tidings.state.clock ≡ w = omega (arith, tidings.imagines.clock, a.1.later) in
      next_load Clock (made.LoadClock w) tidings places.Clock t.0 (point_still Clock (point_found program kernel w) (λ at e. absurd (let clash : Clock ≡ Release at = e in cc)) (t.1 w))
      (λ s e. absurd (let clash : Clock ≡ Acknowledge s = sym is ∙ e in cc)) (λ events are. are) (clock_entry tidings.state w (point_found program kernel w) clock (t.1 w)) a.0 a.2

  next_look : (at : SlotAt) → kind_of kernel ≡ Look at → Tells program h.state kernel (wants program kernel) (point_found program kernel) (Look at) → Answered program kernel fram fram' v v' (Look at) w → Next (Look at) w fram' v'
  next_look at is t a =
      let tidings = tells_at v h.imagines h.lay at w t.2.known t.0 t.2 a.1 in
      let released : (thread_of tidings.state at.thread.0).released ≡ (thread_of h.state at.thread.0).released = ap (λ x. x.released) (tidings.follows.threads at.thread.0) in
      let entry : entry_at tidings.state (point_found program kernel w) ≡ entry_made (Look at) w (point_found program kernel w) =
      elim t.2.position [
        | inl next ↦ look_entry tidings.state at w (point_found program kernel w) (next ∙ sym released) (t.1 w)
        | inr past ↦ nothing_entry tidings.state (Look at) w (point_found program kernel w) (past.nothing w)
      ] in
      next_load (Look at) (made.Look at.thread.0 at.position w) tidings _ t.0 (point_still (Look at) (point_found program kernel w) (λ s e. absurd (let clash : Look at ≡ Release s = e in cc)) (t.1 w))
      (λ s e. absurd (let clash : Look at ≡ Acknowledge s = sym is ∙ e in cc)) (λ events are. are.1) entry a.0 a.2

  next_ack : (at : SlotAt) → kind_of kernel ≡ Acknowledge at → Tells program h.state kernel (wants program kernel) (point_found program kernel) (Acknowledge at) → Answered program kernel fram fram' v v' (Acknowledge at) w →
      Next (Acknowledge at) w fram' v'
  next_ack at is t a =
      let store : IsStore (kind_of kernel) = subst IsStore (sym is) tt in
      let x : ℕ = answer h.imagines.words (wants program kernel) in
      let nothing = ack_nothing at (point_found program kernel x) (t.3 x) in
      let before = acknowledges h.imagines at.thread.0 at.position t.4.finishing.finished (λ s e. absurd (let clash : Acknowledge at ≡ Release s = sym is ∙ e in cc)) in
      let after = turns_ack before t.0 t.1 t.2 (subst IsStill (sym nothing) tt)
      (λ s e. ap (λ (b : Bool). cond b true (acked_of s.thread.0 (calls_of v))) (eq-eqb at.thread.0 s.thread.0 (ap acked_thread (sym is ∙ e)))) in
      record {
        layout_is = h.layout_is;
        lay = lay_next;
        state = next_state h.imagines;
        imagines = subst (λ (z : List ℕ × List Call × Kernel). Imagines program z.0 z.1 z.2 left (next_state h.imagines)) (sym (λ j. (a.1 j, a.0 j, store_takes program kernel w x store j))) after;
        accounts = subst (λ (z : Option KernelEntry × List Call). Accounts program z.1 (done ++ noted entries z.0 ∷ []) (next_state h.imagines))
            (λ j. ((nothing_entry h.state (Acknowledge at) w (point_found program kernel x) nothing ∙ ap (entry_made (Acknowledge at) w) (store_point program kernel x w store)) j, sym a.0 j))
            (accounts_step h.imagines done entries (point_found program kernel x) h.accounts (turn_legal h.imagines));
      }

  next_release : (at : SlotAt) → kind_of kernel ≡ Release at → Tells program h.state kernel (wants program kernel) (point_found program kernel) (Release at) → Answered program kernel fram fram' v v' (Release at) w →
      Next (Release at) w fram' v'
  next_release at is t a =
      let store : IsStore (kind_of kernel) = subst IsStore (sym is) tt in
      let x : ℕ = answer h.imagines.words (wants program kernel) in
      let position : at.position ≡ released_of at.thread.0 (calls_of v) = t.2.position ∙ h.imagines.released at.thread.0 t.2.known in
      let legal = subst (λ (p : KernelPoint). MayNote program h.imagines.readings h.state (entry_of_point p)) (t.1 x) (turn_legal h.imagines) in
      let after = turns_release h.imagines at.thread _ _ t.2.known t.0 (t.1 x) (λ s e. absurd (let clash : Release at ≡ Acknowledge s = sym is ∙ e in cc)) in
      let calls : calls_of v' ≡ made.Release at.thread.0 (released_of at.thread.0 (calls_of v)) ∷ calls_of v = a.0 ∙ ap (λ p. made.Release at.thread.0 p ∷ calls_of v) position in
      record {
        layout_is = h.layout_is;
        lay = lay_next;
        state = moved program h.imagines.readings h.state (entry_of_point (points.Release at.thread));
        imagines = subst (λ (z : List ℕ × List Call × Kernel). Imagines program z.0 z.1 z.2 left (moved program h.imagines.readings h.state (entry_of_point (points.Release at.thread))))
            (sym (λ j. (a.1 j, calls j, store_takes program kernel w x store j))) after;
        accounts = subst (λ (z : Option KernelEntry × List Call). Accounts program z.1 (done ++ noted entries z.0 ∷ []) (moved program h.imagines.readings h.state (entry_of_point (points.Release at.thread))))
            (λ j. (ap (entry_made (Release at) w) (sym (t.1 w)) j, sym calls j))
            (accounts_step h.imagines done entries (points.Release at.thread) h.accounts legal);
      }

  next_by : (k : Kind) → kind_of kernel ≡ k → Tells program h.state kernel (wants program kernel) (point_found program kernel) k → Answered program kernel fram fram' v v' k w → Next k w fram' v'
  next_by Own is t a = next_own is t a
  next_by Clock is t a = next_clock is t a
  next_by (Look at) is t a = next_look at is t a
  next_by (Acknowledge at) is t a = next_ack at is t a
  next_by (Release at) is t a = next_release at is t a

  pub stands_next : Answered program kernel fram fram' v v' (kind_of kernel) w → Next (kind_of kernel) w fram' v'
  stands_next a = next_by (kind_of kernel) refl (tells h) a
