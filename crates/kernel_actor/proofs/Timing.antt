-- What an access adds to the account is as late as what the seat was told.
use Rattle.std.proofs.Common.{◌≡◌, inl, inr, ℕ, suc, ◌≤◌, ◌==◌, cond, Bool, true, false, List, refl, sym, ap, ◌∙◌, subst, Option, Some, None}
use Rattle.std.specs.Prelude.{slice_index}
use Rattle.std.proofs.lemmas.Bool.{cases_lt}
use Rattle.std.proofs.lemmas.Option.{same_Some}
use Rattle.ink_base.specs.declared.event.Origin.TheVariants as origins
use Rattle.ink_base.specs.declared.ids.ThreadId.{ThreadId}
use Rattle.task_isa.specs.declared.program.Program.{Program}
use Rattle.push_core.specs.Slots.{slot_in}
use Rattle.push_core.specs.declared.slot.Slot.{Slot}
use Rattle.push_core.specs.declared.slot.Slot.TheVariants as slots
use Rattle.ink_layout.specs.declared.slot_at.SlotAt.{SlotAt}
use Rattle.ink_layout.specs.declared.kernel_point.KernelPoint.{KernelPoint}
use Rattle.ink_layout.specs.declared.kernel_point.KernelPoint.TheVariants as points
use Rattle.fram_words.specs.declared.layout.Layout.{Layout}
use Rattle.reboot.specs.Boot.{boot_point}
use Rattle.reboot.specs.declared.boot_at.BootAt.{BootAt}
use Rattle.reboot.specs.declared.boot_at.BootAt.TheVariants as boot
use Rattle.priority_sched.specs.Scan.{scan_point, look_point, event_at}
use Rattle.priority_sched.specs.declared.scan_at.ScanAt.{ScanAt}
use Rattle.priority_sched.specs.declared.scan_at.ScanAt.TheVariants as scan
use Rattle.task_run.specs.Machine.{point_at}
use Rattle.task_run.specs.declared.machine.TaskMachine.{TaskMachine}
use Rattle.task_run.specs.declared.phase.Phase.{Phase}
use Rattle.task_run.specs.declared.phase.Phase.TheVariants as phase
use Rattle.kernel_account.specs.declared.entry.KernelEntry.{KernelEntry}
use Rattle.kernel_account.specs.declared.entry.KernelEntry.TheVariants as told
use Rattle.kernel_core.specs.Kernel.{wants, point_found}
use Rattle.kernel_core.specs.declared.kernel.Kernel.{Kernel}
use Rattle.kernel_core.specs.declared.kernel.Kernel.TheVariants.{Boot, Scan, Task}
use Rattle.event_queue.proofs.Basics.{snoc_cases}
use Rattle.event_queue.specs.Answers.{IsLook}
use Rattle.event_queue.specs.Calls.{released_of}
use Rattle.event_queue.specs.Events.{holds_event}
use Rattle.event_queue.specs.Views.{calls_of}
use Rattle.event_queue.specs.declared.view.Told.{Told}
use Rattle.event_queue.specs.declared.view.View.{View}
use Rattle.kernel_actor.specs.Accounts.{entry_made, noted}
use Rattle.kernel_actor.specs.Kinds.{kind_of, scan_kind}
use Rattle.kernel_actor.specs.Timely.{IsTimely, AddsTimely}
use Rattle.kernel_actor.specs.kept.Answered.{Answered}
use Rattle.kernel_actor.specs.kept.Standing.{Standing}
use Rattle.kernel_actor.specs.declared.kind.Kind.{Kind}
use Rattle.kernel_actor.specs.declared.kind.Kind.TheVariants.{Own, Clock, Look, Acknowledge, Release}
use Rattle.kernel_actor.proofs.Rows.{IsPointOf, LooksAt, Tells}
use Rattle.kernel_actor.proofs.Standings.{board, tells}

-- an event that a slot holds is of the position, so where none is noted, the slot holds none
none_held : (thread : ThreadId) (p : ℕ) (o : Option Slot) (t : ThreadId) → look_point thread (event_at p o) ≡ points.Look t → holds_event p o ≡ false
none_held thread p None t is = refl
none_held thread p (Some (slots.Empty q)) t is = refl
none_held thread p (Some (slots.Full q source count value)) t is = by_test (q == p) is
  where
    by_test : (b : Bool) → look_point thread (cond b (Some (record { origin = origins.Source source count; value = value })) None) ≡ points.Look t → b ≡ false
    by_test true found = absurd (let clash : points.Nothing ≡ points.Look t = found in cc)
    by_test false found = refl

boot_none : (thread : ThreadId) (at : BootAt) (t : ThreadId) → boot_point thread at ≡ points.Look t → ⊥
boot_none thread (boot.Empty p) t is = absurd (let clash : points.Release thread ≡ points.Look t = is in cc)
boot_none thread at t is = absurd (let clash : points.Nothing ≡ points.Look t = is in cc)

task_none : (r : TaskMachine) (at : Phase) (t : ThreadId) → point_at r at ≡ points.Look t → ⊥
task_none r phase.StoreCommit t is = absurd (let clash : points.Commit r.pick.thread ≡ points.Look t = is in cc)
task_none r phase.StoreEmpty t is = absurd (let clash : points.Release r.pick.thread ≡ points.Look t = is in cc)
task_none r at t is = absurd (let clash : points.Nothing ≡ points.Look t = is in cc)

-- the position of a look
abbrev position_of : Kind → ℕ
position_of (Look at) = at.position
position_of kind = 0

scan_none : (thread : ThreadId) (a : ScanAt) (at : SlotAt) (w : ℕ) (t : ThreadId) → scan_kind thread a ≡ Look at → scan_point thread a w ≡ points.Look t → holds_event at.position (slot_in w) ≡ false
scan_none thread scan.Clock at w t kind is = absurd (let clash : Clock ≡ Look at = kind in cc)
scan_none thread (scan.Slot c p) at w t kind is = subst (λ (k : Kind). holds_event (position_of k) (slot_in w) ≡ false) kind (none_held thread p (slot_in w) t is)
scan_none thread a at w t kind is = absurd (let clash : points.Nothing ≡ points.Look t = is in cc)

-- a look that is noted found no event of its position
looked_none : (program : Program) (kernel : Kernel) (at : SlotAt) (w : ℕ) (t : ThreadId) → kind_of kernel ≡ Look at → point_found program kernel w ≡ points.Look t → holds_event at.position (slot_in w) ≡ false
looked_none program (Boot machine) at w t kind is = absurd (boot_none machine.thread machine.at t is)
looked_none program (Scan stamp machine) at w t kind is = scan_none machine.thread machine.at at w t kind is
looked_none program (Task machine) at w t kind is = absurd (task_none machine machine.phase t is)

-- a position that holds no event was not told as published
not_told : (v : View) (t p w : ℕ) → IsLook v t p w → p ≡ released_of t (calls_of v) → holds_event p (slot_in w) ≡ false → slice_index v.told.published t ≤ p
not_told v t p w look next none =
    elim (cases_lt p (slice_index v.told.published t)) [
      | inl less ↦ absurd (let clash : true ≡ false = sym (look.told next less) ∙ none in cc)
      | inr more ↦ more
    ]

-- an entry that is made, if any, is as late
adds_timely : (tidings : Told) (entries : List KernelEntry) (o : Option KernelEntry) → ((e : KernelEntry) → o ≡ Some e → IsTimely tidings e) → AddsTimely tidings entries (noted entries o)
adds_timely tidings entries None each = record { each = λ n e at. inl at }
adds_timely tidings entries (Some x) each = record {
  each = λ n e at. elim (snoc_cases entries x n e at) [ inl before ↦ inl before.1 | inr last ↦ inr (subst (IsTimely tidings) last.1 (each x refl)) ];
}

-- nothing was added
pub timely_none : (tidings : Told) (entries : List KernelEntry) → AddsTimely tidings entries entries
timely_none tidings entries = record { each = λ n e at. inl at }

-- one row more
pub timely_then : (tidings tidings' : Told) (first old new : List KernelEntry) → AddsTimely tidings first old → tidings' ≡ tidings → AddsTimely tidings' old new → AddsTimely tidings first new
timely_then tidings tidings' first old new before same after = record {
  each = λ n e at. elim (after.each n e at) [ inl early ↦ before.each n e early | inr late ↦ inr (subst (λ (z : Told). IsTimely z e) same late) ];
}

own_timely : (tidings : Told) (w : ℕ) (p : KernelPoint) (e : KernelEntry) → IsPointOf Own p → entry_made Own w p ≡ Some e → IsTimely tidings e
own_timely tidings w points.Nothing e is made = absurd (let clash : None ≡ Some e = made in cc)
own_timely tidings w (points.Commit t) e is made = subst (IsTimely tidings) (same_Some (told.Commit t) e made) tt
own_timely tidings w _ e is made = absurd is

clock_timely : (tidings : Told) (w : ℕ) (p : KernelPoint) (e : KernelEntry) → tidings.clock ≤ w → IsPointOf Clock p → entry_made Clock w p ≡ Some e → IsTimely tidings e
clock_timely tidings w points.Nothing e le is made = absurd (let clash : None ≡ Some e = made in cc)
clock_timely tidings w points.Scan e le is made = subst (IsTimely tidings) (same_Some (told.Scan w) e made) le
clock_timely tidings w _ e le is made = absurd is

ack_timely : (tidings : Told) (at : SlotAt) (w : ℕ) (p : KernelPoint) (e : KernelEntry) → IsPointOf (Acknowledge at) p → entry_made (Acknowledge at) w p ≡ Some e → IsTimely tidings e
ack_timely tidings at w points.Nothing e is made = absurd (let clash : None ≡ Some e = made in cc)
ack_timely tidings at w _ e is made = absurd is

module _ {program : Program} {layout : Layout} {fram : List ℕ} {kernel : Kernel} {v : View} {left : ℕ} {charges : List (List KernelEntry)} (h : Standing program layout fram kernel v (suc left) charges) where
  look_timely : (at : SlotAt) (w : ℕ) (e : KernelEntry) → kind_of kernel ≡ Look at → LooksAt program h.state kernel at → IsLook v at.thread.0 at.position w →
      (p : KernelPoint) → point_found program kernel w ≡ p → IsPointOf (Look at) p → entry_made (Look at) w p ≡ Some e → IsTimely v.told e
  look_timely at w e kind looks look points.Nothing same is made = absurd (let clash : None ≡ Some e = made in cc)
  look_timely at w e kind looks look (points.Look t) same is made =
      let none = looked_none program kernel at w t kind same in
      let next : at.position ≡ released_of at.thread.0 (calls_of v) =
      elim looks.position [
        | inl next ↦ next ∙ (board h).released at.thread.0 looks.known
        | inr past ↦ absurd (let clash : points.Nothing ≡ points.Look t = sym (past.nothing w) ∙ same in cc)
      ] in
      let late = not_told v at.thread.0 at.position w look next none in
      subst (IsTimely v.told) (same_Some (told.Look t at.position) e made) (subst (λ (u : ThreadId). slice_index v.told.published u.0 ≤ at.position) (sym is) late)
  look_timely at w e kind looks look _ same is made = absurd is

  timely_by : (fram' : List ℕ) (v' : View) (w : ℕ) (e : KernelEntry) (k : Kind) → kind_of kernel ≡ k → Tells program h.state kernel (wants program kernel) (point_found program kernel) k → Answered program kernel fram fram' v v' k w →
      entry_made k w (point_found program kernel w) ≡ Some e → IsTimely v.told e
  timely_by fram' v' w e Own kind t a made = own_timely v.told w (point_found program kernel w) e (t.1 w) made
  timely_by fram' v' w e Clock kind t a made = clock_timely v.told w (point_found program kernel w) e a.1.told (t.1 w) made
  timely_by fram' v' w e (Look at) kind t a made = look_timely at w e kind t.2 a.1 (point_found program kernel w) refl (t.1 w) made
  timely_by fram' v' w e (Acknowledge at) kind t a made = ack_timely v.told at w (point_found program kernel w) e (t.3 w) made
  timely_by fram' v' w e (Release at) kind t a made =
      subst (IsTimely v.told) (same_Some (told.Release at.thread) e (ap (entry_made (Release at) w) (sym (t.1 w)) ∙ made)) tt

  -- what an access adds is as late as what was told
  pub step_timely : (fram' : List ℕ) (v' : View) (w : ℕ) (entries : List KernelEntry) → Answered program kernel fram fram' v v' (kind_of kernel) w →
      AddsTimely v.told entries (noted entries (entry_made (kind_of kernel) w (point_found program kernel w)))
  step_timely fram' v' w entries a = adds_timely v.told entries (entry_made (kind_of kernel) w (point_found program kernel w)) (λ e made. timely_by fram' v' w e (kind_of kernel) refl (tells h) a made)
