-- The next access of an actor can be made, and what its answer tells keeps the actor's standing.
use Rattle.std.proofs.Common.{◌≡◌, ◌⊎◌, inl, inr, ℕ, suc, ◌%◌, ◌<◌, ◌≤◌, true, List, length, refl, sym, ap, ◌∙◌, subst, arith, IsSome}
use Rattle.std.specs.Prelude.{slice_index}
use Rattle.task_isa.specs.declared.program.Program.{Program}
use Rattle.fram_words.specs.Places.{Memory, Access, Load, Store, Exchange, Add, answer, place_of}
use Rattle.fram_words.specs.Shape.{address, is_valid}
use Rattle.fram_words.specs.Words.{address_of, FitsWords}
use Rattle.fram_words.specs.Accesses.{at_address}
use Rattle.fram_words.specs.declared.layout.Layout.{Layout}
use Rattle.fram_words.proofs.Accesses.{address_same, finds_there}
use Rattle.ink_layout.specs.Shape.{shape_of, IsOnBoard}
use Rattle.ink_layout.specs.declared.slot_at.SlotAt.{SlotAt}
use Rattle.ink_layout.proofs.Regions.{below, valid}
use Rattle.push_core.specs.Slots.{slot_in}
use Rattle.push_core.proofs.Slots.{slot_in-empty}
use Rattle.never_cut.specs.declared.model.Model.{Model}
use Rattle.never_cut.specs.Entries.{Readings}
use Rattle.never_cut.specs.Within.{Lasts}
use Rattle.never_cut.specs.kept.Actors.{IsAllowed}
use Rattle.never_cut.specs.kept.Steps.{Background}
use Rattle.never_cut.proofs.Lasting.{lasts_less}
use Rattle.reboot.specs.Boot.{IsOfSource}
use Rattle.reboot.proofs.Ranges.{boot_in_range}
use Rattle.priority_sched.proofs.Ranges.{scan_in_range}
use Rattle.task_run.proofs.Ranges.{every_task_fits}
use Rattle.kernel_account.specs.declared.entry.KernelEntry.{KernelEntry}
use Rattle.kernel_core.specs.Fits.{CanWant, CanTake}
use Rattle.kernel_core.specs.Kernel.{wants, point_found}
use Rattle.kernel_core.specs.kept.Holds.{KernelHolds}
use Rattle.kernel_core.specs.declared.kernel.Kernel.{Kernel}
use Rattle.kernel_core.specs.declared.kernel.Kernel.TheVariants as kernels
use Rattle.kernel_core.proofs.CoreSteps.{same_access}
use Rattle.kernel_core.proofs.KernelPlaces.{kernel_on}
use Rattle.event_queue.specs.declared.view.View.{View}
use Rattle.event_queue.specs.Answers.{IsLook, ShowsEvent, ShowsEmpty}
use Rattle.event_queue.specs.Calls.{released_of}
use Rattle.event_queue.specs.Events.{Entry}
use Rattle.event_queue.specs.Views.{calls_of, places_of}
use Rattle.event_queue.proofs.Words.{slot_in-full}
use Rattle.kernel_actor.specs.Kinds.{IsOwn, kind_of}
use Rattle.kernel_actor.specs.kept.Answered.{CanPerform, IsNext, CanMake, Answered}
use Rattle.kernel_actor.specs.kept.Imagines.{Imagines}
use Rattle.kernel_actor.specs.kept.Standing.{Standing}
use Rattle.kernel_actor.specs.declared.kind.Kind.{Kind}
use Rattle.kernel_actor.specs.declared.kind.Kind.TheVariants.{Own, Clock, Look, Acknowledge, Release}
use Rattle.kernel_actor.proofs.Rows.{IsServed, LooksAt, Tells, kind_tells}
use Rattle.kernel_actor.proofs.Turns.{setup, is_setup, turn, finished_is_seen}
use Rattle.kernel_actor.proofs.Stores.{IsShared, shared_takes}

-- an access that the others leave to the kernel adds nothing
fits_by : (program : Program) (words : Memory) (m : Model) (fram : List ℕ) (a : Access) → IsAllowed program words m a → FitsWords fram (at_address (shape_of program) a)
fits_by program words m fram (Load p) h = tt
fits_by program words m fram (Store p v) h = tt
fits_by program words m fram (Exchange p e v) h = tt
fits_by program words m fram (Add p n) h = absurd h

-- the registers can make their access, and take the word that they find in the imagined board
ranges : (program : Program) (readings : Readings) (words : Memory) (m : Model) (k : Kernel) → Background program readings words m → Lasts 0 m → KernelHolds program words m k →
    CanWant program k × CanTake program k (answer words (wants program k))
ranges program readings words m (kernels.Boot machine) b room h =
    let in_range = boot_in_range program readings words m machine b h.0 in (in_range.row, (in_range.row, in_range.word))
ranges program readings words m (kernels.Scan stamp machine) b room h =
    let in_range = scan_in_range program readings words m machine b room h.1 in (in_range.row, (in_range.row, in_range.word))
ranges program readings words m (kernels.Task r) b room h =
    let can = every_task_fits program readings words m r b room h.0 h.1 in (can.wants, (can.wants, can.takes))

-- a slot's word that the seat was shown is of a source of the program
look_source : (program : Program) (v : View) (t p w : ℕ) → length v.lay.sources ≡ length program.sources → IsLook v t p w → IsOfSource program (slot_in w)
look_source program v t p w count look = by_shown look.shown
  where
    by_shown : ((q : ℕ) × (e : Entry) × ShowsEvent v.lay t (p % places_of v.lay t) (released_of t (calls_of v)) w q e)
        ⊎ ((q : ℕ) × ShowsEmpty v.lay t (p % places_of v.lay t) (released_of t (calls_of v)) (slice_index v.told.published t) w q) → IsOfSource program (slot_in w)
    by_shown (inl (q, e, s)) = subst (IsOfSource program) (sym (ap slot_in s.word ∙ slot_in-full q e s.fits)) (omega (arith, s.source, count))
    by_shown (inr (q, s)) = subst (IsOfSource program) (sym (ap slot_in s.word ∙ slot_in-empty q (omega (arith, s.range)))) tt

module _ {program : Program} {layout : Layout} {fram : List ℕ} {kernel : Kernel} {v : View} {left : ℕ} {charges : List (List KernelEntry)} (h : Standing program layout fram kernel v (suc left) charges) where
  abbrev pub board : Imagines program fram (calls_of v) kernel (suc left) h.state
  board = h.imagines

  room : Lasts 0 h.state
  room = lasts_less (suc left) 0 h.state (omega arith) board.lasts

  pub tells : Tells program h.state kernel (wants program kernel) (point_found program kernel) (kind_of kernel)
  tells = kind_tells program board.words h.state kernel board.registers

  in_range : CanWant program kernel × CanTake program kernel (answer board.words (wants program kernel))
  in_range = ranges program board.readings board.words h.state kernel board.background room board.registers

  on_board : IsOnBoard program (place_of (wants program kernel))
  on_board = kernel_on (setup program board.readings) board.words h.state kernel (is_setup program board.readings board.background.accepted board.short) board.background room board.registers

  pub within : address (shape_of program) (place_of (wants program kernel)) < length fram
  within = subst (λ (n : ℕ). address (shape_of program) (place_of (wants program kernel)) < n) (sym board.count) (below program (place_of (wants program kernel)) on_board)

  pub there : is_valid (shape_of program) (place_of (wants program kernel)) ≡ true
  there = valid program (place_of (wants program kernel)) on_board

  pub can_perform : CanPerform program layout fram kernel
  can_perform = record {
    can_want = in_range.0;
    same = same_access program layout (wants program kernel) h.layout_is on_board;
    within = subst (λ (n : ℕ). n < length fram) (sym (address_same (shape_of program) (wants program kernel))) within;
    fits = fits_by program board.words h.state fram (wants program kernel) (turn board).kept.allowed;
  }

  -- a finished event is the next one, and the seat has seen it
  is_next : (at : SlotAt) → IsServed program h.state at → IsNext v at
  is_next at s =
      let seen = finished_is_seen board at.thread.0 s.source s.count s.finishing s.known in
      record {
        thread = omega (arith, s.known, h.lay.queues);
        position = s.position ∙ board.released at.thread.0 s.known;
        seen = subst IsSome (sym seen.1) refl;
      }

  looks_before : (at : SlotAt) → LooksAt program h.state kernel at → at.position ≤ released_of at.thread.0 (calls_of v)
  looks_before at l =
      let same = board.released at.thread.0 l.known in
      elim l.position [ inl next ↦ omega (arith, next, same) | inr past ↦ omega (arith, past.before, same) ]

  can_make_by : (k : Kind) → kind_of kernel ≡ k → Tells program h.state kernel (wants program kernel) (point_found program kernel) k → CanMake program layout fram kernel v k
  can_make_by Own is t = can_perform
  can_make_by Clock is t = tt
  can_make_by (Look at) is t = (omega (arith, t.2.known, h.lay.queues), looks_before at t.2)
  can_make_by (Acknowledge at) is t = is_next at t.4
  can_make_by (Release at) is t = (is_next at t.2, board.acked at is)

  pub can_make : CanMake program layout fram kernel v (kind_of kernel)
  can_make = can_make_by (kind_of kernel) refl tells

  -- the word that an own access finds is the imagined one
  pub own_found : IsOwn (place_of (wants program kernel)) → slice_index fram (address_of (at_address (shape_of program) (wants program kernel))) ≡ answer board.words (wants program kernel)
  own_found own = finds_there (shape_of program) fram (wants program kernel) there ∙ sym (board.own (place_of (wants program kernel)) own)

  can_take_by : (fram' : List ℕ) (v' : View) (w : ℕ) (k : Kind) → kind_of kernel ≡ k → Tells program h.state kernel (wants program kernel) (point_found program kernel) k →
      Answered program kernel fram fram' v v' k w → CanTake program kernel w
  can_take_by fram' v' w Own is t a = subst (CanTake program kernel) (sym (a.0 ∙ own_found t.0)) in_range.1
  can_take_by fram' v' w Clock is t a = shared_takes program kernel w in_range.0 (subst (λ (k : Kind). IsShared program k w) (sym is) tt)
  can_take_by fram' v' w (Look at) is t a =
      shared_takes program kernel w in_range.0 (subst (λ (k : Kind). IsShared program k w) (sym is) (look_source program v at.thread.0 at.position w h.lay.sources a.1))
  can_take_by fram' v' w (Acknowledge at) is t a = shared_takes program kernel w in_range.0 (subst (λ (k : Kind). IsShared program k w) (sym is) tt)
  can_take_by fram' v' w (Release at) is t a = shared_takes program kernel w in_range.0 (subst (λ (k : Kind). IsShared program k w) (sym is) tt)

  pub can_take : (fram' : List ℕ) (v' : View) (w : ℕ) → Answered program kernel fram fram' v v' (kind_of kernel) w → CanTake program kernel w
  can_take fram' v' w a = can_take_by fram' v' w (kind_of kernel) refl tells a
