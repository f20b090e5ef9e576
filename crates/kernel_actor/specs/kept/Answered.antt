-- What an access needs, and what its answer tells, by its kind.
use Rattle.std.specs.Prelude.{◌≡◌, ℕ, ◌<◌, ◌≤◌, true, List, ◌∷◌, length, IsSome}
use Rattle.task_isa.specs.declared.program.Program.{Program}
use Rattle.fram_words.specs.declared.layout.Layout.{Layout}
use Rattle.fram_words.specs.Words.{address_of, performed, FitsWords}
use Rattle.fram_words.specs.Accesses.{at_address}
use Rattle.ink_layout.specs.Shape.{shape_of}
use Rattle.ink_layout.specs.Addresses.{at_layout}
use Rattle.ink_layout.specs.declared.slot_at.SlotAt.{SlotAt}
use Rattle.kernel_core.specs.Fits.{CanWant}
use Rattle.kernel_core.specs.Kernel.{wants}
use Rattle.kernel_core.specs.declared.kernel.Kernel.{Kernel}
use Rattle.event_queue.specs.Answers.{IsLook, IsClock}
use Rattle.event_queue.specs.Calls.{released_of, seen_of, acked_of}
use Rattle.event_queue.specs.Views.{calls_of}
use Rattle.event_queue.specs.declared.view.Call.TheVariants as made
use Rattle.event_queue.specs.declared.view.View.{View}
use Rattle.kernel_actor.specs.declared.kind.Kind.{Kind}
use Rattle.kernel_actor.specs.declared.kind.Kind.TheVariants.{Own, Clock, Look, Acknowledge, Release}

-- an own access can be made to these words
pub record CanPerform (program : Program) (layout : Layout) (fram : List ℕ) (kernel : Kernel) : Type 0 where
  pub can_want : CanWant program kernel
  pub same : at_layout layout (wants program kernel) ≡ at_address (shape_of program) (wants program kernel)
  pub within : address_of (at_address (shape_of program) (wants program kernel)) < length fram
  pub fits : FitsWords fram (at_address (shape_of program) (wants program kernel))

-- the event is the next one to be released, and the seat has seen it
pub record IsNext (v : View) (at : SlotAt) : Type 0 where
  pub thread : at.thread.0 < length v.lay.queues
  pub position : at.position ≡ released_of at.thread.0 (calls_of v)
  pub seen : IsSome (seen_of at.thread.0 (calls_of v))

-- the access can be made
abbrev pub CanMake : Program → Layout → List ℕ → Kernel → View → Kind → Type 0
CanMake program layout fram kernel v Own = CanPerform program layout fram kernel
CanMake program layout fram kernel v Clock = Unit {0}
CanMake program layout fram kernel v (Look at) = (at.thread.0 < length v.lay.queues) × (at.position ≤ released_of at.thread.0 (calls_of v))
CanMake program layout fram kernel v (Acknowledge at) = IsNext v at
CanMake program layout fram kernel v (Release at) = IsNext v at × (acked_of at.thread.0 (calls_of v) ≡ true)

-- the answer, and what is left
abbrev pub Answered : Program → Kernel → (fram fram' : List ℕ) → (v v' : View) → Kind → (word : ℕ) → Type 0
Answered program kernel fram fram' v v' Own word =
    (word ≡ Rattle.std.specs.Prelude.slice_index fram (address_of (at_address (shape_of program) (wants program kernel)))) × (fram' ≡ performed (at_address (shape_of program) (wants program kernel)) fram) × (v' ≡ v)
Answered program kernel fram fram' v v' Clock word = (calls_of v' ≡ made.LoadClock word ∷ calls_of v) × IsClock v word × (fram' ≡ fram)
Answered program kernel fram fram' v v' (Look at) word = (calls_of v' ≡ made.Look at.thread.0 at.position word ∷ calls_of v) × IsLook v at.thread.0 at.position word × (fram' ≡ fram)
Answered program kernel fram fram' v v' (Acknowledge at) word = (calls_of v' ≡ made.StoreAck at.thread.0 at.position ∷ calls_of v) × (fram' ≡ fram)
Answered program kernel fram fram' v v' (Release at) word = (calls_of v' ≡ made.Release at.thread.0 at.position ∷ calls_of v) × (fram' ≡ fram)
