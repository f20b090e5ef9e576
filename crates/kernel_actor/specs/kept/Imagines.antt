-- The board that a kernel can imagine from its own words and from what its seat has seen.
use Rattle.std.specs.Prelude.{◌≡◌, ℕ, ◌<◌, true, List, length}
use Rattle.task_isa.specs.declared.program.Program.{Program}
use Rattle.fram_words.specs.Places.{Place, Memory}
use Rattle.fram_words.specs.Shape.{memory_of}
use Rattle.ink_layout.specs.Shape.{shape_of, words_of}
use Rattle.ink_layout.specs.declared.slot_at.SlotAt.{SlotAt}
use Rattle.never_cut.specs.declared.model.Model.{Model}
use Rattle.never_cut.specs.State.{thread_of}
use Rattle.never_cut.specs.Entries.{Readings}
use Rattle.never_cut.specs.Within.{AreShort, Lasts}
use Rattle.never_cut.specs.kept.Steps.{Background}
use Rattle.kernel_core.specs.declared.kernel.Kernel.{Kernel}
use Rattle.kernel_core.specs.kept.Holds.{KernelHolds}
use Rattle.event_queue.specs.declared.view.Call.{Call}
use Rattle.event_queue.specs.Calls.{released_of, seen_of, acked_of, clock_of}
use Rattle.kernel_actor.specs.Held.{IsHeld}
use Rattle.kernel_actor.specs.Kinds.{IsOwn, kind_of}
use Rattle.kernel_actor.specs.declared.kind.Kind.TheVariants.{Release}

-- an event that is about to be released is acknowledged
abbrev pub IsAcked : Kernel → List Call → Type 0
IsAcked kernel calls = (at : SlotAt) → kind_of kernel ≡ Release at → acked_of at.thread.0 calls ≡ true

-- The board on which the kernel's registers know what they must: its own words are the real ones, each queue holds at most what was seen, and the
-- clock is the greatest that was loaded. Its readings are imagined, as many as were seen. The counts have room for so many accesses more.
pub record Imagines (program : Program) (fram : List ℕ) (calls : List Call) (kernel : Kernel) (left : ℕ) (m : Model) : Type 0 where
  pub words : Memory
  pub readings : Readings
  pub short : AreShort readings
  pub background : Background program readings words m
  pub registers : KernelHolds program words m kernel
  pub lasts : Lasts left m
  pub count : length fram ≡ words_of (shape_of program)
  pub own : (p : Place) → IsOwn p → words p ≡ memory_of (shape_of program) fram p
  pub released : (t : ℕ) → t < length program.threads → (thread_of m t).released ≡ released_of t calls
  pub held : (t : ℕ) → t < length program.threads → IsHeld (seen_of t calls) (released_of t calls) (thread_of m t).held
  pub clock : m.clock ≡ clock_of calls
  pub acked : IsAcked kernel calls
  pub finished : (t : ℕ) → t < length program.threads → acked_of t calls ≡ true → (thread_of m t).finished ≡ true
