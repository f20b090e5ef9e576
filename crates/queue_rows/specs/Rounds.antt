-- How far the seats of a set with one queue are.
use Rattle.std.specs.Prelude.{◌≡◌, ℕ, zero, suc, ◌<◌, List, [], ◌∷◌, ◌++◌, length}
use Rattle.ink_base.specs.declared.ids.ThreadId.{ThreadId}
use Rattle.event_queue.specs.declared.view.Lay.{Lay}
use Rattle.event_queue.specs.declared.set.QueueSet.{QueueSet}
use Rattle.event_queue.specs.declared.seat.SourceSeat.{SourceSeat}
use Rattle.event_queue.specs.declared.seat.KernelSeat.{KernelSeat}
use Rattle.event_queue.specs.Calls.{released_of}
use Rattle.event_queue.specs.Views.{queue_of, calls_of}
use Rattle.event_queue.specs.Seats.{view, kernel_view, ring_of, IsSeatOf, IsKernelSeatOf}

-- the first thread, so many times
abbrev pub firsts : ℕ → List ThreadId
firsts zero = []
firsts (suc n) = firsts n ++ record { 0 = 0 } ∷ []

-- the board has one queue with so many places, and so many sources of it
pub record IsOneQueue (lay : Lay) (places sources : ℕ) : Type 0 where
  pub queues : lay.queues ≡ places ∷ []
  pub number : length lay.sources ≡ sources
  pub same : (i : ℕ) → queue_of lay i ≡ 0

-- a source's seat on the first queue, which has so many places; it has made no call
abbrev pub IsNew : QueueSet → ℕ → SourceSeat → Type 0
IsNew set places s = IsSeatOf set s × (ring_of s ≡ places) × (calls_of (view s) ≡ []) × (queue_of (view s).lay s.source.0 ≡ 0)

-- the kernel's seat, which has released so many events of the first queue
abbrev pub IsAt : QueueSet → ℕ → KernelSeat → Type 0
IsAt set position k = IsKernelSeatOf set k × (0 < length (kernel_view k).lay.queues) × (released_of 0 (calls_of (kernel_view k)) ≡ position)
