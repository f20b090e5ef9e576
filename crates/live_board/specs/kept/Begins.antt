-- How a charge begins: every actor is cut, and tells what it knows.
use Rattle.std.specs.Prelude.{◌≡◌, ℕ, ◌+◌, ◌<◌, ◌≤◌, List, length, slice_index, slice_index_or}
use Rattle.push_core.specs.Table.{first_row}
use Rattle.kernel_core.specs.Kernel.{first_kernel}
use Rattle.event_queue.specs.declared.set.QueueSet.{QueueSet}
use Rattle.event_queue.specs.Calls.{released_of}
use Rattle.event_queue.specs.Seats.{kernel_view, lay_in, view, IsSeatOf, IsKernelSeatOf}
use Rattle.event_queue.specs.Views.{known_of, queue_of}
use Rattle.irq_source.specs.Acting.{Acting, knows}
use Rattle.kernel_actor.specs.Acting as kernel
use Rattle.live_board.specs.kept.Sources.{IsStill, HasBegun}
use Rattle.live_board.specs.kept.Kernels.{calls}

-- the queue of a source
abbrev pub queue : Acting → ℕ
queue a = queue_of (view a.seat).lay a.seat.source.0

-- a source of the set, whose queue is one of it
pub record IsOfSet (set : QueueSet) (a : Acting) : Type 0 where
  pub seat : IsSeatOf set a.seat
  pub queue : queue a < length (lay_in set).queues

-- each source is of the set
abbrev pub AreOfSet : QueueSet → List Acting → Type 0
AreOfSet set sources = (i : ℕ) (a : Acting) → i < length sources → IsOfSet set (slice_index_or sources i a)

-- each source has a charge left
abbrev pub HaveCharges : List Acting → Type 0
HaveCharges sources = (i : ℕ) (a : Acting) → i < length sources → (slice_index_or sources i a).begun < (slice_index_or sources i a).charges

-- a source that has lost its place in the table
pub record IsCut (set : QueueSet) (old new : Acting) : Type 0 where
  pub still : IsStill old new
  pub seat : IsSeatOf set new.seat
  pub queue : queue new ≡ queue old
  pub begun : new.begun ≡ old.begun + 1
  pub row : new.place.row ≡ first_row

-- a source that has told what it knows, or has been told something
pub record IsMet (set : QueueSet) (old new : Acting) : Type 0 where
  pub still : IsStill old new
  pub seat : IsSeatOf set new.seat
  pub queue : queue new ≡ queue old
  pub begun : new.begun ≡ old.begun
  pub row : new.place.row ≡ old.place.row

-- the same kernel with the same words, registers and account, whose seat has made no call; it may have been told more
pub record IsKernelMet (set : QueueSet) (old new : kernel.Acting) : Type 0 where
  pub beside : kernel.IsBeside old new
  pub kernel : new.kernel ≡ old.kernel
  pub book : new.book ≡ old.book
  pub calls : calls new ≡ calls old
  pub seat : IsKernelSeatOf set new.seat
  pub published : (t : ℕ) → slice_index (kernel_view old.seat).told.published t ≤ slice_index (kernel_view new.seat).told.published t
  pub clock : (kernel_view old.seat).told.clock ≤ (kernel_view new.seat).told.clock

-- what the source's seat knows to be published was told to the kernel
abbrev pub KnowsOf : kernel.Acting → Acting → Type 0
KnowsOf k a = (knows a).out ≤ slice_index (kernel_view k.seat).told.published (queue a)

-- so it is of the first so many sources
abbrev pub KnowsOfAll : kernel.Acting → (count : ℕ) → List Acting → Type 0
KnowsOfAll k count sources = (i : ℕ) (a : Acting) → i < length sources → i < count → KnowsOf k (slice_index_or sources i a)

-- what the kernel had seen and released of the source's queue was told to the source
pub record HearsOf (set : QueueSet) (k : kernel.Acting) (old new : Acting) : Type 0 where
  pub met : IsMet set old new
  pub published : known_of (queue old) (calls k) ≤ (knows new).out
  pub released : released_of (queue old) (calls k) ≤ (knows new).gone

-- a source of the set whose next charge has begun, and that has heard of the kernel
pub record SourceBegins (set : QueueSet) (k : kernel.Acting) (old new : Acting) : Type 0 where
  pub begun : HasBegun (known_of (queue old) (calls k)) (released_of (queue old) (calls k)) old new
  pub seat : IsSeatOf set new.seat
  pub queue : queue new ≡ queue old
