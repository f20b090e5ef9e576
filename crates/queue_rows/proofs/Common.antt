-- The names that several proofs of this crate cite, passed on from one place. Declares nothing.
pub use Rattle.std.proofs.Common.{All, List, [], ap, arith, drop, get_or, length, length-append, map, max, refl, rules, slice_index, subst, suc, sym, take, zero, ℕ, ◌++◌, ◌+◌, ◌<◌, ◌∙◌, ◌∷◌, ◌≡◌, ◌≤◌}
pub use Rattle.event_queue.specs.Calls.{mine_of, next_of, released_of}
pub use Rattle.event_queue.specs.Seats.{AreNewSources, HearsAsKernel, HearsAsSource, IsNewKernel, IsOfShape, IsSeatOf, Noted, kernel_view, ring_of, view}
pub use Rattle.event_queue.specs.Views.{both_told, calls_of, gone_of, kernel_told, lay_of, places_of, queue_of, raised, source_told, tabulated}
pub use Rattle.event_queue.specs.declared.seat.KernelSeat.{KernelSeat}
pub use Rattle.event_queue.specs.declared.seat.SourceSeat.{SourceSeat}
pub use Rattle.event_queue.specs.declared.set.QueueSet.{QueueSet}
pub use Rattle.queue_rows.specs.Rounds.{IsAt, IsNew, IsOneQueue, firsts}
