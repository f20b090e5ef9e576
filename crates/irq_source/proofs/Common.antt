-- The names that several proofs of this crate cite, passed on from one place. Declares nothing.
pub use Rattle.std.proofs.Common.{Bool, List, None, Option, Some, [], ap, append-nil, arith, cond, eq-eqb, eqb-true, false, inl, inr, length, length-append, map, max, mod-lt, nat_lt, ne_eqb, refl, rules, slice_index, subst, suc, sym, true, zero, ℕ, ⊎_elim, ◌%◌, ◌&&◌, ◌*◌, ◌++◌, ◌+◌, ◌-◌, ◌/◌, ◌<◌, ◌==◌, ◌^◌, ◌||◌, ◌∙◌, ◌∷◌, ◌≡◌, ◌≢◌, ◌≤◌, ◌⊎◌}
pub use Rattle.std.proofs.lemmas.Bool.{cases_eq, cases_lt}
pub use Rattle.std.proofs.lemmas.Bool.Decides.{nat_tests}
pub use Rattle.std.proofs.lemmas.List.{length-map}
pub use lib.ListN.{get_elem?}
pub use mathlib.Core.Option.{some, some-injective, some-ne-none}
pub use Rattle.ink_base.specs.declared.ids.SourceId.{SourceId}
pub use Rattle.push_core.proofs.Slots.{same_empty, slot_in-empty}
pub use Rattle.push_core.specs.Slots.{empty_word, slot_in}
pub use Rattle.push_core.specs.Table.{FitsStage, IsAnswer, IsFew, IsLeft, IsRowFor, IsSettled, after_slot, first_row, is_full_at, point_of, row_at, shows_own, src_word, take_of}
pub use Rattle.push_core.specs.declared.point.Point.{Point}
pub use Rattle.push_core.specs.declared.port.Port.{Port}
pub use Rattle.push_core.specs.declared.row.Row.{Row}
pub use Rattle.push_core.specs.declared.slot.Slot.{Slot}
pub use Rattle.push_core.specs.declared.stage.Stage.{Stage}
pub use Rattle.event_queue.proofs.Basics.{below, element, snoc_cases}
pub use Rattle.event_queue.proofs.Words.{full_not_empty, slot_in-full}
pub use Rattle.event_queue.specs.Answers.{IsAck, IsTail, ShowsSlot}
pub use Rattle.event_queue.specs.Calls.{Knows, Won, mine_of, next_of, published_by, published_of, released_by, released_by_of, tail_of, won, won_below}
pub use Rattle.event_queue.specs.Events.{Entry, full, source_id}
pub use Rattle.event_queue.specs.Seats.{HearsAsSource, IsSameSeat, IsSeatOf, ring_of, told_of, view}
pub use Rattle.event_queue.specs.Views.{both_told, calls_of, gone_of, greater, out_of, places_of, queue_of}
pub use Rattle.event_queue.specs.declared.seat.Note.{Note}
pub use Rattle.event_queue.specs.declared.seat.SourceSeat.{SourceSeat}
pub use Rattle.event_queue.specs.declared.set.QueueSet.{QueueSet}
pub use Rattle.event_queue.specs.declared.view.Call.{Call}
pub use Rattle.event_queue.specs.declared.view.Call.TheVariants.{HelpTail, LoadAck, LoadSlot, LoadTail, Publish}
pub use Rattle.event_queue.specs.declared.view.Lay.{Lay}
pub use Rattle.event_queue.specs.declared.view.Told.{Told}
pub use Rattle.event_queue.specs.declared.view.View.{View}
pub use Rattle.irq_source.specs.Acting.{IsPortOf}
pub use Rattle.irq_source.specs.Known.{Added, MineKept, SrcKept, known, settled_of}
pub use Rattle.irq_source.specs.Rows.{Finds, accepts, declines, tail_in}
pub use Rattle.irq_source.specs.kept.Acts.{HasMade, IsReady}
pub use Rattle.irq_source.specs.kept.Paces.{PacesOne, reach, spent}
pub use Rattle.irq_source.specs.kept.Stands.{IsInSrc, StageKept, Stands}
