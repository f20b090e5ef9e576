-- The names that several proofs of this crate cite, passed on from one place. Declares nothing.
pub use Rattle.std.proofs.Common.{Bool, IsTrue, List, None, Option, Some, [], ap, arith, cond, eq-eqb, eqb-true, false, get_or, if◌then◌else◌, inl, inr, leb-true, length, lt-ltb, ltb-true, max, nat_le, nat_lt, ne_eqb, not, refl, slice_index, slice_index_or, subst, suc, sym, take, take_all, true, zero, ℕ, ◌%◌, ◌&&◌, ◌*◌, ◌+◌, ◌-◌, ◌/◌, ◌<◌, ◌==◌, ◌^◌, ◌∙◌, ◌∷◌, ◌≡◌, ◌≢◌, ◌≤◌, ◌⊎◌, ◌||◌, ◌↔◌}
pub use Rattle.std.proofs.Math.Nat.{add-mod_right}
pub use Rattle.std.proofs.lemmas.Bool.{and_from, and_parts, cases_Bool, cases_eq, cases_lt}
pub use Rattle.std.proofs.lemmas.Option.{same_Some}
pub use Rattle.std.specs.List.{list_any}
pub use Rattle.fram_words.specs.Held.{origin_of, origin_word, src_of, src_word}
pub use Rattle.fram_words.specs.Places.{Ack, Clock, Code, Commit, Log, Memory, Page, Place, Ring, Slot, Src, Tail}
pub use Rattle.ink_base.specs.declared.event.Event.{Event}
pub use Rattle.ink_base.specs.declared.event.Origin.{Origin}
pub use Rattle.ink_base.specs.declared.ids.SourceId.{SourceId}
pub use Rattle.ink_layout.specs.Shape.{pages_of}
pub use Rattle.prog_check.specs.Accepted.{IsAccepted}
pub use Rattle.prog_check.specs.Lookup.{pipe_def, source_thread, task_def, thread_def}
pub use Rattle.push_core.proofs.Slots.{slot_in-empty, slot_in-full}
pub use Rattle.push_core.specs.Queue.{event_at, event_count, event_source, published}
pub use Rattle.push_core.specs.Slots.{empty_word, full_word, slot_in}
pub use Rattle.push_core.specs.Table.{greatest_tail}
pub use Rattle.task_isa.specs.declared.program.Program.{Program}
pub use Rattle.thread_state.specs.Pages.{committed, place_in}
pub use Rattle.never_cut.specs.Image.{HasChain, IsBlockWord, IsChainOrigin, IsChainValue, IsFirstServed, IsImage, IsLogWord, IsPipeRight, IsQueueRight, IsServedFirst, IsSourceRight, IsTakenLast, held_for, own_events, stamp_at, taken_of, written_of}
pub use Rattle.never_cut.specs.Ranges.{IsOwnOrigin}
pub use Rattle.never_cut.specs.ReadOff.{event_in, events_from, has_number, is_full_of, is_one_more, slot_of, told_finished, told_held, told_queue, told_released, told_source}
pub use Rattle.never_cut.specs.Stands.{flag, owns_timer, reads_pipe, writes_pipe}
pub use Rattle.never_cut.specs.Worn.{IsWorn, listed_into}
pub use Rattle.old_image.specs.declared.old_event.OldEvent.{OldEvent}
pub use Rattle.old_image.specs.declared.old_slot.OldSlot.{OldSlot}
pub use Rattle.old_image.specs.Slots.{FitsOldSlot, IsOldSlot, old_empty_word, old_full_in, old_full_word, old_slot_in, old_word_of}
pub use Rattle.old_image.specs.Told.{after_event, after_held, feeds, is_of, is_old_full_of, no_old_event, old_event_at, old_event_in, old_events_from, old_finished, old_held, old_held_for, old_next, old_origin_word, old_published, old_released, old_slot_of, own_old}
pub use Rattle.old_image.specs.Image.{HasSourceChain, IsOldAckWord, IsOldBlockWord, IsOldFirstServed, IsOldImage, IsOldOrigin, IsOldQueueRight, IsOldServed, IsOldSlotWord, IsOldSourceRight, IsRisingReading, is_old_finished_at}
pub use Rattle.old_image.specs.Worn.{IsFresh, IsOldWorn}
pub use Rattle.old_image.specs.Renewed.{IsRenewed, StayFresh, Stays, origin_place, place_behind, renewed_word, without_reading}
