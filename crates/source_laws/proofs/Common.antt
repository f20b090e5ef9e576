-- The names that several proofs of this crate cite, passed on from one place. Declares nothing.
pub use Rattle.std.proofs.Common.{Bool, List, MatchBool, None, Option, Some, [], ap, arith, cond, drop, eq-eqb, eqb-true, false, get_or-drop, inl, inr, length, length-append, length-drop, lt-ltb, ltb-false, ltb-true, mod-eq_of_lt, mod-lt, nat_lt, ne_eqb, one-add, refl, subst, suc, sym, true, true≢false, zero, ℕ, ◌%◌, ◌&&◌, ◌++◌, ◌+◌, ◌-◌, ◌/◌, ◌<◌, ◌==◌, ◌^◌, ◌||◌, ◌∙◌, ◌∷◌, ◌≡◌, ◌≤◌, ◌⊎◌}
pub use Rattle.std.proofs.lemmas.Bool.{MatchBool-at_false, MatchBool-at_true, and_from, and_parts, cases_eq, cases_lt, eqb-false, false≢true, or_cases, or_left, or_right}
pub use Rattle.std.proofs.lemmas.List.{get_or_append_left, get_or_push}
pub use Rattle.fram_words.specs.Accesses.{Makes, at_address}
pub use Rattle.fram_words.specs.Changes.{Becomes}
pub use Rattle.fram_words.specs.Places.{Ack, IsShared, Place, Src, Tail}
pub use Rattle.ink_base.specs.declared.event.Event.{Event}
pub use Rattle.push_core.proofs.Events.{event_word-≢-empty_word, finishing_count, finishing_push, finishing_some, finishing_source, is_number, number_count, number_source, queued_fits, queued_numbers, slot_in-event_word}
pub use Rattle.push_core.proofs.Queues.{Holds, IsEmpty, SlotIs, queue_finish, queue_push, queue_release, queue_same, queue_tail, slot_is}
pub use Rattle.push_core.proofs.Unsettled.{unsettled_bound, unsettled_least, unsettled_one}
pub use Rattle.push_core.specs.Queue.{FitsEvent, HoldsNumber, IsFinishing, IsNumber, IsQueued, KeepsNumbers, Numbered, Queue, Source, StandsQueue, StandsSource, Stored, event_at, event_count, event_slot, event_source, event_word, next_event, no_event, open_queue, published, unsettled_into, with_accepted, with_event, with_finished, with_refused, with_skipped, without_first}
pub use Rattle.push_core.specs.Slots.{empty_word, slot_in}
pub use Rattle.push_core.specs.Table.{FitsStage, IsAnswer, IsLeft, IsPort, IsRowFor, access_of, after_ack, after_boot_slot, after_slot, first_row, greatest_tail, is_full_at, row_at, shows_own, src_word}
pub use Rattle.push_core.specs.declared.row.Row.{Row}
pub use Rattle.push_core.specs.declared.stage.Stage.{Stage}
pub use Rattle.push_core.specs.declared.stage.Stage.TheVariants.{HelpTail, LoadAck, LoadSlot, LoadSlots, LoadSrc, LoadTail, MoveTail, Publish, StoreAccepted, StoreSkip}
pub use Rattle.source_laws.specs.Model.{Board, BothBecome, Entry, Finish, Follows, Model, Near, Push, QueueBecomes, Refuse, Release, Skip, SourceBecomes, places_for}
pub use Rattle.source_laws.specs.Rows.{access, access_at, entry, entry_of, event_of, found, port_of, slot_place, take}
pub use Rattle.source_laws.specs.Stands.{EventsKept, IsOrdered, IsWithin, QueueKept, State, near, slots_of}
pub use Rattle.source_laws.specs.Steps.{Adds, IsFirst, IsRun, IsStart, MayAdd, SourceStep, Step}
pub use Rattle.source_laws.specs.kept.Kept.{Kept, SourceKept, SourcePart}
pub use Rattle.source_laws.specs.kept.Knows.{Boots, IsShown, Knows, KnowsAt}
