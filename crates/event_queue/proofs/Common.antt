-- The names that several proofs of this crate cite, passed on from one place. Declares nothing.
pub use Rattle.std.proofs.Common.{All, Bool, IsSome, List, None, Option, Some, [], ap, append-nil, append_assoc, arith, cond, eq-eqb, eqb, eqb-true, false, get_or, get_or-append-add, get_or-set_other, get_or-set_same, if◌then◌else◌, inl, inr, le_refl, length, length-append, length-set, map, max, mod-eq_of_lt, mod-lt, nat_lt, ne_eqb, refl, rules, set, slice_index, subst, suc, sym, take, true, zero, ℕ, ⊎_elim, ◌%◌, ◌&&◌, ◌*◌, ◌++◌, ◌+◌, ◌-◌, ◌<◌, ◌==◌, ◌^◌, ◌∙◌, ◌∷◌, ◌≡◌, ◌≢◌, ◌≤◌, ◌⊎◌}
pub use Rattle.std.proofs.lemmas.Bool.{and_parts, cases_eq, cases_lt, cases_order}
pub use Rattle.std.proofs.lemmas.Bool.Decides.{nat_tests}
pub use Rattle.std.proofs.lemmas.List.{get_or_append_left, get_or_push, length-map}
pub use Rattle.std.proofs.lemmas.Option.{same_Some}
pub use lib.ListN.{get_elem?}
pub use mathlib.Core.Option.{some, some-injective, some-ne-none}
pub use prog.Atomic.{either}
pub use Rattle.atomic_table.proofs.Lists.{at_last, at_longer, at_set, exchanged, set_again}
pub use Rattle.atomic_table.specs.Seated.{TableId}
pub use Rattle.atomic_table.specs.Table.{Act, Allows, Final, Joins, Me, Seen, Splits, State, Valid, carried_after, homes_after, keeps, opening, stepped}
pub use Rattle.atomic_table.specs.declared.shared.Seat.{Seat}
pub use Rattle.ink_base.specs.declared.ids.ThreadId.{ThreadId}
pub use Rattle.push_core.proofs.Slots.{same_empty, same_full, slot_in-empty}
pub use Rattle.push_core.specs.Slots.{FitsSlot, empty_word, full_word, slot_in}
pub use Rattle.push_core.specs.declared.slot.Slot.TheVariants.{Empty, Full}
pub use Rattle.event_queue.specs.Answers.{IsLook, IsMine, IsTail, ShowsEmpty, ShowsEvent, ShowsSlot}
pub use Rattle.event_queue.specs.Calls.{Knows, Won, acked_of, covered_of, knows_of, mine_of, next_of, published_by, published_of, released_by, released_by_of, released_of, seen_of, sum_of, tail_of, won, won_below}
pub use Rattle.event_queue.specs.Events.{Entry, FitsEntry, full, holds_event, source_id}
pub use Rattle.event_queue.specs.Finishes.{Finished, own_among, own_at}
pub use Rattle.event_queue.specs.Places.{Ack, Place, Slot, Tail, address, has_place, shared_words, word_at, word_count, words_before}
pub use Rattle.event_queue.specs.Rule.{AllApart, Calls, ClockKept, EntriesKept, Every, IsEvent, IsLay, IsRole, Kept, KernelKept, LayKept, LookKept, QueueKept, Queues, SeatKept, Seats, SourceKept, StandsOnce, ToMakeKept, ToldStands, calls_by, published_into, same_role, seat_of, times_in, times_left, times_of}
pub use Rattle.event_queue.specs.Seats.{AreNewSources, IsNewSource, IsPlaceOf, IsSeatOf, lay_in, view}
pub use Rattle.event_queue.specs.Views.{all_roles, as_before, calls_of, emptied, first_view, greater, joined, known_of, known_published, lay_of, made, maker_after, note_of, nothing_told, out_of, part, places_of, queue_of, raised, sole, sources_from, tabulated, told_by, with_call}
pub use Rattle.event_queue.specs.declared.seat.SourceSeat.{SourceSeat}
pub use Rattle.event_queue.specs.declared.set.QueueSet.{QueueSet}
pub use Rattle.event_queue.specs.declared.view.Call.{Call}
pub use Rattle.event_queue.specs.declared.view.Call.TheVariants.{AddClock, HelpTail, LoadAck, LoadClock, LoadSlot, LoadTail, Look, Publish, Release, StoreAck}
pub use Rattle.event_queue.specs.declared.view.Lay.{Lay}
pub use Rattle.event_queue.specs.declared.view.Part.{Part}
pub use Rattle.event_queue.specs.declared.view.Role.{Role}
pub use Rattle.event_queue.specs.declared.view.Role.TheVariants.{Clock, Kernel, Source}
pub use Rattle.event_queue.specs.declared.view.Shape.{Shape}
pub use Rattle.event_queue.specs.declared.view.Told.{Told}
pub use Rattle.event_queue.specs.declared.view.View.{View}
pub use Rattle.event_queue.specs.kept.Changes.{Becomes, put, with_clock, with_kernel, with_source}
pub use Rattle.event_queue.specs.kept.Gathers.{Gathering, Gathers, HasPart, IsToldLess}
pub use Rattle.event_queue.specs.kept.Images.{IsMaker, empties, first_words_of, image_to, maker, tails_to, words_of, zeros}
pub use Rattle.event_queue.specs.kept.Plays.{Made, Tells, found}
pub use Rattle.event_queue.specs.kept.Sits.{IsClockSeat, IsKernelSeat, IsSet, IsSourceSeat, SeenKept, no_sight, sight_of}
