-- The names that several proofs of this crate cite, passed on from one place. Declares nothing.
pub use Rattle.std.proofs.Common.{All, Bool, IsSome, List, None, Option, Some, [], ap, append-nil, append_assoc, arith, cond, drop, eq-eqb, eqb-true, false, filter, get_or, get_or-set_other, get_or-set_same, if◌then◌else◌, inl, inr, le-ltb, leb-true, length, length-append, length-drop, length-set, length-take-le, lt-ltb, ltb-true, map, nat_le, nat_lt, ne_eqb, not, refl, replicate, rules, set, slice_get, slice_index, slice_index_or, subst, suc, sym, take, take_all, true, zero, ℕ, ◌%◌, ◌&&◌, ◌*◌, ◌++◌, ◌+◌, ◌-◌, ◌/◌, ◌<◌, ◌==◌, ◌^◌, ◌||◌, ◌∙◌, ◌∷◌, ◌≡◌, ◌≢◌, ◌≤◌, ◌⊎◌}
pub use Rattle.std.proofs.Math.Nat.{add-mod_right, div-le_self, mod-le}
pub use Rattle.std.proofs.lemmas.Bool.{and_from, and_parts, cases_Bool, cases_eq, cases_lt}
pub use Rattle.std.proofs.lemmas.Grind.{get_or-set_at, get_or_after_one}
pub use Rattle.std.proofs.lemmas.List.{get_or-append_right, get_or-map, get_or-replicate, get_or_append_left, get_or_past, length-map, length-replicate, map-append, set_past, take_more}
pub use Rattle.std.proofs.lemmas.List.Elements.{All-append, All-cons, All-drop, All-filter, All-nil, filter-append, filter_passes}
pub use Rattle.std.proofs.lemmas.List.Sums.{count_by-le-length, get_or-le-sum_by, length-filter, passes_at_first, sum_by-append, sum_by-cons}
pub use Rattle.std.specs.List.{enumerate_from, list_any, range_with_len}
pub use Rattle.std.specs.List.Sorted.{IsNonDecreasingBy}
pub use Rattle.std.specs.Option.{ForSome}
pub use Rattle.fram_words.proofs.ReadBack.{origin_of-origin_word}
pub use Rattle.fram_words.specs.Held.{HasOriginBits, due_word, next_word, origin_of, origin_word, output_word, src_of}
pub use Rattle.fram_words.specs.Places.{Ack, Clock, Code, Log, Memory, Page, Place, Ring, Slot, Src, Tail, store}
pub use Rattle.ink_base.specs.declared.entry.Entry.{Entry}
pub use Rattle.ink_base.specs.declared.entry.Entry.TheVariants.{Commit, Look, Push, Refuse, Release, Scan, Skip, Tick}
pub use Rattle.ink_base.specs.declared.event.Event.{Event}
pub use Rattle.ink_base.specs.declared.event.Origin.{Origin}
pub use Rattle.ink_base.specs.declared.ids.SourceId.{SourceId}
pub use Rattle.ink_base.specs.declared.ids.TaskId.{TaskId}
pub use Rattle.ink_base.specs.declared.ids.ThreadId.{ThreadId}
pub use Rattle.ink_base.specs.declared.output.Output.{Output}
pub use Rattle.ink_layout.specs.Shape.{pages_of, shape_of, thread_shape}
pub use Rattle.ink_layout.specs.declared.pick.Pick.{Pick}
pub use Rattle.prog_check.specs.Accepted.{HasCounts, IsAccepted, IsRightInstr}
pub use Rattle.prog_check.specs.Lookup.{first_task, instr_at, no_pipe_def, no_task_def, no_thread_def, no_timer_def, pipe_def, source_thread, task_def, thread_def, timer_def}
pub use Rattle.push_core.proofs.Events.{is_number, number_count, number_source, queued_fits, slot_in-event_word}
pub use Rattle.push_core.proofs.Slots.{slot_in-empty}
pub use Rattle.push_core.proofs.Unsettled.{unsettled_bound, unsettled_least, unsettled_one}
pub use Rattle.push_core.specs.Queue.{IsNumber, IsOneMore, KeepsNumbers, Numbered, Queue, Source, StandsQueue, StandsSource, Stored, event_at, event_count, event_slot, event_source, event_word, published}
pub use Rattle.push_core.specs.Slots.{empty_word, full_in, full_word, slot_in, word_of}
pub use Rattle.push_core.specs.Table.{greatest_tail}
pub use Rattle.push_core.specs.declared.slot.Slot.TheVariants.{Empty, Full}
pub use Rattle.task_isa.proofs.Nexts.{EndsBelow, NamesBelow, task_of_below}
pub use Rattle.task_isa.specs.Acts.{Cpu, Given, act_of, bit_of, divided, kind_of, number_of, reg}
pub use Rattle.task_isa.specs.Meaning.{Config, Effects, Ended, GoesOn, HasTrapped, IsOver, Room, RunEnd, Stepped, Trapped, execute, first_config, given_of, has_room, no_effects, room_of, run, run_of, sent_to, task_end, task_of}
pub use Rattle.task_isa.specs.declared.act.Act.{Act}
pub use Rattle.task_isa.specs.declared.act.Act.TheVariants.{Arms, Continues, Ends, Goes, Loads, Puts, Saves, Sends, Sets, Stops, Traps}
pub use Rattle.task_isa.specs.declared.instr.Instr.{Instr}
pub use Rattle.task_isa.specs.declared.instr.Instr.TheVariants.{Add, And, Arm, Divu, Done, Eq, Ev, Kind, Ld, Li, Ltu, Mov, Mul, Next, Now, Num, Or, Out, Remu, Send, Shl, Shr, St, Stop, Sub, Xor}
pub use Rattle.task_isa.specs.declared.outcome.Outcome.{Outcome}
pub use Rattle.task_isa.specs.declared.outcome.TrapCode.TheVariants.{Divisor, Index, LogFull}
pub use Rattle.task_isa.specs.declared.program.Program.{Program}
pub use Rattle.task_isa.specs.declared.program.Task.{Task}
pub use Rattle.task_isa.specs.declared.program.ThreadDef.{ThreadDef}
pub use Rattle.task_isa.specs.declared.sent.Sent.{Sent}
pub use Rattle.task_isa.specs.declared.task_end.TaskEnd.{TaskEnd}
pub use Rattle.task_isa.specs.declared.task_start.TaskStart.{TaskStart}
pub use Rattle.task_isa.specs.declared.timer_set.TimerSet.{TimerSet}
pub use Rattle.thread_state.specs.Pages.{committed, place_in}
pub use Rattle.never_cut.specs.Commit.{commit, consumed, end_at, ended, expired, expired_after, is_expired, is_of_queue, is_overdue, moved_on, next_due, outputs_of, room_in, rooms, set_by, start_at, taken_from, task_at, thread_after, with_end, with_first, with_item, with_sends, with_timers}
pub use Rattle.never_cut.specs.Entries.{ArePassed, IsCalm, IsPassed, Legal, Readings, effect, fed_by, looked, next_event, pushed, readings_of, released, with_accepted, with_refused, with_skipped}
pub use Rattle.never_cut.specs.Finished.{AtMostOneFinished}
pub use Rattle.never_cut.specs.Image.{HasChain, IsBlockWord, IsChainOrigin, IsChainValue, IsImage, IsLogWord, IsPipeRight, IsQueueRight, IsServedFirst, IsSourceRight, IsTakenLast, held_for, own_events, stamp_at, taken_of, written_of}
pub use Rattle.never_cut.specs.Images.{AreListed, EveryImageStands, EveryStateIsImage, KeepTheirNumbers}
pub use Rattle.never_cut.specs.Journal.{IsLegal, MayNote, after, moved, noted}
pub use Rattle.never_cut.specs.Laws.{EachEventOnce, IsStamped, ReadingsInOrder, StampsByCommits, StatesByCommits, commits_in, committing, finished_by, gathered, of_queue, queued_by, settled_by, state_after, state_at_end, state_by, state_from}
pub use Rattle.never_cut.specs.Outputs.{outputs_in, stamped}
pub use Rattle.never_cut.specs.Pending.{due_event, first_number, first_of, has_due, has_item, is_due_by, item_event, later_event, pending, pending_in, timer_event}
pub use Rattle.never_cut.specs.Ranges.{IsOwnOrigin, IsTaskOf}
pub use Rattle.never_cut.specs.Reached.{EveryJournalTells, EveryStateStarts}
pub use Rattle.never_cut.specs.ReadOff.{IsReadOff, event_in, events_from, has_number, is_full_of, is_one_more, slot_of, told_finished, told_held, told_queue, told_released, told_source}
pub use Rattle.never_cut.specs.Replaying.{model_of}
pub use Rattle.never_cut.specs.Sound.{HasStamps, IsChain, IsQueued, IsServed, IsSound, IsSoundPipe, IsSoundSource, IsSoundThread, IsSoundTimer, sources_in, unsettled_into}
pub use Rattle.never_cut.specs.Stands.{AreLogged, Saved, Stands, StandsPipe, StandsPrivate, StandsShared, StandsThread, flag, log_of, owns_timer, period_word, saved, slots_of, taken_word, thread_words, timer_word, written_word}
pub use Rattle.never_cut.specs.Start.{CanStart}
pub use Rattle.never_cut.specs.State.{is_looked, is_running, no_pipe, no_source, no_thread, no_timer, open_model, open_pipe, open_source, open_thread, open_timer, pipe_of, queue_of, source_in, source_of, thread_of, timer_of, unfinished, with_source, with_thread}
pub use Rattle.never_cut.specs.Within.{AreReadings, AreShort, HasRoom, HasRoomFor, IsTimely, IsWithin, IsWithinSource, IsWithinThread, Lasts, LastsThread, is_scanning}
pub use Rattle.never_cut.specs.Worn.{IsWorn, LateClock, ManyCommits, ManyPositions, ManyServices, ManyTaken, listed_into}
pub use Rattle.never_cut.specs.declared.model.Model.{Model}
pub use Rattle.never_cut.specs.declared.pipe_model.PipeModel.{PipeModel}
pub use Rattle.never_cut.specs.declared.scan_model.ScanModel.{ScanModel}
pub use Rattle.never_cut.specs.declared.source_model.SourceModel.{SourceModel}
pub use Rattle.never_cut.specs.declared.thread_model.ThreadModel.{ThreadModel}
pub use Rattle.never_cut.specs.declared.timer_model.TimerModel.{TimerModel}
pub use Rattle.never_cut.specs.kept.Actors.{Follows, IsFinishing, IsFirstHeld, IsOther, SamePrivate, StandsForKernel, without_held}
pub use Rattle.never_cut.specs.kept.Picked.{IsPicked}
