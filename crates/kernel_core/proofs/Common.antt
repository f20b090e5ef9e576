-- The names that several proofs of this crate cite, passed on from one place. Declares nothing.
pub use Rattle.std.proofs.Common.{Bool, List, None, Option, Some, [], ap, append-nil, append_assoc, arith, cond, drop, eq-eqb, false, get_or, get_or-set_other, get_or-set_same, if◌then◌else◌, inl, inr, le-ltb, length, length-append, length-set, map, mod-lt, nat_lt, ne_eqb, refl, replicate, rules, set, slice_index, subst, suc, sum_by, sym, take, take_all, take_at, true, vec_capacity, vec_len, zero, ℕ, ◌%◌, ◌&&◌, ◌*◌, ◌++◌, ◌+◌, ◌-◌, ◌/◌, ◌<◌, ◌==◌, ◌^◌, ◌||◌, ◌∙◌, ◌∷◌, ◌≡◌, ◌≢◌, ◌≤◌, ◌⊎◌}
pub use Rattle.std.proofs.lemmas.Bool.{cases_eq, cases_lt}
pub use Rattle.std.proofs.lemmas.List.{flat_map_more, get_or-replicate, get_or_default, get_or_past, get_or_read, length-map, length-replicate, map-append, nil_from_length, take_more}
pub use Rattle.std.proofs.lemmas.List.Elements.{All-get_or, All-head, All-tail}
pub use Rattle.std.proofs.lemmas.List.Sums.{sum_by-cons, sum_by-drop_more, sum_by-take-drop, sum_by_more, sum_by_more_le}
pub use Rattle.std.specs.List.{All, flat_map}
pub use Rattle.fram_words.proofs.Accesses.{address_same, finds_there, performed_length, performed_there, performs, stored, word_there}
pub use Rattle.fram_words.proofs.Frames.{store-other, store-same}
pub use Rattle.fram_words.specs.Accesses.{at_address}
pub use Rattle.fram_words.specs.Changes.{Becomes}
pub use Rattle.fram_words.specs.Places.{Ack, Add, Clock, Commit, Exchange, IsShared, Load, Log, Memory, Place, Slot, Src, Store, Tail, answer, perform, place_of, store}
pub use Rattle.fram_words.specs.Shape.{address, has_indices, is_valid, memory_of, offset, region}
pub use Rattle.fram_words.specs.Words.{FitsWords, address_of, performed}
pub use Rattle.fram_words.specs.declared.access.Access.{Access}
pub use Rattle.fram_words.specs.declared.layout.Layout.{Layout}
pub use Rattle.ink_base.specs.declared.actor.Actor.{Actor}
pub use Rattle.ink_base.specs.declared.entry.Entry.{Entry}
pub use Rattle.ink_base.specs.declared.entry.Entry.TheVariants.{Refuse, Skip, Tick}
pub use Rattle.ink_base.specs.declared.event.Event.{Event}
pub use Rattle.ink_base.specs.declared.ids.ThreadId.{ThreadId}
pub use Rattle.ink_layout.proofs.Regions.{below, in_rest, valid}
pub use Rattle.ink_layout.specs.Addresses.{at_layout, queue_place}
pub use Rattle.ink_layout.specs.Image.{IsFirstImage}
pub use Rattle.ink_layout.specs.Layouts.{IsLayout}
pub use Rattle.ink_layout.specs.Points.{entry_of_point}
pub use Rattle.ink_layout.specs.Shape.{IsOnBoard, pages_of, pipe_words, queue_words, shape_of, task_words, thread_shape, words_of}
pub use Rattle.ink_layout.specs.declared.kernel_point.KernelPoint.{KernelPoint}
pub use Rattle.job_parts.specs.Job.{AreFirstWords, AreReadings, IsJob, IsRightCharge, JobParts, charge_turns, first_model, first_of, item_turns}
pub use Rattle.job_parts.specs.declared.charge.Charge.{Charge}
pub use Rattle.job_parts.specs.declared.item.Item.{Item}
pub use Rattle.never_cut.proofs.Follows.{follow_private, push_follows, same_follows}
pub use Rattle.never_cut.proofs.Journals.{IsLegal-noted, after-noted}
pub use Rattle.never_cut.proofs.Lasting.{lasts_less, lasts_step, open_lasts}
pub use Rattle.never_cut.proofs.SoundStates.{published_bound, sound_after, sound_step}
pub use Rattle.never_cut.proofs.Starts.{open_starts}
pub use Rattle.never_cut.specs.Commit.{commit, committed, consumed, end_at, ended, expired, expired_after, is_expired, is_of_queue, thread_after, with_end, with_first}
pub use Rattle.never_cut.specs.Entries.{Readings, effect, next_event, pushed, readings_of, released, with_accepted, with_refused, with_skipped}
pub use Rattle.never_cut.specs.Journal.{IsLegal, MayNote, after, moved, noted}
pub use Rattle.never_cut.specs.Pending.{pending}
pub use Rattle.never_cut.specs.Sound.{IsQueued, IsSound}
pub use Rattle.never_cut.specs.Stands.{Stands, StandsPrivate, origin_word}
pub use Rattle.never_cut.specs.State.{is_running, no_source, no_thread, open_model, open_source, open_thread, queue_of, source_in, source_of, thread_of, with_thread}
pub use Rattle.never_cut.specs.Within.{AreShort, Lasts}
pub use Rattle.never_cut.specs.declared.model.Model.{Model}
pub use Rattle.never_cut.specs.declared.scan_model.ScanModel.{ScanModel}
pub use Rattle.never_cut.specs.declared.source_model.SourceModel.{SourceModel}
pub use Rattle.never_cut.specs.declared.thread_model.ThreadModel.{ThreadModel}
pub use Rattle.never_cut.specs.kept.Actors.{Follows, IsAllowed, IsAllowedStore, IsFinishing, IsPrivate, SamePrivate, StandsForKernel, without_held}
pub use Rattle.never_cut.specs.kept.Picked.{IsPicked}
pub use Rattle.never_cut.specs.kept.Steps.{Background, IsKept}
pub use Rattle.persist_timer.specs.Due.{armed}
pub use Rattle.priority_sched.proofs.Ranges.{scan_in_range}
pub use Rattle.priority_sched.specs.Scan.{IsScanRow, event_at, look_point, scan_point, scan_result, scan_takes, scan_wants}
pub use Rattle.priority_sched.specs.declared.scan_at.ScanAt.{ScanAt}
pub use Rattle.prog_check.specs.Accepted.{IsAccepted}
pub use Rattle.prog_check.specs.Lookup.{no_thread_def, pipe_def, source_thread, task_def, thread_def}
pub use Rattle.push_core.specs.Queue.{Queue, event_word, open_queue, with_finished, without_first}
pub use Rattle.push_core.specs.Slots.{empty_word, slot_in}
pub use Rattle.push_core.specs.Table.{IsAnswer, IsFew, IsLeft, IsPort, IsRowFor, first_row, is_full_at, is_left, point_of, src_word, take_of, want_of}
pub use Rattle.push_core.specs.declared.point.Point.{Point}
pub use Rattle.push_core.specs.declared.pusher.Pusher.{Pusher}
pub use Rattle.push_core.specs.declared.row.Row.{Row}
pub use Rattle.push_core.specs.declared.stage.Stage.{Stage}
pub use Rattle.push_core.specs.declared.stage.Stage.TheVariants.{HelpTail, LoadAck, LoadSlot, LoadSlots, LoadSrc, LoadTail, MoveTail, Publish, StoreAccepted, StoreSkip}
pub use Rattle.reboot.proofs.Boots.{boot_begins, boot_keeps}
pub use Rattle.reboot.specs.Boot.{boot_point, boot_stamp, boot_takes, boot_wants}
pub use Rattle.reboot.specs.Knows.{BootHolds, BootKnows}
pub use Rattle.reboot.specs.declared.boot_at.BootAt.{BootAt}
pub use Rattle.reboot.specs.declared.machine.BootMachine.{BootMachine}
pub use Rattle.source_laws.proofs.Ports.{access_of-port}
pub use Rattle.source_laws.proofs.Runs.{kept_start, start_first, tells}
pub use Rattle.source_laws.proofs.Steps.{kept_step, source_step}
pub use Rattle.source_laws.specs.Model.{Near, QueueBecomes, places_for}
pub use Rattle.source_laws.specs.Rows.{access, access_at, event_of, port_of, slot_place}
pub use Rattle.source_laws.specs.Stands.{IsWithin, State}
pub use Rattle.source_laws.specs.Steps.{Adds, IsFirst, IsStart, MayAdd, SourceStep, Step}
pub use Rattle.source_laws.specs.kept.Kept.{Kept}
pub use Rattle.task_isa.specs.declared.program.Program.{Program}
pub use Rattle.task_isa.specs.declared.program.ThreadDef.{ThreadDef}
pub use Rattle.task_run.proofs.Ranges.{every_task_fits}
pub use Rattle.task_run.specs.Endings.{next_by, total_word}
pub use Rattle.task_run.specs.Knows.{Knows, KnowsAt}
pub use Rattle.task_run.specs.Actions.{Action, Get, Make, Put, access_of, action, cpu_of, device, fetch, given_by, is_late, sending}
pub use Rattle.task_run.specs.Machine.{after_act, after_action, after_event, after_fetch, after_resume, after_value, after_written, at_phase, first_phase, instr_of, is_over, point_at, proceed, stepped, trap}
pub use Rattle.task_run.specs.declared.machine.TaskMachine.{TaskMachine}
pub use Rattle.task_run.specs.declared.phase.Phase.{Phase}
pub use Rattle.thread_state.specs.Pages.{Buffer, Copying, IsUnderWay, Loading, Storing, after_copy, copy_access, is_dirty, place_in, put_access, working_mask, write_access}
pub use Rattle.kernel_core.specs.Board.{Board, Cut, Move, Setup, Turn, charged, clock_access, clock_turn, cut, entry_of_source, finds, first_board, journal, kernel_access, kernel_turn, move, moved_by, row_of, shape, sides, source_access, source_made, source_turn, turn}
pub use Rattle.kernel_core.specs.Core.{View, charge_def, job_of, no_charge, no_item, setup_of, turns_in}
pub use Rattle.kernel_core.specs.First.{IsSetup, StandsFirst}
pub use Rattle.kernel_core.specs.Kernel.{after_boot, after_scan, after_task, begin_scan, booted, first_kernel, point_found, takes, wants}
pub use Rattle.kernel_core.specs.Listed.{moves, moves_of, run, run_first, turns_of}
pub use Rattle.kernel_core.specs.Made.{access_made, accesses_in, clock_made, kernel_made, made_by, nothing_made, one_if}
pub use Rattle.kernel_core.specs.Moves.{AreMoves, EveryPrefixStands, ImagePrefixesStand, IsActor, IsInRange, OneIsFinished, ticks, turns}
pub use Rattle.kernel_core.specs.Record.{ChargeRecord, begun, charge_of, journal_of, not_begun, with_kernel, with_source, with_tick}
pub use Rattle.kernel_core.specs.RunRecords.{RecordStands, entries_of}
pub use Rattle.kernel_core.specs.Settling.{IsSameBut, RefusalsKeep, SkipsStore, src_of}
pub use Rattle.kernel_core.specs.Stands.{BoardStands, memory, state}
pub use Rattle.kernel_core.specs.Views.{seen, sides_of}
pub use Rattle.kernel_core.specs.declared.kernel.Kernel.{Kernel}
pub use Rattle.kernel_core.specs.declared.kernel.Kernel.TheVariants.{Boot, Scan, Task}
pub use Rattle.kernel_core.specs.declared.made.Made.{Made}
pub use Rattle.kernel_core.specs.kept.Cores.{AreRecords, CanCount, IsCore, IsPusher, StaysInRange, charge_in, no_pusher, none_recorded, rebooted, row_in, turns_from}
pub use Rattle.kernel_core.specs.kept.Holds.{HasSize, Holds, KernelHolds}
pub use Rattle.kernel_core.specs.kept.Recorded.{KeepsRoom, Recorded, emptied}
pub use Rattle.kernel_core.specs.kept.Starts.{AreFirstPushers, AreFirstRecords, IsFirstRecord, first_pusher}
