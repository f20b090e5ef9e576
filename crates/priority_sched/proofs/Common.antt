-- The names that several proofs of this crate cite, passed on from one place. Declares nothing.
pub use Rattle.std.proofs.Common.{Bool, List, None, Option, Some, [], ap, arith, eq-eqb, eqb-true, false, if◌then◌else◌, inl, inr, le-ltb, length, lt-ltb, nat_le, nat_lt, ne_eqb, refl, slice_index, slice_index_or, subst, suc, sym, true, zero, ℕ, ◌%◌, ◌&&◌, ◌*◌, ◌++◌, ◌+◌, ◌-◌, ◌/◌, ◌<◌, ◌==◌, ◌^◌, ◌∙◌, ◌∷◌, ◌≡◌, ◌≢◌, ◌≤◌}
pub use Rattle.std.proofs.lemmas.Bool.{cases_Bool, cases_eq, cases_lt}
pub use Rattle.std.proofs.lemmas.Option.{same_Some}
pub use Rattle.std.specs.Option.{ForSome}
pub use Rattle.event_pipe.specs.Ring.{ring_index}
pub use Rattle.fram_words.proofs.ReadBack.{origin_of-origin_word, running_of-next_word}
pub use Rattle.fram_words.specs.Held.{HasOriginBits, due_word, next_word, origin_of, running_of}
pub use Rattle.fram_words.specs.Places.{Load, Memory, Ring, answer}
pub use Rattle.ink_base.specs.declared.event.Event.{Event}
pub use Rattle.ink_base.specs.declared.ids.TaskId.{TaskId}
pub use Rattle.ink_base.specs.declared.ids.ThreadId.{ThreadId}
pub use Rattle.never_cut.proofs.Blocks.{finished_word, running_word}
pub use Rattle.never_cut.proofs.Picks.{passed_follows, pending-first, pending-later, pending-running, picked_follows}
pub use Rattle.never_cut.proofs.Scans.{scan_private, scan_queues, with_scan}
pub use Rattle.never_cut.specs.Entries.{InScan, IsCalm, IsPassed, MayLook, Readings, looked}
pub use Rattle.never_cut.specs.Pending.{due_event, first_number, has_due, has_item, is_due_by, item_event, later_event, pending, timer_event}
pub use Rattle.never_cut.specs.Sound.{IsChain, IsQueued, IsServed, IsSound, IsSoundPipe}
pub use Rattle.never_cut.specs.Stands.{StandsPrivate, flag}
pub use Rattle.never_cut.specs.State.{is_looked, no_pipe, pipe_of, queue_of, thread_of, timer_of}
pub use Rattle.never_cut.specs.Within.{Lasts}
pub use Rattle.never_cut.specs.declared.model.Model.{Model}
pub use Rattle.never_cut.specs.declared.scan_model.ScanModel.{ScanModel}
pub use Rattle.never_cut.specs.kept.Actors.{Follows, IsFirstHeld, SamePrivate}
pub use Rattle.never_cut.specs.kept.Steps.{Background, IsKept}
pub use Rattle.prog_check.specs.Accepted.{IsAccepted}
pub use Rattle.prog_check.specs.Lookup.{pipe_def, thread_def, timer_def}
pub use Rattle.push_core.specs.Queue.{event_slot, published}
pub use Rattle.push_core.specs.Slots.{slot_in}
pub use Rattle.task_isa.specs.declared.program.Program.{Program}
pub use Rattle.thread_state.specs.Pages.{place_in}
pub use Rattle.priority_sched.specs.Knows.{AreEmptyBelow, AreOffBelow, ArePassedAll, HasOrigin, IsBefore, IsReached, KnowsChain, KnowsIdle, KnowsPipe, KnowsTimer, KnowsWaiting, ScanHolds, ScanKnows, ScanStep}
pub use Rattle.priority_sched.specs.Laws.{IsFound, IsInRange, IsQuiet}
pub use Rattle.priority_sched.specs.Order.{IsHighest, better, next_among, next_below, priority_of}
pub use Rattle.priority_sched.specs.Picks.{chain_pick, item_pick, queue_pick, timer_pick}
pub use Rattle.priority_sched.specs.Scan.{IsScan, IsScanRow, IsScanWord, IsWaiting, after_finished, after_look, after_taken, after_timer, after_value, after_writer, after_written, at_pipe, at_timer, event_at, is_owner, is_reader, look_point, next_pipe, next_timer, scan_at, scan_begun, scan_next, scan_result, scan_takes, scan_wants, writer_of}
pub use Rattle.priority_sched.specs.declared.chain.Chain.{Chain}
pub use Rattle.priority_sched.specs.declared.idle.Idle.{Idle}
pub use Rattle.priority_sched.specs.declared.idle.Waiting.{Waiting}
pub use Rattle.priority_sched.specs.declared.machine.ScanMachine.{ScanMachine}
pub use Rattle.priority_sched.specs.declared.scan_at.ScanAt.{ScanAt}
pub use Rattle.priority_sched.specs.declared.scan_at.ScanAt.TheVariants.{Clock, Commit, Finished, First, Item, Origin, Picked, Quiet, Running, Slot, Taken, Timer, Value, Writer, Written}
