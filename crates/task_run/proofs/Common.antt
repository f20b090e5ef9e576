-- The names that several proofs of this crate cite, passed on from one place. Declares nothing.
pub use Rattle.std.proofs.Common.{All, Bool, IsSome, List, None, Option, Some, [], ap, append-nil, append_assoc, arith, bit_or, cond, drop, eq-eqb, eqb-true, false, filter, get_or, get_or-append-add, get_or-set_other, get_or-set_same, if◌then◌else◌, inl, inr, le-ltb, length, length-append, length-drop, length-set, lt-ltb, ltb-false, ltb-true, map, nat_lt, ne_eqb, not, refl, rules, set, slice_index, slice_index_or, slice_set, subst, suc, sym, true, unwrap_or, zero, ℕ, ◌%◌, ◌&&◌, ◌*◌, ◌++◌, ◌+◌, ◌-◌, ◌/◌, ◌<◌, ◌==◌, ◌^◌, ◌||◌, ◌∙◌, ◌∷◌, ◌≡◌, ◌≢◌, ◌≤◌}
pub use Rattle.std.proofs.Math.Path.{fun_ext}
pub use Rattle.std.proofs.lemmas.Bool.{cases_Bool, cases_eq, cases_lt, false≢true}
pub use Rattle.std.proofs.lemmas.List.{get_or-map, get_or_append_left, get_or_at, get_or_past, length-map, map-append, set-append_right}
pub use Rattle.std.proofs.lemmas.List.Elements.{All-filter, filter-append}
pub use Rattle.std.proofs.lemmas.List.Sums.{get_or-le-sum_by, passes_at_first, prefix_len-le-length, sum_by-cons, sum_by_push}
pub use Rattle.std.proofs.lemmas.Nat.{or_lt, xor_lt}
pub use Rattle.std.specs.Int.{bit_at}
pub use Rattle.std.specs.List.{enumerate_from, position, position_or_len}
pub use Rattle.std.specs.Option.{ForSome}
pub use Rattle.event_pipe.specs.Ring.{ring_index}
pub use Rattle.fram_words.proofs.Frames.{store-other, store-same}
pub use Rattle.fram_words.specs.Held.{FitsOrigin, due_word, next_word, origin_word, output_word}
pub use Rattle.fram_words.specs.Places.{Access, Ack, Clock, Code, Commit, Load, Log, Memory, Page, Place, Ring, Slot, Store, Tail, answer, perform, store}
pub use Rattle.ink_base.specs.declared.event.Event.{Event}
pub use Rattle.ink_base.specs.declared.event.Origin.{Origin}
pub use Rattle.ink_base.specs.declared.ids.TaskId.{TaskId}
pub use Rattle.ink_base.specs.declared.output.Output.{Output}
pub use Rattle.ink_layout.specs.Shape.{pages_of}
pub use Rattle.ink_layout.specs.declared.pick.Pick.{Pick}
pub use Rattle.never_cut.proofs.Beginnings.{Begins}
pub use Rattle.never_cut.proofs.PickedEvents.{IsServable, picked_begins, picked_event}
pub use Rattle.never_cut.proofs.Privates.{ack_blocks, no_pages, private_stays}
pub use Rattle.never_cut.specs.Commit.{commit, end_at, ended, expired, expired_after, is_expired, is_of_queue, is_overdue, moved_on, next_due, outputs_of, room_in, rooms, set_by, stamped, taken_from, task_at, thread_after, with_end, with_first, with_item, with_sends, with_timers}
pub use Rattle.never_cut.specs.Entries.{ArePassed, IsCalm, Legal, Readings}
pub use Rattle.never_cut.specs.Pending.{pending, pending_in}
pub use Rattle.never_cut.specs.Sound.{HasShape, HasStamps, IsQueued, IsSound}
pub use Rattle.never_cut.specs.Stands.{AreLogged, Saved, StandsPrivate, StandsThread, flag, log_of, period_word, saved, slots_of, taken_word, thread_words, written_word}
pub use Rattle.never_cut.specs.State.{is_running, no_pipe, no_thread, no_timer, pipe_of, queue_of, thread_of}
pub use Rattle.never_cut.specs.declared.model.Model.{Model}
pub use Rattle.never_cut.specs.declared.pipe_model.PipeModel.{PipeModel}
pub use Rattle.never_cut.specs.declared.scan_model.ScanModel.{ScanModel}
pub use Rattle.never_cut.specs.declared.thread_model.ThreadModel.{ThreadModel}
pub use Rattle.never_cut.specs.declared.timer_model.TimerModel.{TimerModel}
pub use Rattle.never_cut.specs.kept.Actors.{Follows, IsAllowed, IsFinishing, SamePrivate, StandsForKernel}
pub use Rattle.never_cut.specs.kept.Picked.{IsLoaded, IsPicked}
pub use Rattle.never_cut.specs.kept.Steps.{Background}
pub use Rattle.persist_timer.specs.Due.{after_service, armed}
pub use Rattle.prog_check.specs.Accepted.{IsAccepted, IsRightInstr, IsRightTask, ends_code}
pub use Rattle.prog_check.specs.Lookup.{code_len, first_task, instr_at, no_pipe_def, no_task_def, pipe_def, task_def, thread_def, timer_def}
pub use Rattle.push_core.specs.Queue.{StandsQueue, event_at, published}
pub use Rattle.task_isa.specs.Acts.{Cpu, Given, act_of, number_of, reg}
pub use Rattle.task_isa.specs.Code.{decoded, word_of_instr}
pub use Rattle.task_isa.specs.Meaning.{Config, Effects, Ended, GoesOn, HasTrapped, IsOver, Room, RunEnd, Stepped, Trapped, advance, advance_with, execute, first_config, has_room, no_effects, run, sent_to, task_end}
pub use Rattle.task_isa.specs.declared.act.Act.{Act}
pub use Rattle.task_isa.specs.declared.act.Act.TheVariants.{Arms, Continues, Ends, Goes, Loads, Puts, Saves, Sends, Sets, Stops, Traps}
pub use Rattle.task_isa.specs.declared.instr.Instr.{Instr}
pub use Rattle.task_isa.specs.declared.instr.Instr.TheVariants.{Add, And, Arm, Divu, Done, Eq, Ev, Jmp, Jnz, Jz, Kind, Ld, Li, Ltu, Mov, Mul, Next, Now, Num, Or, Out, Remu, Send, Shl, Shr, St, Stop, Sub, Xor}
pub use Rattle.task_isa.specs.declared.outcome.TrapCode.{TrapCode}
pub use Rattle.task_isa.specs.declared.outcome.TrapCode.TheVariants.{Index, LogFull}
pub use Rattle.task_isa.specs.declared.program.Program.{Program}
pub use Rattle.task_isa.specs.declared.program.Task.{Task}
pub use Rattle.task_isa.specs.declared.sent.Sent.{Sent}
pub use Rattle.task_isa.specs.declared.timer_set.TimerSet.{TimerSet}
pub use Rattle.thread_state.proofs.Pages.{commit_committed, commit_other, copy_committed, copy_goes_on, copy_only, copy_working, dirty_put_only, is_dirty-false, is_dirty-true, no_writes_words, put_committed, put_working}
pub use Rattle.thread_state.specs.Pages.{Buffer, Buffered, Copying, IsCopied, IsOutside, IsUnderWay, Loading, Storing, after_copy, committed, copy_access, is_dirty, no_writes, place_in, put, put_access, working, working_mask}
pub use Rattle.task_run.specs.Endings.{next_by, total_word}
pub use Rattle.task_run.specs.Fits.{FitsChain, FitsExecution, FitsPhase, FitsTask, FitsWord}
pub use Rattle.task_run.specs.Knows.{EveryPickBegins, EveryTaskCommits, EveryTaskFits, EveryTaskOutlasts, KeepsAll, Knows, KnowsAt, Releasing, SameCommitted}
pub use Rattle.task_run.specs.Actions.{Action, Get, Make, Put, action, cpu_of, device, execution_of, given_by, is_late}
pub use Rattle.task_run.specs.Machine.{after, after_act, after_action, after_commit, after_event, after_fetch, after_next, after_value, after_written, at_phase, begin, end_phase, first_phase, instr_of, is_over, phase_again, proceed, release_phase, running_task, stepped, take, trap, want}
pub use Rattle.task_run.specs.Reached.{IsPhaseOf, IsServiceOf, task_loaded}
pub use Rattle.task_run.specs.declared.ending.Ending.{Ending}
pub use Rattle.task_run.specs.declared.execution.Execution.{Execution}
pub use Rattle.task_run.specs.declared.machine.TaskMachine.{TaskMachine}
pub use Rattle.task_run.specs.declared.phase.Phase.{Phase}
pub use Rattle.task_run.specs.declared.phase.Phase.TheVariants.{Fetch, LoadReader, LoadTaken, Over, ReadCount, ReadPeriod, ReadState, ReadTotal, ReadWritten, Resume, StoreAck, StoreCommit, StoreEmpty, StoreItem, StoreLog, WriteArmed, WriteCount, WriteDue, WriteFinished, WriteFirst, WriteNext, WriteOrigin, WritePeriod, WriteStamp, WriteState, WriteStopped, WriteTaken, WriteTotal, WriteValue, WriteWritten}
pub use Rattle.task_run.specs.declared.sending.Sending.{Sending}
pub use Rattle.task_run.specs.kept.Trace.{config_after}
pub use Rattle.task_run.specs.kept.Served.{Again, AreSent, Assignment, Before, IsEnd, IsEndOf, IsLast, IsTrap, assignment, begun, changed, concluded, config_of, consumed, counted, due_with, effects_of, end_of, finish, finished_by, period_by, period_with, rested, result, rings_of, served, total_of, whole, with_effects, with_total, worked, written_with}
pub use Rattle.task_run.specs.kept.Progress.{Beginning, Finishing, IsOfPipe, IsOfTimer, RunningIn, SendingTo, Told, with_due, worked_in}
pub use Rattle.task_run.specs.kept.Serving.{IsReady, Progress, Serving, told}
