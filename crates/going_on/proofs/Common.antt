-- The names that several proofs of this crate cite, passed on from one place. Declares nothing.
pub use Rattle.std.proofs.Common.{All, Bool, eq-eqb, eqb-true, filter, List, None, Option, Some, [], ap, append-nil, append_assoc, arith, cond, drop, false, get_or, get_or-append-add, get_or-drop, get_or-set_other, get_or-set_same, if◌then◌else◌, inl, inr, length, length-append, length-drop, length-set, map, refl, replicate, set, slice_index, slice_index_or, subst, suc, sum_by, sym, take, take_all, take_at, true, zero, ℕ, ◌%◌, ◌++◌, ◌+◌, ◌-◌, ◌<◌, ◌==◌, ◌^◌, ◌∙◌, ◌∷◌, ◌≡◌, ◌≢◌, ◌≤◌, ◌⊎◌}
pub use Rattle.std.proofs.lemmas.Bool.{cases_eq, cases_lt}
pub use Rattle.std.proofs.lemmas.List.{ext_get_or, get_or-append_right, get_or-map, get_or-replicate, get_or_append_left, get_or_past, length-map, length-replicate, map-set, replicate-append-replicate, set-append_left, set-append_right}
pub use Rattle.std.proofs.lemmas.List.Elements.{All-append, All-drop, All-get_or, All-head, All-tail, All-take}
pub use Rattle.std.proofs.lemmas.List.Sums.{sum_by-append}
pub use Rattle.std.specs.List.{flat_map}
pub use Rattle.ink_base.specs.declared.actor.Actor.{Actor}
pub use Rattle.ink_base.specs.declared.entry.Entry.{Entry}
pub use Rattle.fram_words.specs.declared.access.Access.{Access}
pub use Rattle.fram_words.specs.Words.{performed}
pub use Rattle.task_isa.specs.declared.program.Program.{Program}
pub use Rattle.push_core.specs.Table.{access_at, access_of, first_row, is_left, point_of, publication, take_of}
pub use Rattle.push_core.specs.declared.port.Port.{Port}
pub use Rattle.push_core.specs.declared.row.Row.{Row}
pub use Rattle.push_core.specs.declared.stage.Stage.{Stage}
pub use Rattle.push_core.specs.declared.stage.Stage.TheVariants.{HelpTail, LoadAck, LoadSlot, LoadSlots, LoadSrc, LoadTail, MoveTail, Publish, StoreAccepted, StoreSkip}
pub use Rattle.source_laws.specs.Rows.{port_of}
pub use Rattle.source_laws.specs.Stands.{near}
pub use Rattle.source_laws.specs.kept.Kept.{Kept, SourceKept}
pub use Rattle.source_laws.specs.kept.Knows.{IsReady, KnowsAt}
pub use Rattle.never_cut.specs.Entries.{Legal, Readings, effect, readings_of}
pub use Rattle.never_cut.specs.Journal.{IsLegal, after, noted}
pub use Rattle.never_cut.specs.Sound.{IsSound}
pub use Rattle.never_cut.specs.State.{no_source, source_of, thread_of}
pub use Rattle.never_cut.specs.declared.model.Model.{Model}
pub use Rattle.never_cut.specs.declared.source_model.SourceModel.{SourceModel}
pub use Rattle.job_parts.specs.Job.{AreCharges, AreFirstWords, AreReadings, IsJob, IsRightCharge, JobParts, charge_turns, first_of, item_turns}
pub use Rattle.job_parts.specs.declared.charge.Charge.{Charge}
pub use Rattle.job_parts.specs.declared.item.Item.{Item}
pub use Rattle.job_parts.specs.declared.start.Start.{Start}
pub use Rattle.kernel_core.specs.Board.{Board, Cut, Move, Setup, Turn, charged, clock_access, clock_turn, cut, entry_of_source, finds, first_board, journal, kernel_access, kernel_turn, move, moved_by, row_of, shape, sides, source_access, source_made, source_turn, turn}
pub use Rattle.kernel_core.specs.Core.{setup_of}
pub use Rattle.kernel_core.specs.First.{IsSetup, StandsFirst}
pub use Rattle.kernel_core.specs.Kernel.{first_kernel, point_found, takes}
pub use Rattle.kernel_core.specs.Listed.{moves, moves_of, run, run_first}
pub use Rattle.kernel_core.specs.Made.{made_by}
pub use Rattle.kernel_core.specs.Moves.{AreMoves, IsActor, IsInRange, ticks, turns}
pub use Rattle.kernel_core.specs.declared.charge_record.ChargeRecord.{ChargeRecord}
pub use Rattle.kernel_core.specs.Record.{begun, charge_of, journal_of, not_begun, with_kernel, with_source, with_tick}
pub use Rattle.kernel_core.specs.Stands.{BoardStands, memory, state}
pub use Rattle.kernel_core.specs.kept.Holds.{HasSize, Holds}
pub use Rattle.going_on.specs.Divided.{Division, IsDivided, IsSplit, all_behind, behind_settled, divided, first_part, first_run, second_after, second_part, second_run, state_left, whole_after, whole_run}
pub use Rattle.going_on.specs.GoesOn.{AreJobs, ContinuesWhole, EndsAsWhole, EveryJobDivides, FollowsFirst, GoesAsWhole, IsAsWhole, IsWhole, StandsAsWhole, StartsFromWhole}
pub use Rattle.going_on.specs.Lost.{unmarked, without_scan}
