-- The names that several proofs of this crate cite, passed on from one place. Declares nothing.
pub use Rattle.std.proofs.Common.{All, Bool, Err, Global, IfSome, List, None, Ok, Option, Some, [], ap, append-nil, append_assoc, arith, drop, drop-cons, false, filter, get_or, if◌then◌else◌, inl, inr, length, length-append, map, refl, string_bytes, subst, suc, sym, take, take-append-drop, true, zero, ℕ, ◌++◌, ◌+◌, ◌<◌, ◌^◌, ◌∙◌, ◌∷◌, ◌≡◌, ◌≤◌, ◌⊎◌}
pub use Rattle.std.proofs.lemmas.List.Folds.{length-flat_map-take}
pub use Rattle.std.specs.List.{cons_option, filter_map, flat_map}
pub use Rattle.ink_base.specs.Lines.{Word}
pub use Rattle.ink_base.specs.declared.entry.Entry.{Entry}
pub use Rattle.ink_report.specs.Conditions.{IsReportable, NamesPart, NamesThread}
pub use Rattle.ink_report.specs.Summary.{HasRoomFor, summary_of}
pub use Rattle.job_parts.specs.Job.{AreFirstWords, IsJob, JobParts, first_of}
pub use Rattle.kernel_core.proofs.JobMoves.{job_prefixes_stand, job_setup}
pub use Rattle.kernel_core.specs.Board.{Board, journal, moved_by}
pub use Rattle.kernel_core.specs.Core.{setup_of}
pub use Rattle.kernel_core.specs.declared.charge_record.ChargeRecord.{ChargeRecord}
pub use Rattle.kernel_core.specs.declared.run_record.RunRecord.{RunRecord}
pub use Rattle.never_cut.specs.Journal.{IsLegal, after}
pub use Rattle.never_cut.specs.Replaying.{model_of}
pub use Rattle.never_cut.specs.Within.{HasRoom}
pub use Rattle.never_cut.specs.declared.model.Model.{Model}
pub use Rattle.task_isa.specs.declared.program.Program.{Program}
pub use Rattle.ink_modes.specs.Run.{IsRunOf, board_run, entries_of, journal_in, state_in}
pub use Rattle.ink_modes.specs.Words.{IsCommand, is_bounds, is_image, is_journal, is_json, named_in, once, piece_said, pieces, seed_in}
pub use Rattle.ink_modes.specs.declared.command.Command.{Command}
pub use Rattle.ink_modes.specs.declared.words.Asked.{Asked}
pub use Rattle.ink_modes.specs.kept.Asked.{asked_from, nothing}
pub use Rattle.ink_modes.specs.modes.{form_of}
