-- The names that several proofs of this crate cite, passed on from one place. Declares nothing.
pub use Rattle.std.proofs.Common.{All, Bool, Err, IsAscii, IsOk, IsTrue, IsUtf8, List, MatchResult, None, Ok, Option, Result, Some, [], ap, append_assoc, arith, codes, count_by, false, get_or, get_or-set_other, if◌then◌else◌, inl, inr, length, length-set, map, nat_le, refl, rules, set, slice_index_or, string_bytes, subst, suc, sym, take, take_all, true, zero, ℕ, ◌&&◌, ◌++◌, ◌+◌, ◌-◌, ◌<◌, ◌==◌, ◌^◌, ◌∙◌, ◌∷◌, ◌≡◌, ◌≢◌, ◌≤◌}
pub use Rattle.std.proofs.lemmas.Bool.{and_parts, cases_eq, cases_lt}
pub use Rattle.std.proofs.lemmas.Bool.Decides.{nat_tests}
pub use Rattle.std.proofs.lemmas.List.{length-map, set_past, take_more}
pub use Rattle.std.proofs.lemmas.List.Elements.{All-append, All-nil, All-set}
pub use Rattle.std.proofs.lemmas.List.FromFn.{fill_by_all, get_or-map-range_with_len, length-map-range_with_len, map-range_with_len_more}
pub use Rattle.std.specs.List.{flat_map, list_all, range_with_len}
pub use Rattle.ink_base.specs.declared.entry.Entry.{Entry}
pub use Rattle.ink_base.specs.declared.entry.Entry.TheVariants.{Commit, Look, Push, Refuse, Release, Scan, Skip, Tick}
pub use Rattle.never_cut.specs.State.{is_running, open_model, open_source, open_thread, source_of, thread_of}
pub use Rattle.never_cut.specs.declared.model.Model.{Model}
pub use Rattle.serde_json.specs.Data.{Data}
pub use Rattle.serde_json.specs.View.{items_of, view}
pub use Rattle.serde_json.specs.Written.{compact_text, has_float, items_have_float}
pub use Rattle.task_isa.specs.declared.program.Program.{Program}
pub use Rattle.ink_report.specs.Json.{source_data, summary_data, thread_data}
pub use Rattle.ink_report.specs.Lines.{output_lines, source_line, thread_line}
pub use Rattle.ink_report.specs.Summary.{HasRoom, HasRoomFor, is_push, is_refusal, source_summary, summary_of, thread_summary}
pub use Rattle.ink_report.specs.declared.summary.Summary.{Summary}
