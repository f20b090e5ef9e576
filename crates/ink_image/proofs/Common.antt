-- The names that several proofs of this crate cite, passed on from one place. Declares nothing.
pub use Rattle.std.proofs.Common.{Bool, Err, List, None, Ok, Option, Result, Some, Vec, [], add-one, ap, append-nil, append_assoc, arith, codes, cond, drop, eq-eqb, eqb, eqb-true, false, fold, get_or, inl, inr, length, length-append, length-drop, map, min, ne_eqb, not, refl, replicate, rules, subst, suc, sym, take, true, zero, ℕ, ◌%◌, ◌&&◌, ◌*◌, ◌++◌, ◌+◌, ◌-◌, ◌/◌, ◌<◌, ◌^◌, ◌∙◌, ◌∷◌, ◌≡◌, ◌≢◌, ◌≤◌}
pub use Rattle.std.proofs.Math.Nat.{pow-le-pow_right, pow-succ'}
pub use Rattle.std.proofs.lemmas.Grind.{common_steps}
pub use Rattle.std.proofs.lemmas.List.{nil_from_length}
pub use Rattle.std.specs.List.{AllByRecursion, flat_map, list_all}
pub use Rattle.ink_base.specs.Checks.{words_of}
pub use Rattle.ink_base.specs.Lines.{Line, Word, lines, lines_of, numbered}
pub use Rattle.ink_base.specs.TokenLines.{token_lines}
pub use Rattle.ink_text.specs.Section.{is_header}
pub use Rattle.ink_image.specs.Reading.{Reads, ReadsOn, Says, digit_value, is_digit, line_entries, onto, read, said, section_entries, section_lines, value, with_said}
pub use Rattle.ink_image.specs.Text.{digit_byte, image_text, line_text, next_text, rows, word_text}
pub use Rattle.ink_base.specs.Tokens.{Entry, entries}
pub use Rattle.task_isa.specs.declared.program.Program.{Program}
pub use Rattle.never_cut.specs.declared.source_model.SourceModel.{SourceModel}
pub use Rattle.job_parts.specs.declared.start.Start.{Start}
pub use Rattle.job_parts.specs.declared.charge.Charge.{Charge}
pub use Rattle.job_parts.specs.Job.{JobParts, IsJob, words_in}
pub use Rattle.ink_image.specs.Image.{IsReady}
pub use Rattle.ink_image.specs.Whole.{behind_settled, job_from, listed_of}
