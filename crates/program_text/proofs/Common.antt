-- The names that several proofs of this crate cite, passed on from one place. Declares nothing.
pub use Rattle.std.proofs.Common.{Bool, Err, IsTrue, List, None, Ok, Option, Result, Some, [], add-zero, ap, append-nil, append_assoc, arith, codes, cond, decimal, drop, eq-eqb, eqb, eqb-true, false, fold, get_or, get_or-set_other, get_or-set_same, get_or-take, inl, inr, le-leb, leb, leb-true, length, length-append, length-set, length-take-le, lt-ltb, map, ne_eqb, not, refl, rules, subst, suc, sym, take, take_all, take_at, true, zero, ℕ, ◌%◌, ◌&&◌, ◌*◌, ◌++◌, ◌+◌, ◌-◌, ◌/◌, ◌<◌, ◌^◌, ◌||◌, ◌∙◌, ◌∷◌, ◌≡◌, ◌≤◌}
pub use Rattle.std.proofs.Math.ListN.{replicate, set}
pub use Rattle.std.proofs.Math.Numerals.{add-one}
pub use Rattle.std.proofs.lemmas.Bool.{and_from, and_parts, cases_Bool, cases_eq, cases_lt, eqb-false, false_from_ne_true, not-true, or_cases, or_parts}
pub use Rattle.std.proofs.lemmas.Fmt.{decimal_digit, decimal_injective, decimal_nonempty, decimal_step, digits_decimal, digits_value-decimal, length-decimal-le}
pub use Rattle.std.proofs.lemmas.List.{flat_map_more, get_or-replicate, get_or_default, get_or_push, get_or_read, length-map, length-replicate, length_push, take_more}
pub use Rattle.std.proofs.lemmas.List.Elements.{All-from_get_or, All-more, recursion_from_All}
pub use Rattle.std.proofs.lemmas.List.Folds.{list_all-append, list_any-append, list_any_at, list_any_none}
pub use Rattle.std.proofs.lemmas.Slice.Eq.{bytes_eq-Decides}
pub use Rattle.std.specs.List.{All, AllByRecursion, flat_map, list_all, list_any, position_or_len, prefix_len, sum_by}
pub use Rattle.std.specs.Option.{ForNone, ForSome}
pub use Rattle.std.specs.Str.{bytes_eq}
pub use Rattle.ink_base.specs.Gives.{at_line, ◌>>=◌, ◌>>◌}
pub use Rattle.ink_base.specs.Lines.{Line, Word, before_comment, lines, lines_of, numbered, onto_first, words}
pub use Rattle.ink_base.specs.TokenLines.{with_words}
pub use Rattle.ink_base.specs.declared.fault.JobFault.{JobFault}
pub use Rattle.ink_base.specs.declared.ids.ThreadId.{ThreadId}
pub use Rattle.ink_text.proofs.Lines.{at_header, at_other}
pub use Rattle.ink_text.specs.Section.{is_header, lines_in}
pub use Rattle.prog_check.proofs.Apart.{differ, fresh_before, none_before}
pub use Rattle.prog_check.specs.Accepted.{AreDistinct, HasDistinct, IsAccepted, IsRightInstr, IsRightPipe, IsRightThread, IsRightTimer}
pub use Rattle.task_asm.specs.Section.{code_lines, empty_draft, lines_of_draft, program_in}
pub use Rattle.task_asm.specs.Targets.{aimed, code_of, instr_of, program_of, unless_lost}
pub use Rattle.task_isa.specs.Code.{FitsWord, IsInstr}
pub use Rattle.task_isa.specs.Lookup.{instr_at, no_pipe_def, no_task_def, no_thread, no_thread_def, no_timer_def, pipe_def, task_def, thread_def, timer_def}
pub use Rattle.task_isa.specs.Names.{goes_on_name, is_letter, is_name}
pub use Rattle.task_isa.specs.declared.instr.Instr.{Instr}
pub use Rattle.task_isa.specs.declared.instr.Instr.TheVariants.{Add, And, Arm, Divu, Done, Eq, Ev, Jmp, Jnz, Jz, Kind, Ld, Li, Ltu, Mov, Mul, Next, Now, Num, Or, Out, Remu, Send, Shl, Shr, St, Stop, Sub, Xor}
pub use Rattle.task_isa.specs.declared.program.PipeDef.{PipeDef}
pub use Rattle.task_isa.specs.declared.program.Program.{Program}
pub use Rattle.task_isa.specs.declared.program.Task.{Task}
pub use Rattle.task_isa.specs.declared.program.ThreadDef.{ThreadDef}
pub use Rattle.task_isa.specs.declared.program.TimerDef.{TimerDef}
pub use Rattle.task_lines.specs.Devices.{pipe_name, timer_name}
pub use Rattle.task_lines.specs.Forms.{has_priority, thread_name}
pub use Rattle.task_lines.specs.Labels.{offset_of, with_label}
pub use Rattle.task_lines.specs.Named.{is_taken, place_of}
pub use Rattle.task_lines.specs.Outside.{task_name}
pub use Rattle.task_lines.specs.Task.{label_of, line_in}
pub use Rattle.task_lines.specs.declared.draft.Draft.{Draft}
pub use Rattle.task_lines.specs.declared.draft.DraftLine.{DraftLine}
pub use Rattle.task_lines.specs.declared.draft.DraftTask.{DraftTask}
pub use Rattle.program_text.specs.Marks.{AreMarks, with_mark}
pub use Rattle.program_text.specs.Print.{each_below, ends_text, expires_text, is_target, jump_text, jumps_to, label_text, line_text, one_text, pipe_text, print_of, register_text, sizes_text, source_text, start_text, task_line, task_text, thread_text, three_text, timer_text, two_text}
pub use Rattle.program_text.specs.Reread.{HasLines, ReadsBack}
pub use Rattle.program_text.specs.Typed.{IsNamed, IsTyped, IsTypedTask}
