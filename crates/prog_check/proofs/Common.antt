-- The names that several proofs of this crate cite, passed on from one place. Declares nothing.
pub use Rattle.std.proofs.Common.{Bool, List, None, Option, Some, [], add-one, ap, arith, eq-eqb, eqb, eqb-true, false, get_or, get_or-take, inl, inr, le-leb, leb-true, length, length-take, length-take-le, lt-ltb, ltb, ltb-true, ne_eqb, not, refl, suc, sum_by, sym, take, true, zero, ℕ, ◌&&◌, ◌+◌, ◌-◌, ◌<◌, ◌^◌, ◌||◌, ◌∙◌, ◌∷◌, ◌≡◌, ◌≢◌, ◌≤◌, ◌⊎◌}
pub use Rattle.std.proofs.lemmas.Bool.{and_from, and_parts, cases_Bool, cases_lt, false_from_ne_true, false≢true, not-true, or_parts}
pub use Rattle.std.proofs.lemmas.List.Folds.{list_any_at, list_any_none}
pub use Rattle.std.proofs.lemmas.Slice.Eq.{bytes_eq-Decides}
pub use Rattle.std.specs.List.{list_any, position_or_len}
pub use Rattle.std.specs.Option.{is_some}
pub use Rattle.std.specs.Str.{bytes_eq}
pub use Rattle.ink_base.specs.declared.fault.Cause.{Cause}
pub use Rattle.ink_base.specs.declared.fault.JobFault.{JobFault}
pub use Rattle.task_isa.specs.declared.instr.Instr.{Instr}
pub use Rattle.task_isa.specs.declared.instr.Instr.TheVariants.{Arm, Jmp, Jnz, Jz, Next, Send, Stop}
pub use Rattle.task_isa.specs.declared.lines.Lines.{Lines}
pub use Rattle.task_isa.specs.declared.program.PipeDef.{PipeDef}
pub use Rattle.task_isa.specs.declared.program.Program.{Program}
pub use Rattle.task_isa.specs.declared.program.Task.{Task}
pub use Rattle.task_isa.specs.declared.program.ThreadDef.{ThreadDef}
pub use Rattle.task_isa.specs.declared.program.TimerDef.{TimerDef}
pub use Rattle.prog_check.specs.Accepted.{AreDistinct, HasCounts, HasDistinct, HasFittingCode, IsAccepted, IsRightInstr, IsRightPipe, IsRightTask, IsRightThread, IsRightTimer, ends_code}
pub use Rattle.prog_check.specs.Faults.{code_fault, first_below, has_end, has_task, has_thread, instr_fault, is_aimed, is_between, is_owned, is_pipe_owned, is_pipe_taken, is_task_taken, is_thread_taken, is_thread_within, is_time, is_timer_taken, is_timer_within, pipe_fault, served_fault, source_fault, stays, target_fault, task_fault, thread_fault, timer_fault, unless, ◌or_else◌}
pub use Rattle.prog_check.specs.Lookup.{first_task, instr_at, no_pipe_def, no_task_def, no_thread_def, no_timer_def, pipe_def, source_thread, task_def, thread_def, timer_def}
