-- The names that several proofs of this crate cite, passed on from one place. Declares nothing.
pub use Rattle.std.proofs.Common.{Bool, IfNone, IfSome, List, None, Option, Some, [], ap, arith, cond, eq-eqb, eqb-true, false, get_or-set_other, if◌then◌else◌, inl, inr, length, lt-ltb, nat_lt, refl, slice_index, slice_set, subst, suc, sym, true, zero, ℕ, ◌%◌, ◌++◌, ◌+◌, ◌-◌, ◌/◌, ◌<◌, ◌==◌, ◌^◌, ◌∙◌, ◌∷◌, ◌≡◌, ◌≢◌, ◌≤◌}
pub use Rattle.std.proofs.lemmas.Bool.{cases_Bool, cases_eq, cases_lt}
pub use Rattle.std.proofs.lemmas.List.{get_or_past}
pub use Rattle.task_isa.specs.Acts.{Cpu, Given, act_of, bit_of, divided, reg}
pub use Rattle.task_isa.specs.Code.{FitsWord, IsInstr, decoded, form_in, forms, with_word, word_of_instr, word_with}
pub use Rattle.task_isa.specs.Meaning.{Config, Effects, Ended, GoesOn, HasTrapped, IsOver, Room, RunEnd, Stepped, Trapped, execute, first_config, given_of, has_room, instr_at, room_of, run, sent_to, task_end, task_of}
pub use Rattle.task_isa.specs.Runs.{KeepsRoom, Makes, config_of}
pub use Rattle.task_isa.specs.declared.act.Act.TheVariants.{Continues, Loads, Puts, Saves, Sends, Sets, Traps}
pub use Rattle.task_isa.specs.declared.instr.Instr.{Instr}
pub use Rattle.task_isa.specs.declared.instr.Instr.TheVariants.{Add, And, Arm, Divu, Done, Eq, Ev, Jmp, Jnz, Jz, Kind, Ld, Li, Ltu, Mov, Mul, Next, Now, Num, Or, Out, Remu, Send, Shl, Shr, St, Stop, Sub, Xor}
pub use Rattle.task_isa.specs.declared.outcome.Outcome.{Outcome}
pub use Rattle.task_isa.specs.declared.outcome.TrapCode.TheVariants.{Divisor, Index, Limit, LogFull}
pub use Rattle.task_isa.specs.declared.run.Run.{Run}
pub use Rattle.task_isa.specs.declared.task_start.TaskStart.{TaskStart}
