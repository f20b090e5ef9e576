-- The names that several proofs of this crate cite, passed on from one place. Declares nothing.
pub use Rattle.std.proofs.Common.{List, [], ap, append_assoc, arith, cond, false, get_or, inl, inr, length, length-append, length-set, lt-ltb, map, nat_le, nat_lt, refl, replicate, subst, suc, sum_by, sym, take, true, zero, ℕ, ◌%◌, ◌&&◌, ◌*◌, ◌++◌, ◌+◌, ◌-◌, ◌/◌, ◌<◌, ◌==◌, ◌^◌, ◌∙◌, ◌∷◌, ◌≡◌, ◌≤◌}
pub use Rattle.std.proofs.lemmas.Bool.{and_from, cases_eq, cases_lt}
pub use Rattle.std.proofs.lemmas.Bool.Decides.{nat_tests}
pub use Rattle.std.proofs.lemmas.List.{get_or-replicate, get_or_append_left, get_or_default, get_or_past, length-map, length-replicate}
pub use Rattle.fram_words.proofs.Addresses.{before_further, before_next, same_address, store_word}
pub use Rattle.fram_words.specs.Held.{due_word}
pub use Rattle.fram_words.specs.Places.{Ack, Clock, Code, Commit, Log, Page, Place, Ring, Slot, Src, Tail, store}
pub use Rattle.fram_words.specs.Shape.{ThreadShape, address, has_indices, is_valid, memory_of, offset, queue_regions, region, regions, thread_regions, words_before}
pub use Rattle.fram_words.specs.Words.{performed, zeros}
pub use Rattle.fram_words.specs.declared.layout.Layout.{Layout}
pub use Rattle.prog_check.specs.Accepted.{IsAccepted, IsRightPipe, IsRightThread}
pub use Rattle.prog_check.specs.Lookup.{instr_at, no_pipe_def, no_task_def, no_thread_def, no_timer_def, task_def, thread_def, timer_def}
pub use Rattle.task_isa.specs.Code.{word_of_instr}
pub use Rattle.task_isa.specs.declared.instr.Instr.{Instr}
pub use Rattle.task_isa.specs.declared.program.Program.{Program}
pub use Rattle.task_isa.specs.declared.program.ThreadDef.{ThreadDef}
pub use Rattle.ink_layout.specs.Addresses.{layout_address}
pub use Rattle.ink_layout.specs.Image.{Holds, IsFirstImage, first_memory, timed_word}
pub use Rattle.ink_layout.specs.Layouts.{AreQueuePlaces, AreStarts, AreThreadPlaces, IsLayout, IsMadeOf, queues_from, sources_from}
pub use Rattle.ink_layout.specs.Shape.{IsOnBoard, pages_of, pipe_words, queue_words, shape_of, task_words, thread_shape, words_of}
pub use Rattle.ink_layout.specs.Stages.{code_until, comes_before, put_word, slots_until, with_blocks}
