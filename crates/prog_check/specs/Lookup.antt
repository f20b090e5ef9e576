-- The parts of a program by their numbers.
pub use Rattle.task_isa.specs.Lookup.{no_thread, no_thread_def, no_pipe_def, no_timer_def, no_task_def, thread_def, source_thread, pipe_def, timer_def, task_def, instr_at, first_task, code_len}
