-- The state at the start is within every bound.
use Rattle.never_cut.proofs.Common.{◌≤◌, sym, subst, arith, length-map, Program, ThreadDef, no_thread_def, no_pipe_def, thread_def, PipeModel, open_model, open_thread, open_pipe, open_timer, open_source, IsWithin, IsWithinSource, IsWithinThread}
use Rattle.prog_check.specs.Lookup.{no_thread}
use Rattle.std.proofs.Math.ListN.{get_or-map}

open_thread_within : (program : Program) (d : ThreadDef) → IsWithinThread program 0 (open_thread d)
open_thread_within program d =
    record {
      released = omega arith;
      served = omega arith;
      trapped = omega arith;
      expired = omega arith;
      held = λ k e inside. absurd (omega arith);
      running = λ task is. absurd (cc);
    }

pub opens_within : (program : Program) → IsWithin program 0 (open_model program)
opens_within program =
    record {
      parts =
          record {
            threads = length-map program.threads open_thread;
            pipes = length-map program.pipes open_pipe;
            timers = length-map program.timers open_timer;
            sources = length-map program.sources open_source;
          };
      clock = omega arith;
      scan = λ scan is. absurd (cc);
      commits = omega arith;
      threads = λ t. subst (IsWithinThread program 0) (sym (get_or-map open_thread program.threads t no_thread_def)) (open_thread_within program (thread_def program t));
      pipes = λ q. subst (λ (p : PipeModel). p.taken ≤ 0) (sym (get_or-map open_pipe program.pipes q no_pipe_def)) (omega arith);
      sources = λ i. subst (IsWithinSource 0) (sym (get_or-map open_source program.sources i no_thread)) (record { next = omega arith; accepted = omega arith });
    }
