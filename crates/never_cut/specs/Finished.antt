-- How many threads have a finished event that isn't released.
use Rattle.std.specs.Prelude.{◌≡◌, ℕ, ◌<◌, true, length}
use Rattle.task_isa.specs.declared.program.Program.{Program}
use Rattle.never_cut.specs.declared.model.Model.{Model}
use Rattle.never_cut.specs.State.{thread_of}

-- at most one thread has a finished event
abbrev pub AtMostOneFinished : Program → Model → Type 0
AtMostOneFinished program m =
    (t u : ℕ) → t < length program.threads → u < length program.threads → (thread_of m t).finished ≡ true → (thread_of m u).finished ≡ true → t ≡ u
