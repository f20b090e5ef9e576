-- The texts of runs, of which some may be missing.
use Rattle.std.specs.Prelude.{◌≡◌, ℕ, ◌<◌, List, length, slice_index_or, Result, Vec, IfOk}
use Rattle.std.specs.declared.alloc.Global.{Global}
use Rattle.ink_base.specs.declared.memory.NoMemory.{NoMemory}
use Rattle.kernel_core.specs.declared.run_record.RunRecord.{RunRecord}
use Rattle.ink_report.specs.declared.flags.Flags.{Flags}
use Rattle.ink_modes.specs.Run.{run_text_of}

-- each text that is there is that of its run
abbrev pub AreTold : Flags → List RunRecord → List (Result (Vec ℕ Global) NoMemory) → Type 0
AreTold flags records told =
    (n : ℕ) (r : RunRecord) (d : Result (Vec ℕ Global) NoMemory) → n < length records → IfOk (slice_index_or told n d) (λ text. text.items ≡ run_text_of (slice_index_or records n r) flags)
