-- A fault of the section is a matter of its line and of those before it, but for a target that isn't there.
use Rattle.std.specs.Prelude.{◌≡◌, ◌≢◌, ℕ, List, Err, take}
use Rattle.ink_base.specs.Lines.{lines}
use Rattle.ink_base.specs.declared.fault.Cause.TheVariants.{BadTarget}
use Rattle.ink_base.specs.declared.fault.JobFault.{JobFault}
use Rattle.task_asm.specs.Section.{program_at}

-- the same lines, up to and with the one of this number
abbrev pub AgreeUpTo : ℕ → List ℕ → List ℕ → Type 0
AgreeUpTo n text other = take n (lines text) ≡ take n (lines other)

-- a text with the same lines up to and with the fault's has the same fault, whatever follows there
abbrev pub FaultsStay : Type 0
FaultsStay = (text other : List ℕ) (fault : JobFault) → fault.cause ≢ BadTarget → AgreeUpTo fault.line text other → program_at text ≡ Err fault → program_at other ≡ Err fault
