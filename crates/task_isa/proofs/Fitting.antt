-- An instruction whose id fits does what names a fitting id.
use Rattle.task_isa.proofs.Common.{ℕ, ◌/◌, ◌%◌, true, false, ◌==◌, if◌then◌else◌, Sets, Traps, Divisor, Instr, Divu, Remu, Send, Arm, Stop, Next, Given, Cpu, divided, reg}
use Rattle.task_isa.specs.Acts.{act_of}
use Rattle.task_isa.specs.Runnable.{HasFittingId, NamesFittingId}

divided_fits : (divisor register value : ℕ) → NamesFittingId (divided divisor (Sets register value))
divided_fits divisor register value =
    elim (divisor == 0) as (λ b. NamesFittingId (if b then Traps Divisor else Sets register value)) [ true ↦ tt | false ↦ tt ]

pub act_of_fits : (instr : Instr) (given : Given) (cpu : Cpu) → HasFittingId instr → NamesFittingId (act_of instr given cpu)
unfolding act_of
act_of_fits (Send i a b) given cpu fits = fits
act_of_fits (Arm i a b) given cpu fits = fits
act_of_fits (Stop i) given cpu fits = fits
act_of_fits (Next i) given cpu fits = fits
act_of_fits (Divu a b c) given cpu fits = divided_fits (reg cpu c) a (reg cpu b / reg cpu c)
act_of_fits (Remu a b c) given cpu fits = divided_fits (reg cpu c) a (reg cpu b % reg cpu c)
act_of_fits _ given cpu fits = tt
