-- Decoding finds the instruction again.
use Rattle.task_isa.proofs.Common.{subst, sym, ◌≡◌, ℕ, Some, decoded}
use Rattle.task_isa.proofs.Codes.{decoded-word}
use Rattle.task_isa.proofs.code.encode.Goals as goal

pub returns-clause-back : goal.returns-clause-back
returns-clause-back c =
    subst (λ (w : ℕ). decoded w ≡ Some c.args.instr) (sym c.word_of.ensures.word) (decoded-word c.args.instr c.word_of.ensures.fits)
