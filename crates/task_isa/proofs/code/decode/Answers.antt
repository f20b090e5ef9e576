-- What is decoded has the word, and where nothing is, no instruction has it.
use Rattle.task_isa.proofs.Common.{subst, sym, ◌≡◌, ◌≢◌, Option, IfSome, IfNone, Instr, word_of_instr, IsInstr}
use Rattle.task_isa.proofs.Codes.{decoded-some, decoded-none}
use Rattle.task_isa.proofs.code.decode.Goals as goal

pub returns-clause-some : goal.returns-clause-some
returns-clause-some c =
    subst (λ (o : Option Instr). IfSome o (λ instr. word_of_instr instr ≡ c.args.word)) (sym c.read_word.ensures) (decoded-some c.args.word)

pub returns-clause-none : goal.returns-clause-none
returns-clause-none c =
    subst (λ (o : Option Instr). IfNone o ((instr : Instr) → IsInstr instr → word_of_instr instr ≢ c.args.word)) (sym c.read_word.ensures) (decoded-none c.args.word)
