-- The code word holds the instruction's word once that is stored.
use Rattle.ink_layout.proofs.Common.{◌≡◌, ℕ, ◌+◌, ◌<◌, List, length, get_or, ap, subst, ◌∙◌, get_or_default, Instr, word_of_instr, task_def, Code, code_until}
use Rattle.task_isa.specs.declared.instr.Instr.TheVariants.{Done}
use Rattle.ink_layout.proofs.Images.{holds_put}
use Rattle.ink_layout.proofs.Stages.{code_next}
use Rattle.ink_layout.proofs.image.store_instr.Goals as goal

-- the instruction that is encoded is that of the program
same_instr : (code : List Instr) (n : ℕ) (i : Instr) → n < length code → i ≡ get_or code n i → i ≡ get_or code n Done
same_instr code n i lt is = is ∙ get_or_default code n i Done lt

pub returns : goal.returns
returns c =
    let here = subst (λ (code : List Instr). c.index-code_of-n.result ≡ get_or code c.args.n c.index-code_of-n.result) c.code_of.ensures c.index-code_of-n.is in
    let is = same_instr (task_def c.args.program.now c.args.x).code c.args.n c.index-code_of-n.result c.requires.on_board.1 here in
    holds_put c.args.program.now c.put.new.fram (code_until c.args.program.now c.args.x c.args.n) (code_until c.args.program.now c.args.x (c.args.n + 1))
    (Code c.args.x c.args.n) c.encode-word.result _ (c.put.ensures.stored _ c.requires.before) (c.encode-word.ensures.word ∙ ap word_of_instr is)
    (λ q on. code_next c.args.program.now c.args.x c.args.n q)
