use Rattle.std.proofs.Common.{◌≡◌, ℕ, ◌<◌, List, length, get_or, ap, sym, subst, ◌∙◌, below_more, arith}
use Rattle.std.proofs.lemmas.List.{get_or_default}
use Rattle.task_isa.specs.Code.{word_of_instr}
use Rattle.task_isa.specs.declared.instr.Instr.{Instr}
use Rattle.task_isa.specs.declared.instr.Instr.TheVariants.{Done}
use Rattle.prog_check.specs.Lookup.{task_def}
use Rattle.image_checks.proofs.code.failing_offset.Goals as goal

-- the instruction that is encoded is that of the program
same_instr : (code : List Instr) (n : ℕ) (i : Instr) → n < length code → i ≡ get_or code n i → i ≡ get_or code n Done
same_instr code n i lt is = is ∙ get_or_default code n i Done lt

pub loop-n-preserved : goal.loop-n-preserved
loop-n-preserved c =
    let code : List Instr = (task_def c.args.plan.now.accepted c.args.task.0).code in
    let few : length c.code_of-code.result.now ≡ length code = ap (λ (is : List Instr). length is) c.code_of-code.ensures.code in
    let here = subst (λ (is : List Instr). c.index-code-n.result ≡ get_or is c.loop-n.n c.index-code-n.result) c.code_of-code.ensures.code c.index-code-n.is in
    let is = same_instr code c.loop-n.n c.index-code-n.result (omega arith) here in
    below_more _ _ c.loop-n.invariant (sym c.word_at.ensures ∙ (c.if-word_at-encode.false ∙ (c.encode.ensures.word ∙ ap word_of_instr is)))
