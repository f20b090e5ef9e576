use Rattle.program_text.proofs.Common.{List, ℕ, ◌++◌, ◌<◌, length, sym, ap, ◌∙◌, append_assoc, rules, All-more, IsInstr, Done, each_below, line_text}
use Rattle.program_text.proofs.Printing.{each_below_more}
use Rattle.program_text.proofs.program.put_code.Goals as goal

pub loop-offset-preserved : goal.loop-offset-preserved
loop-offset-preserved c =
    let text : ℕ → List ℕ = line_text c.args.program.now c.args.task.now in
    let offset = c.loop-offset.offset in
    let lt : offset < length c.args.task.now.code = search rules in (
      c.in_ok-put_line.ensures.text ∙ ap (λ (so : List ℕ). so ++ text offset) c.loop-offset.invariant.0
          ∙ append_assoc c.args.out.now.items (each_below offset text) (text offset)
          ∙ ap (λ (so : List ℕ). c.args.out.now.items ++ so) (sym (each_below_more offset text)),
      All-more IsInstr c.args.task.now.code offset Done lt c.loop-offset.invariant.1 c.in_ok-put_line.ensures.fits,
    )
