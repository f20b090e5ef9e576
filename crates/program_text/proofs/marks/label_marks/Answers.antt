use Rattle.program_text.proofs.Common.{◌≡◌, false, length, replicate, take_more}
use Rattle.program_text.proofs.LabelMarks.{AreMarks-none, AreMarks-more}
use Rattle.program_text.proofs.marks.label_marks.Goals as goal

pub loop-instr-init : goal.loop-instr-init
loop-instr-init c =
    let unset : c.in_ok-marks.marks.items ≡ replicate (length c.args.code.now) false = c.in_ok-marks.ensures.items_if_clones_equal (λ y same. same) in
    rw unset (AreMarks-none (length c.args.code.now))

pub loop-instr-preserved : goal.loop-instr-preserved
loop-instr-preserved c =
    let more = AreMarks-more c.loop-instr.marks.items (length c.args.code.now) _ c.instr-item.result c.loop-instr.invariant in
    rw (c.mark.ensures, take_more c.args.code.now c.loop-instr.instr-index c.instr-item.result c.loop-instr-test.true, ← c.instr-item.is) more
