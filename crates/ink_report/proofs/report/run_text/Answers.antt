use Rattle.ink_report.proofs.Common.{◌≡◌, [], ◌++◌, length, sym, ◌∙◌, subst, arith, Summary, summary_of, HasRoomFor}
use Rattle.ink_report.specs.Report.{head, entries_part}
use Rattle.ink_report.proofs.Counted.{summary_has_room}
use Rattle.ink_report.proofs.report.run_text.Goals as goal

pub count-requires : goal.count-requires
count-requires c =
    subst (λ (s : Summary). HasRoomFor (length c.args.entries.now) s) (sym c.in_ok-summary.ensures)
    (summary_has_room c.args.program.now c.args.model.now [] c.args.charges (length c.args.entries.now) (omega arith))

pub returns : goal.returns
returns c =
    let told : c.count.new.self ≡ summary_of c.args.program.now c.args.model.now c.args.entries.now c.args.charges =
    c.count.ensures c.args.program.now c.args.model.now [] c.args.charges c.in_ok-summary.ensures in
    let headed = c.in_ok-put_head.ensures ∙ (λ i. c.new-out.ensures.items i ++ head c.args.program.now (c.as_slice.ensures i) (told i) c.args.flags) in
    c.in_ok-put_entries_part.ensures ∙ (λ i. headed i ++ entries_part (c.program.ensures.same i) c.args.entries.now c.args.flags)
