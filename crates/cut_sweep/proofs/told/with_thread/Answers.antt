use Rattle.std.proofs.Common.{◌≡◌, ◌+◌, max, sym, ap, ◌∙◌, arith}
use Rattle.fram_words.specs.Places.{Memory}
use Rattle.fram_words.specs.Shape.{memory_of}
use Rattle.ink_layout.specs.Shape.{shape_of}
use Rattle.ink_report.specs.declared.sweep.SweepRow.{SweepRow}
use Rattle.cut_sweep.specs.kept.Told.{sum_to, max_to, outputs_told, stamp_told, full_slots}
use Rattle.cut_sweep.proofs.Sums.{sum_more, max_more}
use Rattle.cut_sweep.proofs.Counts.{outputs_few, held_few}
use Rattle.cut_sweep.proofs.told.with_thread.Goals as goal

pub overflow_add-result : goal.overflow_add-result
overflow_add-result c =
    let words : Memory = memory_of (shape_of c.args.plan.now.accepted) c.args.words.now in
    let before : c.args.row.outputs ≡ sum_to (outputs_told words) c.args.thread.0 = ap (λ (r : SweepRow). r.outputs) c.requires.before in
    let here : c.header_word-outputs.result ≡ outputs_told words c.args.thread.0 = c.header_word-outputs.ensures in
    let more = sum_more (outputs_told words) c.args.thread.0 in
    let few = outputs_few c.args.plan.now.accepted words c.program-program.ensures.accepted c.args.thread.0 c.requires.known c.requires.told in
    omega (arith, before, here, more, few)

pub overflow_add-result-2 : goal.overflow_add-result-2
overflow_add-result-2 c =
    let words : Memory = memory_of (shape_of c.args.plan.now.accepted) c.args.words.now in
    let before : c.args.row.held ≡ sum_to (full_slots c.args.plan.now.accepted words) c.args.thread.0 = ap (λ (r : SweepRow). r.held) c.requires.before in
    let here : c.full_slots.result ≡ full_slots c.args.plan.now.accepted words c.args.thread.0 = c.full_slots.ensures in
    let more = sum_more (full_slots c.args.plan.now.accepted words) c.args.thread.0 in
    let few = held_few c.args.plan.now.accepted words c.program-program.ensures.accepted c.args.thread.0 c.requires.known in
    omega (arith, before, here, more, few)

pub returns : goal.returns
returns c =
    let words : Memory = memory_of (shape_of c.args.plan.now.accepted) c.args.words.now in
    let outputs : c.args.row.outputs + c.header_word-outputs.result ≡ sum_to (outputs_told words) (c.args.thread.0 + 1) =
    (λ i. (c.requires.before i).outputs + c.header_word-outputs.ensures i) ∙ sym (sum_more (outputs_told words) c.args.thread.0) in
    let commits : c.max.result ≡ max_to (stamp_told words) (c.args.thread.0 + 1) =
    c.max.ensures ∙ ((λ i. max (c.requires.before i).commits (c.header_word-stamp.ensures i)) ∙ sym (max_more (stamp_told words) c.args.thread.0)) in
    let held : c.args.row.held + c.full_slots.result ≡ sum_to (full_slots c.args.plan.now.accepted words) (c.args.thread.0 + 1) =
    (λ i. (c.requires.before i).held + c.full_slots.ensures i) ∙ sym (sum_more (full_slots c.args.plan.now.accepted words) c.args.thread.0) in
    λ i. record { cut = c.args.row.cut; outputs = outputs i; commits = commits i; held = held i }
