use Rattle.ink_report.proofs.Common.{ℕ, ◌+◌, ◌-◌, ◌<◌, ◌++◌, List, length, take, ap, ◌∙◌, arith, take_all, take_more, Entry, summary_of}
use Rattle.ink_report.proofs.Counted.{counts_more}
use Rattle.ink_report.proofs.summary.Summary.count.Goals as goal

pub loop-entry-preserved : goal.loop-entry-preserved
loop-entry-preserved c =
    let entries : List Entry = c.args.entries.now in
    let n : ℕ = c.loop-entry.entry-index in
    let here : n < length entries = c.loop-entry-test.true in
    counts_more c.args.self.now c.loop-entry.self c.note.new.self (take n entries) (take (n + 1) entries) _ (length entries - n) (length entries - (n + 1)) (omega arith)
    (take_more entries n _ here) c.note.ensures c.loop-entry.invariant

pub returns : goal.returns
returns c = λ program m journal charges is.
    c.loop-entry.invariant.told program m journal charges is
    ∙ ap (λ (l : List Entry). summary_of program m (journal ++ l) charges) (take_all c.loop-entry.entry-index c.args.entries.now c.loop-entry-test.false)
