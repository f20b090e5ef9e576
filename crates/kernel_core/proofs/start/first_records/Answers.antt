use Rattle.kernel_core.proofs.Common.{◌≡◌, ◌+◌, sym, ap, subst, arith, length, List, Recorded, AreFirstRecords}
use Rattle.kernel_core.proofs.Starts.{no_records, one_record_more}
use Rattle.kernel_core.proofs.start.first_records.Goals as goal

pub loop-k-init : goal.loop-k-init
loop-k-init c = subst (λ (l : List Recorded). AreFirstRecords c.args.job.now 0 l) (sym c.new-records.ensures.items) (no_records c.args.job.now)

pub loop-k-preserved : goal.loop-k-preserved
loop-k-preserved c = subst (λ (l : List Recorded). AreFirstRecords c.args.job.now (c.loop-k.k + 1) l) (sym c.in_ok-push.ensures.items) (one_record_more c.args.job.now c.loop-k.k c.loop-k.records.items c.in_ok-first_record.field-0 c.loop-k.invariant c.in_ok-first_record.ensures)

pub returns : goal.returns
returns c =
    let same = ap length c.charges-k-end.ensures.same in
    let all : c.loop-k.k ≡ length c.args.job.now.charges = omega (arith, same, c.loop-k-test.false, c.loop-k.auto.k-end) in
    subst (λ n. AreFirstRecords c.args.job.now n c.loop-k.records.items) all c.loop-k.invariant
