-- What a scan has found at its end.
use Rattle.priority_sched.proofs.Common.{◌≡◌, ℕ, Some, arith, ◌∙◌, subst, same_Some, Program, Memory, Model, pending-later, ScanAt, Clock, Commit, Running, Finished, Origin, Value, First, Slot, Taken, Writer, Written, Item, Timer, Picked, Quiet, ScanMachine, scan_at, scan_result, ArePassedAll, ScanHolds, IsFound, IsQuiet}
use Rattle.priority_sched.specs.declared.scanned.Scanned.{Scanned}

all_quiet : (program : Program) (m : Model) (time : ℕ) → ArePassedAll program m time → IsQuiet program m
all_quiet program m time r = record {
  scan = r.scan;
  scanned = r.scanned;
  passed = λ t known. r.passed t known (omega arith);
  nothing = λ t known. let p = r.passed t known (omega arith) in pending-later program m t r.scan r.scanned p.idle p.looked ∙ p.nothing;
}

pub scan_ends : (program : Program) (words : Memory) (m : Model) (scan : ScanMachine) (found : Scanned) → ScanHolds program words m scan →
    scan_result scan.at ≡ Some found → IsFound program words m found
scan_ends program words m scan found h is = by_row scan.at h is
  where
    by_row : (at : ScanAt) → ScanHolds program words m (scan_at scan.thread scan.time at) → scan_result at ≡ Some found → IsFound program words m found
    by_row (Picked pick) h is = subst (IsFound program words m) (same_Some _ _ is) h.knows
    by_row Quiet h is = subst (IsFound program words m) (same_Some _ _ is) (all_quiet program m scan.time h.knows)
    by_row Clock h is = absurd cc
    by_row Commit h is = absurd cc
    by_row (Running c) h is = absurd cc
    by_row (Finished c running) h is = absurd cc
    by_row (Origin chain) h is = absurd cc
    by_row (Value chain o) h is = absurd cc
    by_row (First chain e) h is = absurd cc
    by_row (Slot c p) h is = absurd cc
    by_row (Taken idle pipe) h is = absurd cc
    by_row (Writer w) h is = absurd cc
    by_row (Written w c) h is = absurd cc
    by_row (Item w) h is = absurd cc
    by_row (Timer idle timer) h is = absurd cc
