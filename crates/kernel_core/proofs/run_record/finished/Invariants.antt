use Rattle.kernel_core.proofs.Common.{◌≡◌, ◌++◌, length, map, vec_len, vec_capacity, charge_in}
use Rattle.kernel_core.proofs.run_record.finished.Given as goal

abbrev pub invariant-loop-recording : goal.invariant-loop-recording
invariant-loop-recording l =
    (l.kept.items ≡ map charge_in l.yielded) × (vec_len l.kept ≡ length l.yielded) × (vec_capacity l.kept ≡ vec_capacity l.fn.kept)
    × (l.fn.recordings.items ≡ l.yielded ++ l.recording-iterator.rest.items)
