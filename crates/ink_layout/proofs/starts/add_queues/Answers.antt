-- A queue has two regions.
use Rattle.ink_layout.proofs.Common.{append_assoc, refl, arith}
use Rattle.ink_layout.proofs.Lengths.{queues_more}
use Rattle.ink_layout.proofs.starts.add_queues.Goals as goal

pub loop-thread-preserved : goal.loop-thread-preserved
loop-thread-preserved c =
    let more = queues_more c.args.threads.now c.loop-thread.thread-index _ c.thread-item.result refl (omega arith) c.thread-item.is in
    rw (c.in_ok-push-2.ensures.items, c.in_ok-push.ensures.items, c.loop-thread.invariant, more) (simp append_assoc)
