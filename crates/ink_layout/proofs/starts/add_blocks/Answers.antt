-- A thread has three regions.
use Rattle.ink_layout.proofs.Common.{append_assoc, refl, arith}
use Rattle.ink_layout.proofs.Lengths.{blocks_more}
use Rattle.ink_layout.proofs.starts.add_blocks.Goals as goal

pub loop-thread-preserved : goal.loop-thread-preserved
loop-thread-preserved c =
    let more = blocks_more c.args.threads.now c.loop-thread.thread-index _ c.thread-item.result refl (omega arith) c.thread-item.is in
    rw (c.in_ok-push-3.ensures.items, c.in_ok-push-2.ensures.items, c.in_ok-push.ensures.items, c.loop-thread.invariant, more) (simp append_assoc)
