-- All slots of the queue are stored.
use Rattle.ink_layout.proofs.Common.{◌≡◌, ℕ, ◌+◌, arith, subst, thread_def, Holds, slots_until}
use Rattle.ink_layout.proofs.Images.{holds_as}
use Rattle.ink_layout.proofs.Stages.{slots_end}
use Rattle.ink_layout.proofs.image.empty_queue.Goals as goal

pub returns : goal.returns
returns c =
    let all : c.loop-n.n ≡ (thread_def c.args.program.now c.args.t).queue = omega (arith, c.queue_len-n-end.ensures) in
    holds_as c.args.program.now c.loop-n.fram (slots_until c.args.program.now c.args.t (thread_def c.args.program.now c.args.t).queue)
    (slots_until c.args.program.now (c.args.t + 1) 0)
    (subst (λ (n : ℕ). Holds c.args.program.now c.loop-n.fram (slots_until c.args.program.now c.args.t n)) all c.loop-n.invariant)
    (slots_end c.args.program.now c.args.t)
