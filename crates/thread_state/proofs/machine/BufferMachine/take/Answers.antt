-- The dirty set gets a page of the block.
use Rattle.thread_state.proofs.Common.{subst, sym, ℕ, Option, None, Buffer, IsKept}
use Rattle.thread_state.proofs.Masks.{copy_kept}
use Rattle.thread_state.proofs.machine.BufferMachine.take.Goals as goal

pub invariant_of-self : goal.invariant_of-self
invariant_of-self c =
    let kept = subst (λ (page : Option ℕ). IsKept c.self.inside.block c.self.inside.buffer page) c.in-Some.is c.self.invariant in
    subst (λ (b : Buffer). IsKept c.self.inside.block b None) (sym c.copied.ensures.registers) (copy_kept _ _ _ _ _ kept)
