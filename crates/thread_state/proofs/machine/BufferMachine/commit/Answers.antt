-- The mask has no bit that neither the commit word nor the dirty set has.
use Rattle.thread_state.proofs.Common.{subst, bit_xor, xor_lt, IsCommitWord, Writes}
use Rattle.thread_state.proofs.machine.BufferMachine.commit.Goals as goal

pub returns-clause-allowed : goal.returns-clause-allowed
returns-clause-allowed c =
    subst (λ (w : Writes). IsCommitWord w.block (bit_xor w.buffer.commit w.buffer.dirty)) c.self.view_is
    (xor_lt _ _ _ c.self.invariant.allowed c.self.invariant.pages)
