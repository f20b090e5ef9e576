-- What is known at the end of a boot.
use Rattle.reboot.proofs.Common.{◌≡◌, ℕ, ◌+◌, ◌<◌, ◌≤◌, false, length, Some, arith, ◌∙◌, sym, inl, inr, Program, Memory, committed, Model, thread_of, Readings, IsCalm, StandsPrivate, Background, BootAt, Commit, Stamp, Finished, Slot, Ack, Empty, Over, BootMachine, boot_at, stamp_at, boot_stamp, IsCounted, BootHolds}
use Rattle.std.proofs.lemmas.Option.{same_Some}
use Rattle.fram_words.specs.Header as header
use Rattle.reboot.proofs.Boots.{up_to}

-- once every stamp counts, the greatest is the number of commits
stamp_all : (program : Program) (words : Memory) (m : Model) (stamp : ℕ) → StandsPrivate words program m →
    ((u : ℕ) → u < length program.threads → IsCounted words u stamp) → stamp ≤ m.commits → stamp ≡ m.commits
stamp_all program words m stamp h counted below =
    elim h.newest [
      | inl e ↦ omega arith
      | inr e ↦ let top : committed words e.0 header.stamp ≤ stamp = counted e.0 e.1 in let newest : committed words e.0 header.stamp ≡ m.commits = e.2 in omega arith
    ]

pub boot_ends : (program : Program) (readings : Readings) (words : Memory) (m : Model) (boot : BootMachine) (stamp : ℕ) → Background program readings words m →
    BootHolds program words m boot → boot_stamp boot ≡ Some stamp → IsCalm program m × (stamp ≡ m.commits)
boot_ends program readings words m boot stamp b h is = by_row boot.at h is
  where
    by_row : (at : BootAt) → BootHolds program words m (boot_at boot.thread boot.stamp at) → stamp_at boot.stamp at ≡ Some stamp → IsCalm program m × (stamp ≡ m.commits)
    by_row Over h is =
        let last : length program.threads ≤ boot.thread.0 + 1 = h.knows.0.last in
        let same : boot.stamp ≡ stamp = same_Some _ _ is in
        let calm = up_to (λ u. (thread_of m u).finished ≡ false) boot.thread.0 h.passed h.knows.0.clear in
        let counted = up_to (λ u. IsCounted words u boot.stamp) boot.thread.0 h.counted h.knows.1 in
        ((λ u known. calm u (omega arith)), sym same ∙ stamp_all program words m boot.stamp b.private (λ u known. counted u (omega arith)) h.below)
    by_row Commit h is = absurd cc
    by_row (Stamp c) h is = absurd cc
    by_row (Finished c) h is = absurd cc
    by_row (Slot p) h is = absurd cc
    by_row (Ack p source count) h is = absurd cc
    by_row (Empty p) h is = absurd cc
