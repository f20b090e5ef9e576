-- The names that several proofs of this crate cite, passed on from one place. Declares nothing.
pub use Rattle.std.proofs.Common.{Bool, IsNone, IsSome, List, None, Option, Some, [], ap, arith, bit_or, bit_xor, cond, eq-eqb, eqb-true, false, inl, inr, length, ne_eqb, not, refl, replicate, subst, suc, sym, true, zero, ℕ, ◌%◌, ◌*◌, ◌++◌, ◌+◌, ◌-◌, ◌/◌, ◌<◌, ◌==◌, ◌^◌, ◌∙◌, ◌∷◌, ◌≡◌, ◌≢◌}
pub use Rattle.std.proofs.lemmas.Bool.{cases_Bool, cases_eq, eqb-false}
pub use Rattle.std.proofs.lemmas.Nat.{or_lt, xor_lt}
pub use Rattle.std.proofs.lemmas.Nat.Bits.{bit_at-lt, bit_at-pow_other, bit_at-pow_same, bit_at-zero, bit_at_or, bit_at_xor}
pub use Rattle.std.specs.Int.{bit_at}
pub use Rattle.fram_words.specs.Places.{Commit, Memory, Page, Place, answer, perform, store}
pub use Rattle.thread_state.specs.Blocks.{IsCommitWord, pages_of}
pub use Rattle.thread_state.specs.Calls.{Call, CanCall, CanCallAll, Copy, Discard, IsLeft, OneStoreCommits, Prepare, SixteenCopy, Write, contents_after, last_written, memory_after, memory_after_all, registers_after, registers_after_all, resting, taken_all}
pub use Rattle.thread_state.specs.Pages.{AgreeBelow, Buffer, Copying, IsCopied, IsOutside, IsUnderWay, Loading, Storing, after_copy, committed, copy_access, is_dirty, no_writes, place_in, put, put_access, word_in, working, working_mask, write_access}
pub use Rattle.thread_state.specs.Writes.{IsAtRest, IsKept, Writes, begun, prepared, taken}
pub use Rattle.thread_state.specs.declared.block.Block.{Block}
