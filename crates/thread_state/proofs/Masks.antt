-- The masks of a block have a bit for each page.
use Rattle.thread_state.proofs.Common.{ℕ, ◌^◌, ◌<◌, bit_or, inl, inr, Some, None, ◌==◌, cases_Bool, or_lt, Block, IsCommitWord, pages_of, Buffer, Copying, Loading, Storing, after_copy, IsKept}
use Rattle.std.proofs.Math.Pow.{pow-lt}

-- a page of the block may be marked dirty
marked_allowed : (block : Block) (dirty page : ℕ) → IsCommitWord block dirty → page < pages_of block →
    IsCommitWord block (bit_or dirty (2 ^ page))
marked_allowed block dirty page allowed within = or_lt (pages_of block) dirty (2 ^ page) allowed (pow-lt within)

-- the registers of a block are such after an access of a copying, which is over or not
pub copy_kept : (block : Block) (b : Buffer) (page : ℕ) (x : Copying) (word : ℕ) → IsKept block b (Some page) → IsKept block (after_copy b page x word) None
copy_kept block b page (Loading k) word kept = record { placed = kept.placed; allowed = kept.allowed; pages = kept.pages; within = tt }
copy_kept block b page (Storing k v) word kept =
    elim (cases_Bool (k == 7)) [
      | inl e ↦ rw e (record { placed = kept.placed; allowed = kept.allowed; pages = marked_allowed block b.dirty page kept.pages kept.within; within = tt })
      | inr e ↦ rw e (record { placed = kept.placed; allowed = kept.allowed; pages = kept.pages; within = tt })
    ]
