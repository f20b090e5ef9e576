-- After any calls a read answers the last that was written or else the committed word, and the store of `commit` makes it current.
use Rattle.thread_state.proofs.Common.{◌≡◌, ℕ, ◌/◌, ◌<◌, ◌+◌, List, [], ◌∷◌, arith, refl, ◌∙◌, sym, subst, inl, inr, Option, Some, None, ◌==◌, eqb-true, bit_at, eqb-false, cases_Bool, bit_at-lt, Place, Commit, Memory, perform, answer, Block, Buffer, Copying, Loading, Storing, committed, working, working_mask, no_writes, is_dirty, copy_access, IsCopied, IsOutside, Writes, begun, prepared, taken, Call, Prepare, Copy, Write, Discard, CanCall, CanCallAll, registers_after, memory_after, registers_after_all, memory_after_all, contents_after, last_written, IsLeft, OneStoreCommits}
use Rattle.thread_state.proofs.Pages.{copy_only, copy_committed, copy_working, agree_more, put_committed, put_working, dirty_put_only, no_writes_words, commit_committed}

-- the registers know how far the copying is
abbrev pub IsCopying : Memory → ℕ → Buffer → Option ℕ → Type 0
IsCopying m t b None = b.copying ≡ Loading 0
IsCopying m t b (Some page) = (bit_at b.dirty page ≡ 0) × IsCopied m t b.commit page b.copying

-- what holds between calls
pub record IsGoing (t : ℕ) (start m : Memory) (b : Buffer) (under : Option ℕ) (contents : ℕ → ℕ) : Type 0 where
  pub commit : b.commit ≡ m (Commit t)
  pub kept : (w : ℕ) → committed m t w ≡ committed start t w
  pub holds : (w : ℕ) → working m t b w ≡ contents w
  pub outside : (q : Place) → IsOutside t q → m q ≡ start q
  pub copying : IsCopying m t b under

abbrev pub Goes : ℕ → Memory → Memory → Writes → (ℕ → ℕ) → Type 0
Goes t start m w contents = IsGoing t start m w.buffer w.under_way contents

-- the next access of a copying
copying_after : (t : ℕ) (m : Memory) (block : Block) (c d page : ℕ) (x : Copying) → bit_at d page ≡ 0 → IsCopied m t c page x →
    let b : Buffer = record { commit = c; dirty = d; copying = x } in
    let next = taken (record { block = block; buffer = b; under_way = Some page }) (answer m (copy_access t c page x)) in
    (next.buffer.commit ≡ c) × IsCopying (perform m (copy_access t c page x)) t next.buffer next.under_way
copying_after t m block c d page (Loading k) clean copied = (refl, (clean, (copied.0, copied.1, refl)))
copying_after t m block c d page (Storing k v) clean copied =
    elim (cases_Bool (k == 7)) [
      | inl e ↦ rw e (refl, refl)
      | inr e ↦
          let ne : k ≡ 7 → ⊥ = eqb-false k 7 e in
          let lt : k < 8 = copied.0 in
          let below : k + 1 < 8 = omega arith in
          rw e (refl, (clean, (below, agree_more m t c page k v copied.1 copied.2)))
    ]

copy_goes : (t : ℕ) (start m : Memory) (block : Block) (b : Buffer) (page : ℕ) (contents : ℕ → ℕ) → IsGoing t start m b (Some page) contents →
    let w : Writes = record { block = block; buffer = b; under_way = Some page } in
    Goes t start (memory_after t m w Copy) (registers_after t m w Copy) contents
copy_goes t start m block b page contents g =
    let after = copying_after t m block b.commit b.dirty page b.copying g.copying.0 g.copying.1 in
    record {
      commit = after.0 ∙ (g.commit ∙ sym (copy_only m t b.commit page b.copying (Commit t) tt));
      kept = λ w. subst (λ c. committed (perform m (copy_access t c page b.copying)) t w ≡ committed m t w) (sym g.commit)
          (copy_committed m t page b.copying w) ∙ g.kept w;
      holds = λ w. copy_working m t b page b.copying w g.copying.0 g.copying.1 ∙ g.holds w;
      outside = λ q out. copy_only m t b.commit page b.copying q out ∙ g.outside q out;
      copying = after.1;
    }

prepare_goes : (t : ℕ) (start m : Memory) (block : Block) (b : Buffer) (page : ℕ) (contents : ℕ → ℕ) → IsGoing t start m b None contents →
    Goes t start m (prepared (record { block = block; buffer = b; under_way = None }) page) contents
prepare_goes t start m block b page contents g =
    elim (cases_Bool (is_dirty b page)) [
      | inl e ↦ rw e g
      | inr e ↦
          let clean : bit_at b.dirty page ≡ 0 = let ne : bit_at b.dirty page ≡ 1 → ⊥ = eqb-false _ 1 e in omega (arith, bit_at-lt b.dirty page) in
          let none : IsCopied m t b.commit page (Loading 0) = (omega arith, λ j lt. absurd (omega arith)) in
          rw e (record {
            commit = g.commit;
            kept = g.kept;
            holds = g.holds;
            outside = g.outside;
            copying = (clean, subst (λ x. IsCopied m t b.commit page x) (sym g.copying) none);
          })
    ]

write_goes : (t : ℕ) (start m : Memory) (block : Block) (b : Buffer) (word value : ℕ) (contents : ℕ → ℕ) → bit_at b.dirty (word / 8) ≡ 1 →
    IsGoing t start m b None contents → IsGoing t start (memory_after t m (record { block = block; buffer = b; under_way = None }) (Write word value)) b None (contents_after (committed start t) contents (Write word value))
write_goes t start m block b word value contents dirty g =
    record {
      commit = g.commit ∙ sym (dirty_put_only m t (working_mask b) word value (Commit t) tt);
      kept = λ w. put_committed m t b word value w g.commit dirty ∙ g.kept w;
      holds = λ w. put_working m t b word value w contents g.holds;
      outside = λ q out. dirty_put_only m t (working_mask b) word value q out ∙ g.outside q out;
      copying = g.copying;
    }

discard_goes : (t : ℕ) (start m : Memory) (b : Buffer) (contents : ℕ → ℕ) → IsGoing t start m b None contents →
    IsGoing t start m (no_writes b.commit) None (committed start t)
discard_goes t start m b contents g =
    record {
      commit = g.commit;
      kept = g.kept;
      holds = λ w. subst (λ c. working m t (no_writes c) w ≡ committed m t w) (sym g.commit) (no_writes_words m t w) ∙ g.kept w;
      outside = g.outside;
      copying = refl;
    }

call_goes : (t : ℕ) (start m : Memory) (block : Block) (b : Buffer) (under : Option ℕ) (contents : ℕ → ℕ) (call : Call) →
    let w : Writes = record { block = block; buffer = b; under_way = under } in
    CanCall w call → IsGoing t start m b under contents →
    Goes t start (memory_after t m w call) (registers_after t m w call) (contents_after (committed start t) contents call)
call_goes t start m block b None contents (Prepare word) can g = prepare_goes t start m block b (word / 8) contents g
call_goes t start m block b None contents Copy can g = cc
call_goes t start m block b (Some page) contents Copy can g = copy_goes t start m block b page contents g
call_goes t start m block b None contents (Write word value) can g = write_goes t start m block b word value contents (eqb-true _ 1 can.1) g
call_goes t start m block b None contents Discard can g = discard_goes t start m b contents g
call_goes t start m block b (Some page) contents _ can g = cc

-- any calls keep it
pub calls_go : (t : ℕ) (start m : Memory) (w : Writes) (contents : ℕ → ℕ) (calls : List Call) → CanCallAll t m w calls → Goes t start m w contents →
    Goes t start (memory_after_all t m w calls) (registers_after_all t m w calls) (last_written (committed start t) contents calls)
calls_go t start m w contents [] can g = g
calls_go t start m w contents (call ∷ calls) can g =
    calls_go t start (memory_after t m w call) (registers_after t m w call) (contents_after (committed start t) contents call) calls can.1
    (call_goes t start m w.block w.buffer w.under_way contents call can.0 g)

goes_left : (t : ℕ) (start m : Memory) (w : Writes) (contents : ℕ → ℕ) → Goes t start m w contents → IsLeft t start m w contents
goes_left t start m w contents g = record {
  kept = g.kept;
  reads = g.holds;
  commits = λ word. commit_committed m t (working_mask w.buffer) word ∙ g.holds word;
  outside = g.outside;
}

pub calls_leave : (t : ℕ) (start m : Memory) (w : Writes) (contents : ℕ → ℕ) (calls : List Call) → CanCallAll t m w calls → Goes t start m w contents →
    IsLeft t start (memory_after_all t m w calls) (registers_after_all t m w calls) (last_written (committed start t) contents calls)
calls_leave t start m w contents calls can g =
    goes_left t start (memory_after_all t m w calls) (registers_after_all t m w calls) (last_written (committed start t) contents calls) (calls_go t start m w contents calls can g)

-- before any call
pub begun_goes : (t : ℕ) (block : Block) (m : Memory) → Goes t m m (begun block (m (Commit t))) (committed m t)
begun_goes t block m = record { commit = refl; kept = λ w. refl; holds = no_writes_words m t; outside = λ q out. refl; copying = refl }

pub one_store_commits : OneStoreCommits
one_store_commits t block m calls can = calls_leave t m m (begun block (m (Commit t))) (committed m t) calls can (begun_goes t block m)
