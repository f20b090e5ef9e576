-- What the private words stand for outlasts whatever leaves them and what they tell as they are.
use Rattle.never_cut.proofs.Common.{◌≡◌, ℕ, ◌+◌, ◌%◌, ◌^◌, ◌<◌, ◌≤◌, List, length, filter, refl, sym, ap, ◌∙◌, subst, arith, inl, inr, ◌==◌, slice_index, All, ForSome, Output, Program, Code, Log, Ring, Ack, Memory, store, origin_word, place_in, committed, thread_def, pipe_def, pages_of, Model, PipeModel, thread_of, no_pipe, outputs_of, saved, thread_words, log_of, AreLogged, StandsThread, StandsPipe, StandsPrivate, SamePrivate}
use Rattle.fram_words.specs.Places.{Commit}
use Rattle.std.proofs.Math.Pow.{pow-lt}

-- a commit word without a bit names pages that are there
pub no_pages : (program : Program) (t : ℕ) → 0 < 2 ^ pages_of (thread_def program t)
no_pages program t = let some : 0 < pages_of (thread_def program t) = omega arith in let more : 2 ^ 0 < 2 ^ pages_of (thread_def program t) = pow-lt some in omega (arith, more)

-- the words that commit words, blocks, logs, rings and code have are as they were
pub record SameBlocks (old new : Memory) : Type 0 where
  pub code : (x n : ℕ) → new (Code x n) ≡ old (Code x n)
  pub commit_word : (t : ℕ) → new (Commit t) ≡ old (Commit t)
  pub committed_word : (t w : ℕ) → committed new t w ≡ committed old t w
  pub log : (t n : ℕ) → new (Log t n) ≡ old (Log t n)
  pub ring : (q n : ℕ) → new (Ring q n) ≡ old (Ring q n)

-- the next state has the same in all that private words tell
pub record SamePrivately (program : Program) (m next : Model) : Type 0 where
  pub saves : (t : ℕ) → saved program next t ≡ saved program m t
  pub event : (t : ℕ) → (thread_of next t).event ≡ (thread_of m t).event
  pub pipes : next.pipes ≡ m.pipes
  pub outputs : next.outputs ≡ m.outputs
  pub commits : next.commits ≡ m.commits

outputs_same : (m next : Model) (t : ℕ) → next.outputs ≡ m.outputs → outputs_of next t ≡ outputs_of m t
outputs_same m next t e = ap (λ (l : List Output). filter (λ (o : Output). o.thread.0 == t) l) e

pub thread_stays : (words new : Memory) (program : Program) (m next : Model) (t : ℕ) → SameBlocks words new → SamePrivately program m next →
    StandsThread words program m t → StandsThread new program next t
thread_stays words new program m next t same private h = record {
  stamp = h.stamp;
  origin = h.origin;
  value = h.value;
  block = λ w. same.committed_word t w ∙ (h.block w ∙ ap (λ y. slice_index (thread_words y h.stamp h.origin h.value) w) (sym (private.saves t)));
  event = subst (λ o. ForSome o (λ e. (h.origin ≡ origin_word e.origin) × (h.value ≡ e.value))) (sym (private.event t)) h.event;
  log = subst (λ l. AreLogged (log_of new t) l) (sym (outputs_same m next t private.outputs)) (λ n lt. same.log t n ∙ h.log n lt);
  reached = subst (All (λ (o : Output). o.stamp ≤ h.stamp)) (sym (outputs_same m next t private.outputs)) h.reached;
  pages = subst (λ c. c < 2 ^ pages_of (thread_def program t)) (sym (same.commit_word t)) h.pages;
}

pub pipe_stays : (words new : Memory) (program : Program) (m next : Model) (q : ℕ) → SameBlocks words new → SamePrivately program m next →
    StandsPipe words program m q → StandsPipe new program next q
pipe_stays words new program m next q same private h =
    subst (λ (l : List PipeModel). let p = Rattle.std.specs.Prelude.slice_index_or l q no_pipe in
    (k : ℕ) → k < length p.items → new (Ring q ((p.taken + k) % (pipe_def program q).places)) ≡ slice_index p.items k)
    (sym private.pipes) (λ k lt. same.ring q _ ∙ h k lt)

pub private_stays : (words new : Memory) (program : Program) (m next : Model) → SameBlocks words new → SamePrivately program m next →
    StandsPrivate words program m → StandsPrivate new program next
private_stays words new program m next same private h = record {
  code = λ x n known within. same.code x n ∙ h.code x n known within;
  threads = λ t known. thread_stays words new program m next t same private (h.threads t known);
  stamps = λ t known. rw (same.committed_word t 0, private.commits) (h.stamps t known);
  newest = elim h.newest [
    | inl e ↦ inl (private.commits ∙ e)
    | inr e ↦ inr (e.0, e.1, same.committed_word e.0 0 ∙ (e.2 ∙ sym private.commits))
  ];
  pipes = λ q known. pipe_stays words new program m next q same private (h.pipes q known);
}

-- the committed copy of a thread where the private words are as they were
pub committed-same : (words new : Memory) (t w : ℕ) → SamePrivate words new → committed new t w ≡ committed words t w
committed-same words new t w same = ap (λ c. new (place_in t c w)) (same (Commit t) tt) ∙ same (place_in t (words (Commit t)) w) tt

pub blocks_same : (words new : Memory) → SamePrivate words new → SameBlocks words new
blocks_same words new same = record {
  code = λ x n. same (Code x n) tt;
  commit_word = λ t. same (Commit t) tt;
  committed_word = λ t w. committed-same words new t w same;
  log = λ t n. same (Log t n) tt;
  ring = λ q n. same (Ring q n) tt;
}

-- a store in the words of queues
pub slot_blocks : (words : Memory) (t n v : ℕ) → SameBlocks words (store words (Rattle.fram_words.specs.Places.Slot t n) v)
slot_blocks words t n v = record { code = λ x k. refl; commit_word = λ u. refl; committed_word = λ u w. refl; log = λ u k. refl; ring = λ q k. refl }

pub ack_blocks : (words : Memory) (i v : ℕ) → SameBlocks words (store words (Ack i) v)
ack_blocks words i v = record { code = λ x k. refl; commit_word = λ u. refl; committed_word = λ u w. refl; log = λ u k. refl; ring = λ q k. refl }

pub same_blocks : (words : Memory) → SameBlocks words words
same_blocks words = record { code = λ x k. refl; commit_word = λ u. refl; committed_word = λ u w. refl; log = λ u k. refl; ring = λ q k. refl }
