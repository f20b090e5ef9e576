-- Each access before the commit keeps what is known while a pick is served.
use Rattle.task_run.proofs.Common.{◌≡◌, ℕ, ◌*◌, ◌/◌, ◌^◌, ◌<◌, ◌≤◌, ◌==◌, Bool, true, false, cond, List, length, get_or, arith, refl, ap, ◌∙◌, sym, inl, inr, subst, bit_or, fun_ext, cases_eq, or_lt, bit_at, Commit, Log, Ring, Memory, store, perform, answer, place_in, working, working_mask, no_writes, Buffer, Copying, Loading, Storing, Buffered, IsCopied, IsUnderWay, put, is_dirty, put_access, copy_access, after_copy, copy_only, dirty_put_only, copy_working, copy_goes_on, put_working, is_dirty-true, is_dirty-false, no_writes_words, Program, Sent, thread_def, Pick, pages_of, Model, Saved, saved, thread_words, log_of, AreLogged, StandsThread, Readings, IsSound, IsPicked, Ending, Execution, Phase, WriteCount, LoadTaken, WriteWritten, TaskMachine, Action, Put, Get, Make, action, want, take, rings_of, AreSent, Told, told, Progress, IsReady, Serving}
use Rattle.std.proofs.lemmas.Nat.Bits.{bit_at-lt}
use Rattle.std.proofs.Math.Pow.{pow-lt}

-- the registers in a phase
abbrev pub machine_at : Pick → ℕ → Buffer → Ending → Execution → Phase → TaskMachine
machine_at pick stamp b ending e phase = record { pick = pick; stamp = stamp; buffer = b; ending = ending; execution = e; phase = phase }

-- what one access leaves
abbrev pub Steps : Program → Model → Memory → TaskMachine → Type 0
Steps program m words r = Serving program (perform words (want program r)) m (take program r (answer words (want program r)))

-- what is known in a phase reads commit words, rings and the thread's log alone
pub progress_frame : (words new : Memory) (p : Told) (phase : Phase) → ((t : ℕ) → new (Commit t) ≡ words (Commit t)) →
    ((q n : ℕ) → new (Ring q n) ≡ words (Ring q n)) → ((n : ℕ) → new (Log p.pick.thread.0 n) ≡ words (Log p.pick.thread.0 n)) →
    Progress words p phase → Progress new p phase
progress_frame words new p (WriteCount k) commit ring log h = (h.0, h.1, h.2, h.3, log (length p.y.outputs) ∙ h.4)
progress_frame words new p (LoadTaken s c) commit ring log h = (h.0, h.1 ∙ sym (commit _))
progress_frame words new p (WriteWritten s written) commit ring log h = (h.0, ring s.pipe _ ∙ h.1)
progress_frame words new p _ commit ring log h = h

-- and so does what was sent of rings
pub sent_frame : (words new : Memory) (program : Program) (m : Model) (sends : List Sent) → ((q n : ℕ) → new (Ring q n) ≡ words (Ring q n)) →
    AreSent (rings_of words) program m.pipes sends → AreSent (rings_of new) program m.pipes sends
sent_frame words new program m sends ring h = λ q k known within. ring q _ ∙ h q k known within

-- an action that has not begun to copy
pub ready_fresh : (words : Memory) (t : ℕ) (b : Buffer) (a : Action) → b.copying ≡ Loading 0 → IsReady words t b a
ready_fresh words t b (Get w) fresh = fresh
ready_fresh words t b (Make x) fresh = fresh
ready_fresh words t b (Put w v) fresh =
    let lt : bit_at b.dirty (w / 8) < 2 = bit_at-lt b.dirty (w / 8) in
    elim (cases_eq (bit_at b.dirty (w / 8)) 0) [
      | inl e ↦ inl (e, subst (λ x. IsCopied words t b.commit (w / 8) x) (sym fresh) (omega arith, λ j lt. absurd (omega arith)))
      | inr ne ↦ inr (omega arith, fresh)
    ]

after_copy-commit : (b : Buffer) (p : ℕ) (x : Copying) (word : ℕ) → (after_copy b p x word).commit ≡ b.commit
after_copy-commit b p (Loading k) word = refl
after_copy-commit b p (Storing k v) word = refl

-- the dirty pages of a buffer, with one that was copied
after_copy-dirty : (b : Buffer) (p : ℕ) (x : Copying) (word n : ℕ) → p < n → b.dirty < 2 ^ n → (after_copy b p x word).dirty < 2 ^ n
after_copy-dirty b p (Loading k) word n lt few = few
after_copy-dirty b p (Storing k v) word n lt few = by_last (k == 7)
  where
    by_last : (last : Bool) → cond last (bit_or b.dirty (2 ^ p)) b.dirty < 2 ^ n
    by_last true = or_lt n b.dirty (2 ^ p) few (pow-lt lt)
    by_last false = few

-- the pick is as it was where the thread's commit word is
pub picked_at : (program : Program) (words new : Memory) (m : Model) (pick : Pick) → new (Commit pick.thread.0) ≡ words (Commit pick.thread.0) →
    IsPicked program words m pick → IsPicked program new m pick
picked_at program words new m pick same p = record {
  known = p.known;
  calm = p.calm;
  scan = p.scan;
  scanned = p.scanned;
  time = p.time;
  passed = p.passed;
  pending_is = p.pending_is;
  held = p.held;
  running = p.running;
  position = p.position;
  commit_word = p.commit_word ∙ sym same;
  first = p.first;
  loaded = p.loaded;
}

-- a scan's time has 47 bits
pub picked_time : (program : Program) (readings : Readings) (words : Memory) (m : Model) (pick : Pick) → IsSound program readings m → IsPicked program words m pick → pick.time < 2 ^ 47
picked_time program readings words m pick sound p =
    let is : pick.time ≡ p.scan.time = p.time in
    let early : p.scan.time ≤ m.clock = sound.scan p.scan p.scanned in
    let clock : m.clock < 2 ^ 47 = sound.clock in
    omega arith

-- one access of the copying of a clean page
copy_serving : (program : Program) (m : Model) (words : Memory) (r : TaskMachine) (w v : ℕ) → Serving program words m r → w < 8 * pages_of (thread_def program r.pick.thread.0) →
    ((b : Buffer) → action program (record r { buffer = b }) r.phase ≡ Put w v) →
    bit_at r.buffer.dirty (w / 8) ≡ 0 → IsCopied words r.pick.thread.0 r.buffer.commit (w / 8) r.buffer.copying →
    Serving program (perform words (copy_access r.pick.thread.0 r.buffer.commit (w / 8) r.buffer.copying)) m
    (record r { buffer = after_copy r.buffer (w / 8) r.buffer.copying (answer words (copy_access r.pick.thread.0 r.buffer.commit (w / 8) r.buffer.copying)) })
copy_serving program m words r w v h within act clean copied =
    let t : ℕ = r.pick.thread.0 in
    let b : Buffer = r.buffer in
    let p : ℕ = w / 8 in
    let x : Copying = r.buffer.copying in
    let n : Memory = perform words (copy_access t b.commit p x) in
    let b' : Buffer = after_copy b p x (answer words (copy_access t b.commit p x)) in
    let log : log_of words t ≡ log_of n t = fun_ext (λ k. sym (copy_only words t b.commit p x (Log t k) tt)) in
    record {
      y = h.y;
      sends = h.sends;
      s = h.s;
      o = h.o;
      v = h.v;
      picked = picked_at program words n m r.pick (copy_only words t b.commit p x (Commit t) tt) h.picked;
      stamp = h.stamp;
      buffered = record {
        commit = after_copy-commit b p x (answer words (copy_access t b.commit p x)) ∙ (h.buffered.commit ∙ sym (copy_only words t b.commit p x (Commit t) tt));
        words = λ k. copy_working words t b p x k clean copied ∙ h.buffered.words k;
      };
      ready = subst (λ a. IsReady n t b' a) (sym (act b')) (copy_goes_on words t b p x clean copied);
      logged = subst (λ l. AreLogged l h.y.outputs) log h.logged;
      sent = sent_frame words n program m h.sends (λ q k. copy_only words t b.commit p x (Ring q k) tt) h.sent;
      size = h.size;
      pages = after_copy-dirty b p x (answer words (copy_access t b.commit p x)) (pages_of (thread_def program r.pick.thread.0)) (omega arith) h.pages;
      progress =
          progress_frame words n (told program m r h.y h.sends h.s h.o h.v) r.phase (λ u. copy_only words t b.commit p x (Commit u) tt)
          (λ q k. copy_only words t b.commit p x (Ring q k) tt) (λ k. copy_only words t b.commit p x (Log t k) tt) h.progress;
    }

-- one access of a write, which is done where the page is dirty
pub put_step : (program : Program) (m : Model) (words : Memory) (r : TaskMachine) (w v : ℕ) (next : TaskMachine) → Serving program words m r →
    w < 8 * pages_of (thread_def program r.pick.thread.0) →
    ((b : Buffer) → action program (record r { buffer = b }) r.phase ≡ Put w v) →
    (bit_at r.buffer.dirty (w / 8) ≡ 1 → r.buffer.copying ≡ Loading 0 →
    Serving program (store words (place_in r.pick.thread.0 (working_mask r.buffer) w) v) m next) →
    Serving program (perform words (put_access r.pick.thread.0 r.buffer w v)) m
    (cond (is_dirty r.buffer (w / 8)) next
    (record r { buffer = after_copy r.buffer (w / 8) r.buffer.copying (answer words (put_access r.pick.thread.0 r.buffer w v)) }))
put_step program m words r w v next h within act done =
    let under : IsUnderWay words r.pick.thread.0 r.buffer (w / 8) = subst (λ a. IsReady words r.pick.thread.0 r.buffer a) (act r.buffer) h.ready in
    elim under [
      | inl c ↦ rw (is_dirty-false r.buffer (w / 8) c.0) (copy_serving program m words r w v h within act c.0 c.1)
      | inr d ↦ rw (is_dirty-true r.buffer (w / 8) d.0) (done d.0 d.1)
    ]

-- all that does not depend on the phase
pub record Holding (program : Program) (words : Memory) (m : Model) (r : TaskMachine) (y : Saved) (sends : List Sent) (s o v : ℕ) : Type 0 where
  pub picked : IsPicked program words m r.pick
  pub stamp : r.stamp ≡ m.commits
  pub buffered : Buffered words r.pick.thread.0 r.buffer (λ k. get_or (thread_words y s o v) k 0)
  pub fresh : r.buffer.copying ≡ Loading 0
  pub logged : AreLogged (log_of words r.pick.thread.0) y.outputs
  pub sent : AreSent (rings_of words) program m.pipes sends
  pub size : length y.state ≡ (thread_def program r.pick.thread.0).state
  pub pages : r.buffer.dirty < 2 ^ pages_of (thread_def program r.pick.thread.0)

-- between two actions
pub holding_load : (program : Program) (m : Model) (words : Memory) (r : TaskMachine) → (h : Serving program words m r) → r.buffer.copying ≡ Loading 0 →
    Holding program words m r h.y h.sends h.s h.o h.v
holding_load program m words r h fresh =
    record { picked = h.picked; stamp = h.stamp; buffered = h.buffered; fresh = fresh; logged = h.logged; sent = h.sent; size = h.size; pages = h.pages }

-- after the write on the dirty page
pub holding_put : (program : Program) (m : Model) (words : Memory) (r : TaskMachine) (w u : ℕ) (y : Saved) (sends : List Sent) (s o v : ℕ) →
    (h : Serving program words m r) →
    bit_at r.buffer.dirty (w / 8) ≡ 1 → r.buffer.copying ≡ Loading 0 →
    ((k : ℕ) → put (λ j. get_or (thread_words h.y h.s h.o h.v) j 0) w u k ≡ get_or (thread_words y s o v) k 0) →
    AreLogged (log_of words r.pick.thread.0) y.outputs → AreSent (rings_of words) program m.pipes sends →
    length y.state ≡ (thread_def program r.pick.thread.0).state →
    Holding program (store words (place_in r.pick.thread.0 (working_mask r.buffer) w) u) m r y sends s o v
holding_put program m words r w u y sends s o v h dirty fresh contents logged sent size =
    let t : ℕ = r.pick.thread.0 in
    let b : Buffer = r.buffer in
    let n : Memory = store words (place_in t (working_mask b) w) u in
    let log : log_of words t ≡ log_of n t = fun_ext (λ k. sym (dirty_put_only words t (working_mask b) w u (Log t k) tt)) in
    record {
      picked = picked_at program words n m r.pick (dirty_put_only words t (working_mask b) w u (Commit t) tt) h.picked;
      stamp = h.stamp;
      buffered = record {
        commit = h.buffered.commit ∙ sym (dirty_put_only words t (working_mask b) w u (Commit t) tt);
        words = λ k. put_working words t b w u k (λ j. get_or (thread_words h.y h.s h.o h.v) j 0) h.buffered.words ∙ contents k;
      };
      fresh = fresh;
      logged = subst (λ l. AreLogged l y.outputs) log logged;
      sent = sent_frame words n program m sends (λ q k. dirty_put_only words t (working_mask b) w u (Ring q k) tt) sent;
      size = size;
      pages = h.pages;
    }

-- the next phase, with what the run has come to
pub serving_at : (program : Program) (m : Model) (words : Memory) (r : TaskMachine) (e : Execution) (phase : Phase) (y : Saved) (sends : List Sent) (s o v : ℕ) →
    Holding program words m r y sends s o v → Progress words (told program m (record r { execution = e; phase = phase }) y sends s o v) phase →
    Serving program words m (record r { execution = e; phase = phase })
serving_at program m words r e phase y sends s o v h progress = record {
  y = y;
  sends = sends;
  s = s;
  o = o;
  v = v;
  picked = h.picked;
  stamp = h.stamp;
  buffered = h.buffered;
  ready = ready_fresh words r.pick.thread.0 r.buffer (action program (record r { execution = e; phase = phase }) phase) h.fresh;
  logged = h.logged;
  sent = h.sent;
  size = h.size;
  pages = h.pages;
  progress = progress;
}

-- what the working copy is without writes
pub unwritten : (program : Program) (m : Model) (words : Memory) (t commit : ℕ) (h : StandsThread words program m t) →
    commit ≡ words (Commit t) → Buffered words t (no_writes commit) (λ k. get_or (thread_words (saved program m t) h.stamp h.origin h.value) k 0)
unwritten program m words t commit h is = record {
  commit = is;
  words = λ k. ap (λ c. working words t (no_writes c) k) is ∙ (no_writes_words words t k ∙ h.block k);
}
