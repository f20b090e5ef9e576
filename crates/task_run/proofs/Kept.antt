-- An access that keeps the committed copies, the code, the committed outputs and the items in the rings keeps what the words stand for.
use Rattle.task_run.proofs.Common.{◌≡◌, ◌≢◌, ℕ, ◌+◌, ◌/◌, ◌%◌, ◌^◌, ◌<◌, ◌≤◌, length, arith, refl, ap, ◌∙◌, sym, inl, inr, subst, eqb-true, cases_Bool, cases_eq, bit_at, Place, Code, Commit, Page, Log, Ring, Tail, Slot, Clock, Memory, store, perform, store-other, committed, working_mask, Buffer, IsUnderWay, IsOutside, is_dirty, put_access, copy_only, dirty_put_only, copy_committed, put_committed, Program, thread_def, pipe_def, pages_of, Model, pipe_of, outputs_of, StandsThread, StandsPrivate, StandsForKernel}
use Rattle.push_core.proofs.Queues.{queue_same}

pub thread_frame : (program : Program) (words new : Memory) (m : Model) (t : ℕ) → new (Commit t) ≡ words (Commit t) →
    ((w : ℕ) → committed new t w ≡ committed words t w) →
    ((k : ℕ) → k < length (outputs_of m t) → new (Log t k) ≡ words (Log t k)) →
    StandsThread words program m t → StandsThread new program m t
thread_frame program words new m t commit pages log h = record {
  stamp = h.stamp;
  origin = h.origin;
  value = h.value;
  block = λ w. pages w ∙ h.block w;
  event = h.event;
  log = λ k within. log k within ∙ h.log k within;
  reached = h.reached;
  pages = subst (λ c. c < 2 ^ pages_of (thread_def program t)) (sym commit) h.pages;
}

pub private_frame : (program : Program) (words new : Memory) (m : Model) →
    ((x k : ℕ) → new (Code x k) ≡ words (Code x k)) → ((t : ℕ) → new (Commit t) ≡ words (Commit t)) →
    ((t w : ℕ) → committed new t w ≡ committed words t w) →
    ((t k : ℕ) → k < length (outputs_of m t) → new (Log t k) ≡ words (Log t k)) →
    ((q k : ℕ) → q < length program.pipes → k < length (pipe_of m q).items →
    let n = ((pipe_of m q).taken + k) % (pipe_def program q).places in new (Ring q n) ≡ words (Ring q n)) →
    StandsPrivate words program m → StandsPrivate new program m
private_frame program words new m code commit pages log ring h = record {
  code = λ x k lt within. code x k ∙ h.code x k lt within;
  threads = λ t lt. thread_frame program words new m t (commit t) (pages t) (log t) (h.threads t lt);
  stamps = λ t lt. rw (pages t 0) (h.stamps t lt);
  newest = elim h.newest [ inl e ↦ inl e | inr e ↦ inr (e.0, e.1, pages e.0 0 ∙ e.2) ];
  pipes = λ q lt k within. ring q k lt within ∙ h.pipes q lt k within;
}

-- and one that keeps queues and clock
pub kernel_frame : (program : Program) (words new : Memory) (m : Model) →
    ((t : ℕ) → new (Tail t) ≡ words (Tail t)) → ((t n : ℕ) → new (Slot t n) ≡ words (Slot t n)) → new Clock ≡ words Clock →
    StandsForKernel words program m → StandsForKernel new program m
kernel_frame program words new m tail slot clock h = record {
  queues = λ t lt. queue_same (h.queues t lt) (slot t) (tail t) refl;
  small = h.small;
  clock = clock ∙ h.clock;
}

-- a step of a write changes pages of the thread alone
pub put_step_only : (words : Memory) (t : ℕ) (b : Buffer) (u v : ℕ) (q : Place) → IsOutside t q → perform words (put_access t b u v) q ≡ words q
put_step_only words t b u v q out =
    elim (cases_Bool (is_dirty b (u / 8))) [
      | inl e ↦ rw e (dirty_put_only words t (working_mask b) u v q out)
      | inr e ↦ rw e (copy_only words t b.commit (u / 8) b.copying q out)
    ]

-- and it keeps every committed copy
put_step_own : (words : Memory) (t : ℕ) (b : Buffer) (u v : ℕ) → b.commit ≡ words (Commit t) → IsUnderWay words t b (u / 8) →
    (w : ℕ) → committed (perform words (put_access t b u v)) t w ≡ committed words t w
put_step_own words t b u v is under w =
    elim (cases_Bool (is_dirty b (u / 8))) [
      | inl e ↦ rw e (put_committed words t b u v w is (eqb-true _ _ e))
      | inr e ↦ rw e (rw is (copy_committed words t (u / 8) b.copying w))
    ]

pub put_step_committed : (words : Memory) (t : ℕ) (b : Buffer) (u v : ℕ) → b.commit ≡ words (Commit t) → IsUnderWay words t b (u / 8) →
    (x w : ℕ) → committed (perform words (put_access t b u v)) x w ≡ committed words x w
put_step_committed words t b u v is under x w =
    elim (cases_eq t x) [
      | inl e ↦ subst (λ z. committed (perform words (put_access t b u v)) z w ≡ committed words z w) e (put_step_own words t b u v is under w)
      | inr ne ↦
          let f : (q : Place) → IsOutside t q → perform words (put_access t b u v) q ≡ words q = put_step_only words t b u v in
          ap (λ c. perform words (put_access t b u v) (Page x (w / 8) (bit_at c (w / 8)) (w % 8))) (f (Commit x) tt)
          ∙ f (Page x (w / 8) (bit_at (words (Commit x)) (w / 8)) (w % 8)) (λ e. ne (sym e))
    ]

-- so it keeps what the words stand for
pub put_step_private : (program : Program) (words : Memory) (m : Model) (t : ℕ) (b : Buffer) (u v : ℕ) →
    b.commit ≡ words (Commit t) → IsUnderWay words t b (u / 8) → StandsPrivate words program m → StandsPrivate (perform words (put_access t b u v)) program m
put_step_private program words m t b u v is under h =
    private_frame program words (perform words (put_access t b u v)) m
    (λ x k. put_step_only words t b u v (Code x k) tt)
    (λ x. put_step_only words t b u v (Commit x) tt)
    (put_step_committed words t b u v is under)
    (λ x k within. put_step_only words t b u v (Log x k) tt)
    (λ q k known within. put_step_only words t b u v (Ring q (((pipe_of m q).taken + k) % (pipe_def program q).places)) tt)
    h

pub put_step_kernel : (program : Program) (words : Memory) (m : Model) (t : ℕ) (b : Buffer) (u v : ℕ) →
    StandsForKernel words program m → StandsForKernel (perform words (put_access t b u v)) program m
put_step_kernel program words m t b u v h =
    kernel_frame program words (perform words (put_access t b u v)) m
    (λ x. put_step_only words t b u v (Tail x) tt)
    (λ x n. put_step_only words t b u v (Slot x n) tt)
    (put_step_only words t b u v Clock tt)
    h

-- an output beyond the committed ones
pub log_step_private : (program : Program) (words : Memory) (m : Model) (t n v : ℕ) →
    length (outputs_of m t) ≤ n → StandsPrivate words program m → StandsPrivate (store words (Log t n) v) program m
log_step_private program words m t n v beyond h =
    private_frame program words (store words (Log t n) v) m
    (λ x k. refl)
    (λ x. refl)
    (λ x w. refl)
    (λ x k within. store-other words (Log t n) (Log x k) v λ e.
    let same : t ≡ x = cc in let at : n ≡ k = cc in
    let far : length (outputs_of m x) ≤ n = subst (λ z. length (outputs_of m z) ≤ n) same beyond in
    absurd (omega arith))
    (λ q k known within. refl)
    h

pub log_step_kernel : (program : Program) (words : Memory) (m : Model) (t n v : ℕ) → StandsForKernel words program m → StandsForKernel (store words (Log t n) v) program m
log_step_kernel program words m t n v h = kernel_frame program words (store words (Log t n) v) m (λ x. refl) (λ x k. refl) refl h

-- an item in a ring word that holds none of the pipe's items
pub ring_step_private : (program : Program) (words : Memory) (m : Model) (q n v : ℕ) →
    ((k : ℕ) → k < length (pipe_of m q).items → n ≢ ((pipe_of m q).taken + k) % (pipe_def program q).places) →
    StandsPrivate words program m → StandsPrivate (store words (Ring q n) v) program m
ring_step_private program words m q n v free h =
    private_frame program words (store words (Ring q n) v) m
    (λ x k. refl)
    (λ x. refl)
    (λ x w. refl)
    (λ x k within. refl)
    (λ u k known within. store-other words (Ring q n) (Ring u (((pipe_of m u).taken + k) % (pipe_def program u).places)) v λ e.
    let same : q ≡ u = cc in
    let at : n ≡ ((pipe_of m u).taken + k) % (pipe_def program u).places = cc in
    free k (subst (λ z. k < length (pipe_of m z).items) (sym same) within) (subst (λ z. n ≡ ((pipe_of m z).taken + k) % (pipe_def program z).places) (sym same) at))
    h

pub ring_step_kernel : (program : Program) (words : Memory) (m : Model) (q n v : ℕ) → StandsForKernel words program m → StandsForKernel (store words (Ring q n) v) program m
ring_step_kernel program words m q n v h = kernel_frame program words (store words (Ring q n) v) m (λ x. refl) (λ x k. refl) refl h
